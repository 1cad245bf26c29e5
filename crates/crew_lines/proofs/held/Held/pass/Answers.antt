use Rattle.std.proofs.Common.{◌∙◌, ap, drop, rules}
use Rattle.crew_lines.proofs.HeldFacts.{part-passed}
use Rattle.crew_lines.proofs.held.Held.pass.Goals as goal

pub returns : goal.returns
returns c =
    let held = c.self.inside in
    part-passed held.bytes.items held.start held.end c.args.count (search rules) (search rules) ∙ ap (drop c.args.count) (search rules)
