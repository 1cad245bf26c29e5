use Rattle.std.proofs.Common.{◌-◌, ◌∙◌}
use Rattle.crew_lines.proofs.HeldFacts.{held-more}
use Rattle.crew_lines.proofs.held.Held.fill.Goals as goal

pub returns-clause-kept : goal.returns-clause-kept
returns-clause-kept g c =
    let held = c.self.inside in
    held-more (g.R.Read.remaining c.args.reader.now) (g.R.Read.remaining c.read_behind.new.reader) c.args.self.now c.read_behind.new.bytes.items (held.end - held.start) c.in_ok-count.count
    (c.in_ok-count.ensures.front ∙ c.move_to_front.ensures.part ∙ c.self.view_is) c.in_ok-count.ensures.read
