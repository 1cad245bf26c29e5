use Rattle.std.proofs.Common.{◌≡◌, ◌∙◌, Some, refl, sym, ap}
use Rattle.std.specs.Arc.{arc_value}
use Rattle.crew_core.proofs.Stepped as by
use Rattle.crew_core.proofs.Stepped.{with_board}
use Rattle.crew_core.specs.declared.reply.Reply.TheVariants as Told
use Rattle.crew_core.proofs.machine.Machine.ask.Goals as goal

pub returns : goal.returns
returns c =
    let value : arc_value c.in_ok-version.version ≡ arc_value c.latest.result.now = c.in_ok-version.ensures in
    λ state is. by.answered c.args.self.now state is c.args.reader (arc_value c.in_ok-version.version) (Told.Answered c.args.reader c.in_ok-version.version) (λ place v e. (refl, e)) (c.latest.ensures ∙ ap Some (sym value))
