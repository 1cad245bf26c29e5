use Rattle.std.proofs.Common.{subst}
use Rattle.crew_machine.proofs.Alike.{same-front-of}
use Rattle.crew_machine.specs.Crew.{DutyNode, IsFrontOf}
use Rattle.crew_version.specs.Versions.{timetable_of}
use Rattle.crew_job.proofs.kept.has_front.Goals as goal

pub returns-then-has_node : goal.returns-then-has_node
returns-then-has_node c =
    let v = c.args.sealed.now in
    let t = timetable_of v.entries in
    let n : DutyNode = record { base = c.args.code; duty = c.args.duty.now } in (
      λ e. (c.has_node.ensures.0 c.if-has_node.true, subst (IsFrontOf v.settings t n) (c.is_same_front.ensures.0 e) c.sealed_front.ensures),
      λ h. c.is_same_front.ensures.1 (same-front-of v.settings c.settings-settings.ensures.checked t n c.sealed_front.result c.args.front.now c.sealed_front.ensures h.1),
    )
