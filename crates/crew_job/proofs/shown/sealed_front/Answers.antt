use Rattle.crew_job.proofs.SealedNodes.{front-by-key}
use Rattle.crew_machine.specs.Crew.{DutyNode}
use Rattle.crew_version.specs.Versions.{timetable_of}
use Rattle.crew_job.proofs.shown.sealed_front.Goals as goal

pub returns : goal.returns
returns c =
    let v = c.args.sealed.now in
    let n : DutyNode = record { base = c.args.base; duty = c.args.duty.now } in
    front-by-key v.settings (timetable_of v.entries) c.number-number.ensures.right.few n c.in-Some.front c.requires c.in-Some.ensures
