use Rattle.crew_pass.specs.Machinery.Twins.{IsTwin}
use Rattle.crew_pass.proofs.Twinned.{AreSoFar}
use Rattle.crew_pass.proofs.twins.event_twins.Given as goal

abbrev pub invariant-loop-event : goal.invariant-loop-event
invariant-loop-event g l = AreSoFar (IsTwin l.events l.others) l.event-index l.twins.items
