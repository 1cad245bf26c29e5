use Rattle.std.proofs.Common.{take}
use Rattle.crew_duty.specs.Machinery.Held.{over}
use Rattle.crew_duty.specs.Machinery.Plans.{AreNext}
use Rattle.crew_duty.proofs.beside.all_next_beside.Given as goal

abbrev pub invariant-loop-flight : goal.invariant-loop-flight
invariant-loop-flight l = AreNext l.settings (over l.flights l.turns) (take l.flight-index l.flights) l.next.items
