use Rattle.std.proofs.Common.{take}
use Rattle.crew_flights.specs.Timetable.{Turns}
use Rattle.crew_duty.specs.Machinery.Held.{over}
use Rattle.crew_duty.specs.Machinery.Kept.{AreKept, IsPast}
use Rattle.crew_duty.proofs.past.Past.blocks.Given as goal

abbrev pub invariant-loop-flight : goal.invariant-loop-flight
invariant-loop-flight l = (turns : Turns) → IsPast l.settings (over l.flights turns) l.self.duties.now l.self.minutes.now → AreKept l.settings (over l.flights turns) l.self.duties.now (take l.flight-index l.flights) l.blocks.items
