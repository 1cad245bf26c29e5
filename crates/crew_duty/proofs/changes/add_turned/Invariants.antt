use Rattle.std.proofs.Common.{ℤ, take}
use Rattle.crew_resource.specs.Members.{Member}
use Rattle.crew_duty.specs.Machinery.Kept.{TellTurns}
use Rattle.crew_duty.proofs.changes.add_turned.Given as goal

abbrev pub invariant-loop-flight : goal.invariant-loop-flight
invariant-loop-flight l = record {
  told : TellTurns (take l.flight-index l.flights) l.turns l.earlier l.minutes.items;
  kept : (m : ℤ) → Member l.fn.minutes.items m → Member l.minutes.items m;
}
