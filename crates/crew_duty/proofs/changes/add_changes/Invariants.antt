use Rattle.std.proofs.Common.{ℤ, take}
use Rattle.crew_resource.specs.Members.{Member}
use Rattle.crew_duty.specs.Machinery.Kept.{TellChanges}
use Rattle.crew_duty.proofs.changes.add_changes.Given as goal

abbrev pub invariant-loop-flight : goal.invariant-loop-flight
invariant-loop-flight l = record {
  told : TellChanges (take l.flight-index l.flights) l.others l.minutes.items;
  kept : (m : ℤ) → Member l.fn.minutes.items m → Member l.minutes.items m;
}
