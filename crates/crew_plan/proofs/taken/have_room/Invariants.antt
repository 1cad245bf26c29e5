use Rattle.std.proofs.Common.{◌≡◌, true, get_or, take}
use Rattle.std.specs.Prelude.{nat_lt}
use Rattle.std.specs.List.{list_all}
use Rattle.crew_plan.proofs.taken.have_room.Given as goal

abbrev pub invariant-loop-flight : goal.invariant-loop-flight
invariant-loop-flight l = list_all (λ flight. nat_lt (get_or l.counts flight 0) l.share) (take l.flight-index l.flights) ≡ true
