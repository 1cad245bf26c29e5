use Rattle.std.proofs.Common.{◌≡◌, true, get_or, take}
use Rattle.std.specs.Prelude.{nat_lt}
use Rattle.std.specs.List.{flat_map, list_all}
use Rattle.crew_solve.specs.Apart.{flown_on}
use Rattle.crew_solve.proofs.taken.legs_have_room.Given as goal

abbrev pub invariant-loop-leg : goal.invariant-loop-leg
invariant-loop-leg l = list_all (λ flight. nat_lt (get_or l.counts flight 0) l.share) (flat_map flown_on (take l.leg-index l.legs)) ≡ true
