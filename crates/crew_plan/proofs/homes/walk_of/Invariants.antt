use Rattle.std.proofs.Common.{◌≡◌, take}
use Rattle.crew_plan.proofs.homes.walk_of.Given as goal

abbrev pub invariant-loop-place : goal.invariant-loop-place
invariant-loop-place l = l.keys.items ≡ take l.place l.walk
