use Rattle.std.proofs.Common.{◌≡◌, take}
use Rattle.crew_plan.proofs.alike.are_same_duties.Given as goal

abbrev pub invariant-loop-place : goal.invariant-loop-place
invariant-loop-place l = take l.place l.one ≡ take l.place l.other
