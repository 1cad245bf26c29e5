use Rattle.std.proofs.Common.{◌≡◌, ℕ, ℤ, List, map, take}
use Rattle.crew_plan.proofs.alike.are_same_bases.Given as goal

abbrev pub invariant-loop-place : goal.invariant-loop-place
invariant-loop-place l = take l.place l.bases ≡ map (λ (base : List ℕ × ℤ). base.0) (take l.place l.priced)
