use Rattle.std.proofs.Common.{◌≡◌, ◌+◌, ℕ, cond, get_or, take}
use Rattle.std.specs.Prelude.{nat_eq}
use Rattle.std.specs.List.{list_any}
use Rattle.crew_plan.proofs.taken.count_each.Given as goal

abbrev pub invariant-loop-place : goal.invariant-loop-place
invariant-loop-place l = (k : ℕ) → get_or l.counts k 0 ≡ get_or l.initial.counts k 0 + cond (list_any (nat_eq k) (take l.place l.flights)) 1 0
