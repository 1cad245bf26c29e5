use Rattle.std.proofs.Common.{◌≡◌, ◌<◌, ℕ, Some, length}
use Rattle.std.specs.Prelude.{slice_get}
use Rattle.crew_pairing.specs.declared.duty.Duty.{Duty}
use Rattle.crew_carry.proofs.twins.same_ranks.Given as goal

-- those so far are the same, and none is missing
abbrev pub invariant-loop-rank : goal.invariant-loop-rank
invariant-loop-rank l =
    (length l.same.items ≡ l.rank)
    × ((r k : ℕ) → slice_get l.same.items r ≡ Some (Some k) → slice_get l.olds r ≡ slice_get l.news k)
    × ((r k : ℕ) (d : Duty) → r < l.rank → slice_get l.ranks r ≡ Some (Some k) → slice_get l.olds r ≡ Some d → slice_get l.news k ≡ Some d → slice_get l.same.items r ≡ Some (Some k))
