use Rattle.std.proofs.Common.{◌≡◌, ◌<◌, ℕ, List, Some, true, false, get_or, length}
use Rattle.std.specs.Prelude.{◌↔◌, slice_get}
use Rattle.std.specs.FinMap as map
use Rattle.crew_dirty.proofs.bases.same_prices.Given as goal

-- the bases so far have their flags
abbrev pub invariant-loop-base : goal.invariant-loop-base
invariant-loop-base l =
    (length l.flags.items ≡ l.base-index)
    × ((place : ℕ) (base : List ℕ) → place < l.base-index → slice_get l.bases place ≡ Some base
    → (get_or l.flags.items place false ≡ true) ↔ (map.get l.old.bases base ≡ map.get l.new.bases base))
