use Rattle.std.proofs.Common.{◌≡◌, ℕ, ◌<◌, ◌≤◌, ◌^◌, Some, length}
use Rattle.std.specs.Prelude.{slice_get}
use Rattle.std.specs.declared.cmp.Ordering.TheVariants.{Less}
use Rattle.crew_carry.specs.Machinery.Matches.{AreTied, DoRise}
use Rattle.crew_carry.proofs.in_line.match_up.Given as goal

-- what has been passed is less than all that is left, and each so far has what is tied with it
abbrev pub invariant-loop-x : goal.invariant-loop-x
invariant-loop-x g l =
    let cmp = g.X.InLine.order in
    (l.next ≤ length l.ys)
    × (length l.places.items ≡ l.x-index)
    × ((p q : ℕ) → slice_get l.places.items p ≡ Some (Some q) → AreTied cmp l.xs l.ys p q)
    × (DoRise cmp l.xs → (p k : ℕ) (x y : g.row.X.Denot) → l.x-index ≤ p → slice_get l.xs p ≡ Some x → k < l.next → slice_get l.ys k ≡ Some y → cmp y x ≡ Less)
    × (DoRise cmp l.xs → DoRise cmp l.ys → length l.ys < 2 ^ 32 → (p q : ℕ) → p < l.x-index → AreTied cmp l.xs l.ys p q → slice_get l.places.items p ≡ Some (Some q))
