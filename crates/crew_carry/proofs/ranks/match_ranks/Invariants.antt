use Rattle.std.proofs.Common.{◌≡◌, ℕ, ◌<◌, ◌≤◌, ◌^◌, Some, length}
use Rattle.std.specs.Prelude.{slice_get}
use Rattle.std.specs.declared.cmp.Ordering.TheVariants.{Less}
use Rattle.crew_carry.specs.Machinery.Matches.{AreTied, DoRise}
use Rattle.crew_pairing.specs.Keys.{key_cmp}
use Rattle.crew_pairing.specs.declared.duty.Duty.{Duty}
use Rattle.crew_carry.proofs.ranks.match_ranks.Given as goal

-- what has been passed is less than all that is left, and each so far has what is tied with it
abbrev pub invariant-loop-rank : goal.invariant-loop-rank
invariant-loop-rank l =
    let cmp = λ (d e : Duty). key_cmp d.key e.key in
    (l.next ≤ length l.ys)
    × (length l.places.items ≡ l.rank)
    × ((p q : ℕ) → slice_get l.places.items p ≡ Some (Some q) → AreTied cmp l.xs l.ys p q)
    × (DoRise cmp l.xs → (p k : ℕ) (x y : Duty) → l.rank ≤ p → slice_get l.xs p ≡ Some x → k < l.next → slice_get l.ys k ≡ Some y → cmp y x ≡ Less)
    × (DoRise cmp l.xs → DoRise cmp l.ys → length l.ys < 2 ^ 32 → (p q : ℕ) → p < l.rank → AreTied cmp l.xs l.ys p q → slice_get l.places.items p ≡ Some (Some q))
