-- Labels that rise: each value stands in one place, and the same labels make the same list.
use Rattle.std.proofs.Common.{◌≡◌, ◌∙◌, ℕ, zero, suc, List, [], ◌∷◌, Some, refl, sym, ap, Ordering}
use Rattle.std.specs.Prelude.{slice_get}
use Rattle.std.specs.Cmp.{IsTotalOrder}
use Rattle.std.specs.declared.cmp.Ordering.TheVariants.{Less, Equal}
use Rattle.std.proofs.lemmas.Cmp.{on_total, tied_itself}
use Rattle.crew_label.specs.Pools.{AreRising}
use Rattle.crew_label.specs.declared.label.Label.{Label}
use Rattle.crew_label.proofs.RisingLists.{each-member}
use Rattle.crew_net.proofs.Slices.{member-got}
use Rattle.crew_resource.specs.Members.{Member}
use Rattle.crew_resource.proofs.Rising.{Rising, same-rising}

module _ {V : Type 0} (cmp : V → V → Ordering) (total : IsTotalOrder cmp) where
  abbrev by_value : Label V → Label V → Ordering
  by_value l m = cmp l.value m.value

  rising-too : (ls : List (Label V)) → AreRising cmp ls → Rising by_value ls
  rising-too [] h = tt
  rising-too (l ∷ ls) h = (h.0, rising-too ls h.1)

  -- lists that rise and have the same labels are the same
  pub same-labels : (ls ms : List (Label V)) → AreRising cmp ls → AreRising cmp ms → ((l : Label V) → Member ls l → Member ms l) → ((l : Label V) → Member ms l → Member ls l) → ls ≡ ms
  same-labels ls ms h k f g = same-rising by_value (on_total (λ (l : Label V). l.value) total) ls ms (rising-too ls h) (rising-too ms k) f g

  never-less : (a b : V) → cmp a b ≡ Less → a ≡ b → ⊥
  never-less a b h e = let q : Less ≡ Equal = sym h ∙ (ap (λ z. cmp z b) e ∙ tied_itself total b) in let k : ⊥ = (cc) in k

  -- a value stands in one place
  pub one-place : (ls : List (Label V)) → AreRising cmp ls → (i j : ℕ) (l m : Label V) → slice_get ls i ≡ Some l → slice_get ls j ≡ Some m → l.value ≡ m.value → i ≡ j
  one-place [] h i j l m p q e = absurd (let r : ⊥ = (cc) in r)
  one-place (x ∷ xs) h zero zero l m p q e = refl
  one-place (x ∷ xs) h zero (suc j) l m p q e =
      let first : x ≡ l = (cc) in
      absurd (never-less x.value m.value (each-member (λ (z : Label V). cmp x.value z.value ≡ Less) xs m h.0 (member-got xs j m q)) (ap (λ (z : Label V). z.value) first ∙ e))
  one-place (x ∷ xs) h (suc i) zero l m p q e =
      let first : x ≡ m = (cc) in
      absurd (never-less x.value l.value (each-member (λ (z : Label V). cmp x.value z.value ≡ Less) xs l h.0 (member-got xs i l p)) (ap (λ (z : Label V). z.value) first ∙ sym e))
  one-place (x ∷ xs) h (suc i) (suc j) l m p q e = ap suc (one-place xs h.1 i j l m p q e)
