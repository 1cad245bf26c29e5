-- Labels that rise by value.
use Rattle.std.proofs.Common.{◌≡◌, Bool, true, false, cond, List, [], ◌∷◌, ◌++◌, inl, inr, refl, Ordering, subst}
use Rattle.std.specs.List.{filter}
use Rattle.std.specs.declared.cmp.Ordering.TheVariants.{Less}
use Rattle.crew_resource.specs.Members.{Each, Member}
use Rattle.crew_label.specs.Pools.{AreRising}
use Rattle.crew_label.specs.declared.label.Label.{Label}

pub each-member : {X : Type 0} (P : X → Type 0) (xs : List X) (x : X) → Each P xs → Member xs x → P x
each-member P [] x h m = absurd m
each-member P (y ∷ ys) x h (inl e) = subst P e h.0
each-member P (y ∷ ys) x h (inr m) = each-member P ys x h.1 m

pub each-append : {X : Type 0} (P : X → Type 0) (xs : List X) (x : X) → Each P xs → P x → Each P (xs ++ x ∷ [])
each-append P [] x h p = (p, tt)
each-append P (y ∷ ys) x h p = (h.0, each-append P ys x h.1 p)

each-filter : {X : Type 0} (P : X → Type 0) (p : X → Bool) (xs : List X) → Each P xs → Each P (filter p xs)
each-filter P p [] h = tt
each-filter P p (x ∷ xs) h =
    let rest = each-filter P p xs h.1 in
    elim (p x) as (λ b. Each P (cond b (x ∷ filter p xs) (filter p xs))) [ true ↦ (h.0, rest) | false ↦ rest ]

module _ {V : Type 0} (cmp : V → V → Ordering) where
  -- one that all others come before
  pub rising-append : (ls : List (Label V)) (x : Label V) → AreRising cmp ls → ((l : Label V) → Member ls l → cmp l.value x.value ≡ Less) → AreRising cmp (ls ++ x ∷ [])
  rising-append [] x h b = (tt, tt)
  rising-append (l ∷ ls) x h b =
      (each-append (λ m. cmp l.value m.value ≡ Less) ls x h.0 (b l (inl refl)), rising-append ls x h.1 (λ m k. b m (inr k)))

  pub rising-filter : (p : Label V → Bool) (ls : List (Label V)) → AreRising cmp ls → AreRising cmp (filter p ls)
  rising-filter p [] h = tt
  rising-filter p (l ∷ ls) h =
      let first = each-filter (λ m. cmp l.value m.value ≡ Less) p ls h.0 in
      let rest = rising-filter p ls h.1 in
      elim (p l) as (λ b. AreRising cmp (cond b (l ∷ filter p ls) (filter p ls))) [ true ↦ (first, rest) | false ↦ rest ]
