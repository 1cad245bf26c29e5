-- Ranks whose duties are the same in both networks.
use Rattle.std.proofs.Common.{◌≡◌, ◌<◌, ◌^◌, ◌∷◌, [], ◌∙◌, ℕ, zero, suc, inl, inr, List, Option, Some, None, ap, length, map, refl, sym, arith}
use Rattle.std.specs.Prelude.{slice_get}
use Rattle.std.proofs.lemmas.Option.{get_or_from_slice_get}
use Rattle.crew_carry.specs.Carried.{AreTwinWalks, twin_of}
use Rattle.crew_carry.specs.Machinery.Sames.{AreSameDuties}
use Rattle.crew_pairing.specs.Duties.{RiseByKey}
use Rattle.crew_pairing.specs.declared.duty.Duty.{Duty}
use Rattle.crew_resource.specs.Members.{Member}

there : {X : Type 0} (xs : List X) (i : ℕ) → i < length xs → (x : X) × (slice_get xs i ≡ Some x)
there [] i h = absurd (omega (arith, h))
there (x ∷ xs) zero h = (x, refl)
there (x ∷ xs) (suc i) h = there xs i (omega (arith, h))

listed : (same : List (Option ℕ)) (r k : ℕ) → twin_of same r ≡ Some k → slice_get same r ≡ Some (Some k)
listed [] r k e = absurd (let q : ⊥ = (cc) in q)
listed (o ∷ os) zero k e = ap (λ (z : Option ℕ). Some z) e
listed (o ∷ os) (suc r) k e = listed os r k e

heads : {X : Type 0} (x y : X) (xs ys : List X) → x ∷ xs ≡ y ∷ ys → (x ≡ y) × (xs ≡ ys)
heads x y xs ys e =
    let a : x ≡ y = (cc) in
    let b : xs ≡ ys = (cc) in
    (a, b)

module _ (olds news : List Duty) (same : List (Option ℕ)) (are : AreSameDuties olds news same) where
  -- ranks that are twins by the list have the same duties, one by one
  pub duties-same : (rs ks : List ℕ) → AreTwinWalks same rs ks → map (slice_get olds) rs ≡ map (slice_get news) ks
  duties-same [] [] e = refl
  duties-same [] (k ∷ ks) e = absurd (let q : ⊥ = (cc) in q)
  duties-same (r ∷ rs) [] e = absurd (let q : ⊥ = (cc) in q)
  duties-same (r ∷ rs) (k ∷ ks) e =
      let h = heads _ _ _ _ e in
      let this = are.there r k (listed same r k h.0) in
      let others = duties-same rs ks h.1 in
      (λ i. this i ∷ others i)

  module _ (ro : RiseByKey olds) (rn : RiseByKey news) (few : length news < 2 ^ 32) where
    twin : (r k : ℕ) → r < length olds → slice_get olds r ≡ slice_get news k → twin_of same r ≡ Some k
    twin r k h e =
        let d = there olds r h in
        get_or_from_slice_get same r (Some k) None (are.all ro rn few r k d.0 d.1 (sym e ∙ d.1))

    -- and ranks that have the same duties, one by one, are twins by the list
    pub ranks-same : (rs ks : List ℕ) → ((r : ℕ) → Member rs r → r < length olds) → map (slice_get olds) rs ≡ map (slice_get news) ks → AreTwinWalks same rs ks
    ranks-same [] [] within e = refl
    ranks-same [] (k ∷ ks) within e = absurd (let q : ⊥ = (cc) in q)
    ranks-same (r ∷ rs) [] within e = absurd (let q : ⊥ = (cc) in q)
    ranks-same (r ∷ rs) (k ∷ ks) within e =
        let h = heads _ _ _ _ e in
        let this = twin r k (within r (inl refl)) h.0 in
        let others = ranks-same rs ks (λ n m. within n (inr m)) h.1 in
        (λ i. this i ∷ others i)
