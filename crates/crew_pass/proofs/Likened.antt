-- Pools whose walks are of twins are alike.
use Rattle.std.proofs.Common.{◌≡◌, ◌∙◌, ◌<◌, ◌≤◌, ℕ, List, [], ◌∷◌, Option, Some, get_or, length, map, inl, inr, refl, sym, ap, ap₂, arith}
use Rattle.std.specs.Prelude.{slice_get}
use Rattle.crew_label.specs.Alike.{AreTwinEntries, AreTwinWalks}
use Rattle.crew_label.specs.Walks.{shown, walk_of}
use Rattle.crew_label.specs.declared.label.Label.{Label}
use Rattle.crew_label.specs.declared.label.Link.{Link}
use Rattle.crew_labelling.proofs.Keyed.{key-of}
use Rattle.crew_pairing.specs.Legs.{Leg}
use Rattle.crew_pairing.specs.declared.duty.Duty.{Duty}
use Rattle.crew_pool.specs.Ranks.{by_key, key_at}
use Rattle.crew_resource.specs.Members.{Each, Member}

first-same : {A : Type 0} (x y : A) (xs ys : List A) → x ∷ xs ≡ y ∷ ys → x ≡ y
first-same x y xs ys e = (cc)

rest-same : {A : Type 0} (x y : A) (xs ys : List A) → x ∷ xs ≡ y ∷ ys → xs ≡ ys
rest-same x y xs ys e = (cc)

module _ (here there : List Duty) (twins : List ℕ) (few : length there ≤ 200_000)
    (are : (rank other : ℕ) → slice_get twins rank ≡ Some other → other < 200_000 → (d : Duty) × (slice_get here rank ≡ Some d) × (slice_get there other ≡ Some d)) where
  abbrev AreRanks : List ℕ → Type 0
  AreRanks k = Each (λ rank. rank < length there) k

  -- walks of twins have the same keys
  pub same-keys : (k l : List ℕ) → AreRanks l → AreTwinWalks twins k l → map (key_at here) k ≡ map (key_at there) l
  same-keys [] [] ranks h = refl
  same-keys [] (b ∷ bs) ranks h = absurd (let q : ⊥ = (cc) in q)
  same-keys (a ∷ more) [] ranks h = absurd (let q : ⊥ = (cc) in q)
  same-keys (a ∷ more) (b ∷ bs) ranks h =
      let first : slice_get twins a ≡ Some b = (cc) in
      let rest : map (slice_get twins) more ≡ map Some bs = (cc) in
      let within = ranks.0 in
      let d = are a b first (omega (arith, within, few)) in
      ap₂ (λ (x : List Leg) (xs : List (List Leg)). x ∷ xs) (key-of here a d.0 d.1 ∙ sym (key-of there b d.0 d.2)) (same-keys more bs ranks.1 rest)

  module _ {V : Type 0} (trail trail-there : Link → List ℕ) where
    -- and so have labels
    pub keys-alike : (ls ms : List (Label V)) → ((m : Label V) → Member ms m → AreRanks (walk_of trail-there m.before)) → AreTwinEntries twins (map (shown trail) ls) (map (shown trail-there) ms)
        → by_key here (map (shown trail) ls) ≡ by_key there (map (shown trail-there) ms)
    keys-alike [] [] ranks h = refl
    keys-alike [] (m ∷ ms) ranks h = absurd (let q : ⊥ = (cc) in q)
    keys-alike (l ∷ ls) [] ranks h = absurd (let q : ⊥ = (cc) in q)
    keys-alike (l ∷ ls) (m ∷ ms) ranks h =
        let heads = first-same (l.value, map (slice_get twins) (walk_of trail l.before)) (m.value, map Some (walk_of trail-there m.before)) _ _ h in
        let value : l.value ≡ m.value = ap (λ (e : V × List (Option ℕ)). e.0) heads in
        let walk : AreTwinWalks twins (walk_of trail l.before) (walk_of trail-there m.before) = ap (λ (e : V × List (Option ℕ)). e.1) heads in
        let rest : AreTwinEntries twins (map (shown trail) ls) (map (shown trail-there) ms) = rest-same (l.value, map (slice_get twins) (walk_of trail l.before)) (m.value, map Some (walk_of trail-there m.before)) _ _ h in
        ap₂ (λ (x : V × List (List Leg)) (xs : List (V × List (List Leg))). x ∷ xs)
        (ap₂ (λ (v : V) (k : List (List Leg)). (v, k)) value (same-keys (walk_of trail l.before) (walk_of trail-there m.before) (ranks m (inl refl)) walk))
        (keys-alike ls ms (λ n k. ranks n (inr k)) rest)
