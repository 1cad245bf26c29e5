-- Labels with the same values and walks of twins.
use Rattle.std.proofs.Common.{◌≡◌, ℕ, List, [], ◌∷◌, Option, Some, get_or, drop, length, map, refl, sym, ◌∙◌, ap, ap₂, arith}
use Rattle.std.specs.Prelude.{slice_get}
use Rattle.std.proofs.lemmas.Simd.{map-map}
use Rattle.crew_label.specs.Alike.{AreTwinEntries, AreTwinWalks}
use Rattle.crew_label.specs.Walks.{shown, walk_of}
use Rattle.crew_label.specs.declared.label.Label.{Label}
use Rattle.crew_label.specs.declared.label.Link.{Link}

-- a label's value, and the twins of its walk's duties
abbrev pub twins_of : {V : Type 0} → List ℕ → (Link → List ℕ) → Label V → V × List (Option ℕ)
twins_of twins trail l = (l.value, map (slice_get twins) (walk_of trail l.before))

-- a label's value, and its walk's duties as twins
abbrev pub told_of : {V : Type 0} → (Link → List ℕ) → Label V → V × List (Option ℕ)
told_of trail l = (l.value, map Some (walk_of trail l.before))

module _ {V : Type 0} (twins : List ℕ) (here there : Link → List ℕ) where
  -- two labels side by side
  pub one_alike : (l m : Label V) → (l.value ≡ m.value) × AreTwinWalks twins (walk_of here l.before) (walk_of there m.before) → twins_of twins here l ≡ told_of there m
  one_alike l m h = ap₂ {C = V × List (Option ℕ)} (λ v w. (v, w)) h.0 h.1

  pub alike_one : (l m : Label V) → twins_of twins here l ≡ told_of there m → (l.value ≡ m.value) × AreTwinWalks twins (walk_of here l.before) (walk_of there m.before)
  alike_one l m h = (ap (λ (p : V × List (Option ℕ)). p.0) h, ap (λ (p : V × List (Option ℕ)). p.1) h)

  -- labels side by side, and the entries that they show
  module _ (ls ms : List (Label V)) where
    made : map {B = V × List (Option ℕ)} (λ (e : V × List ℕ). (e.0, map (slice_get twins) e.1)) (map (shown here) ls) ≡ map (twins_of twins here) ls
    made = map-map {C = V × List (Option ℕ)} (λ (e : V × List ℕ). (e.0, map (slice_get twins) e.1)) (shown here) ls

    told : map {B = V × List (Option ℕ)} (λ (e : V × List ℕ). (e.0, map Some e.1)) (map (shown there) ms) ≡ map (told_of there) ms
    told = map-map {C = V × List (Option ℕ)} (λ (e : V × List ℕ). (e.0, map Some e.1)) (shown there) ms

    pub as_entries : map (twins_of twins here) ls ≡ map (told_of there) ms → AreTwinEntries twins (map (shown here) ls) (map (shown there) ms)
    as_entries h = made ∙ (h ∙ sym told)

    pub as_labels : AreTwinEntries twins (map (shown here) ls) (map (shown there) ms) → map (twins_of twins here) ls ≡ map (told_of there) ms
    as_labels h = sym made ∙ (h ∙ told)

  -- with the same links too they are the same
  one_label : (l m : Label V) → l.before ≡ m.before → twins_of twins here l ≡ told_of there m → l ≡ m
  one_label l m b e = ap₂ {C = Label V} (λ v o. record { value = v; before = o }) (alike_one l m e).0 b

  same : (ls ms : List (Label V)) → map (λ (l : Label V). l.before) ls ≡ map (λ (l : Label V). l.before) ms → map (twins_of twins here) ls ≡ map (told_of there) ms → ls ≡ ms
  same [] [] b e = refl
  same [] (m ∷ ms) b e = let n = ap length e in absurd (omega arith)
  same (l ∷ ls) [] b e = let n = ap length e in absurd (omega arith)
  same (l ∷ ls) (m ∷ ms) b e =
      ap₂ {C = List (Label V)} (λ x xs. x ∷ xs)
      (one_label l m (ap (λ (zs : List (Option Link)). get_or zs 0 l.before) b) (ap (λ (zs : List (V × List (Option ℕ))). get_or zs 0 (twins_of twins here l)) e))
      (same ls ms (ap (drop 1) b) (ap (drop 1) e))

  pub same_labels : (ls ms : List (Label V)) → map (λ (l : Label V). l.before) ls ≡ map (λ (l : Label V). l.before) ms → AreTwinEntries twins (map (shown here) ls) (map (shown there) ms) → ls ≡ ms
  same_labels ls ms b e = same ls ms b (as_labels ls ms e)
