-- Items that stand in chunks, one chunk after another.
use Rattle.std.proofs.Common.{◌≡◌, ◌<◌, ◌≤◌, ◌-◌, ◌++◌, ℕ, zero, suc, List, [], ◌∷◌, length, map, take, drop, refl, sym, ap, ◌∙◌, append_assoc, arith}
use Rattle.std.specs.Prelude.{Vec, slice_get}
use Rattle.std.specs.Global.{Global}
use Rattle.crew_version.specs.Machinery.Chunks.{all_of}

module _ {X : Type 0} where
  -- a place before the end of what stands first
  pub slice_get-first : (xs ys : List X) (i : ℕ) → i < length xs → slice_get (xs ++ ys) i ≡ slice_get xs i
  slice_get-first [] ys i h = absurd (omega (arith, h))
  slice_get-first (x ∷ xs) ys zero h = refl
  slice_get-first (x ∷ xs) ys (suc i) h = slice_get-first xs ys i (omega (arith, h))

  -- a place beyond it
  pub slice_get-beyond : (xs ys : List X) (i : ℕ) → length xs ≤ i → slice_get (xs ++ ys) i ≡ slice_get ys (i - length xs)
  slice_get-beyond [] ys i h = ap (slice_get ys) (omega arith)
  slice_get-beyond (x ∷ xs) ys zero h = absurd (omega (arith, h))
  slice_get-beyond (x ∷ xs) ys (suc i) h =
      let less : i - length xs ≡ suc i - suc (length xs) = omega arith in
      slice_get-beyond xs ys i (omega (arith, h)) ∙ ap (slice_get ys) less

  -- where a chunk stands before others
  pub ahead : (cs ds : List (Vec X Global)) (c : Vec X Global) (all : List X) (i k : ℕ) → cs ≡ c ∷ ds → slice_get (all_of cs) i ≡ slice_get all k → i < length c.items → slice_get c.items i ≡ slice_get all k
  ahead cs ds c all i k e h less = sym (slice_get-first c.items (all_of ds) i less) ∙ ap (λ (l : List (Vec X Global)). slice_get (all_of l) i) (sym e) ∙ h

  pub behind : (cs ds : List (Vec X Global)) (c : Vec X Global) (all : List X) (i k : ℕ) → cs ≡ c ∷ ds → slice_get (all_of cs) i ≡ slice_get all k → length c.items ≤ i → slice_get (all_of ds) (i - length c.items) ≡ slice_get all k
  behind cs ds c all i k e h least = sym (slice_get-beyond c.items (all_of ds) i least) ∙ ap (λ (l : List (Vec X Global)). slice_get (all_of l) i) (sym e) ∙ h

  module _ {C : Type 0} (f : C → Vec X Global) where
    -- a chunk more at the end
    pub all-more : (cs : List C) (c : C) → all_of (map f (cs ++ c ∷ [])) ≡ all_of (map f cs) ++ (f c).items
    all-more [] c = nil-after (f c).items
      where
        nil-after : (xs : List X) → xs ++ [] ≡ xs
        nil-after [] = refl
        nil-after (x ∷ xs) = ap (λ l. x ∷ l) (nil-after xs)
    all-more (d ∷ cs) c = ap (λ l. (f d).items ++ l) (all-more cs c) ∙ sym (append_assoc (f d).items (all_of (map f cs)) (f c).items)

    -- a cut between chunks
    pub all-cut : (cs : List C) (k : ℕ) → all_of (map f (take k cs)) ++ all_of (map f (drop k cs)) ≡ all_of (map f cs)
    all-cut cs zero = refl
    all-cut [] (suc k) = refl
    all-cut (c ∷ cs) (suc k) = append_assoc (f c).items (all_of (map f (take k cs))) (all_of (map f (drop k cs))) ∙ ap (λ l. (f c).items ++ l) (all-cut cs k)
