-- Duties in blocks.
use Rattle.std.proofs.Common.{◌≡◌, ◌<◌, ◌≤◌, ◌+◌, ◌-◌, ◌⊎◌, ◌++◌, ◌∷◌, [], inl, inr, ℕ, zero, suc, List, Some, length, refl, sym, ap, arith, ◌∙◌}
use Rattle.std.specs.Prelude.{drop, replicate, slice_get, take}
use Rattle.std.proofs.lemmas.Grind.{flat_map-append}
use Rattle.std.proofs.lemmas.List.{length-append, length-replicate}
use Rattle.crew_pairing.specs.declared.duty.Duty.{Duty}
use Rattle.crew_pairing.specs.declared.duties.Block.{Block}
use Rattle.crew_pairing.specs.Machinery.Blocks.{AreLaid, StandsIn, all_in, block_duties, part_of}

-- ---- what stands at a place of joined lists
pub slice-left : {X : Type 0} (xs ys : List X) (i : ℕ) → i < length xs → slice_get (xs ++ ys) i ≡ slice_get xs i
slice-left [] ys i h = absurd (omega (arith, h))
slice-left (x ∷ xs) ys zero h = refl
slice-left (x ∷ xs) ys (suc i) h = slice-left xs ys i (omega (arith, h))

pub slice-right : {X : Type 0} (xs ys : List X) (i : ℕ) → length xs ≤ i → slice_get (xs ++ ys) i ≡ slice_get ys (i - length xs)
slice-right [] ys i h = ap (slice_get ys) (omega arith)
slice-right (x ∷ xs) ys zero h = absurd (omega (arith, h))
slice-right (x ∷ xs) ys (suc i) h = slice-right xs ys i (omega (arith, h)) ∙ ap (slice_get ys) {x = i - length xs} {y = suc i - suc (length xs)} (omega arith)

pub slice-within : {X : Type 0} (xs : List X) (i : ℕ) (x : X) → slice_get xs i ≡ Some x → i < length xs
slice-within [] i x e = absurd (let q : ⊥ = (cc) in q)
slice-within (y ∷ xs) zero x e = omega arith
slice-within (y ∷ xs) (suc i) x e = let p = slice-within xs i x e in omega (arith, p)

some-once : {X : Type 0} (a b : X) → Some a ≡ Some b → a ≡ b
some-once a b e = cc

pub alike-at : {X : Type 0} (n : ℕ) (x y : X) (i : ℕ) → slice_get (replicate n x) i ≡ Some y → y ≡ x
alike-at zero x y i e = absurd (let q : ⊥ = (cc) in q)
alike-at (suc n) x y zero e = sym (some-once x y e)
alike-at (suc n) x y (suc i) e = alike-at n x y i e

last-of : {X : Type 0} (xs : List X) (x : X) → slice_get (xs ++ x ∷ []) (length xs) ≡ Some x
last-of [] x = refl
last-of (y ∷ xs) x = last-of xs x

no-more : {X : Type 0} (xs : List X) → xs ++ [] ≡ xs
no-more [] = refl
no-more (x ∷ xs) = ap (λ ys. x ∷ ys) (no-more xs)

take-left : {X : Type 0} (n : ℕ) (xs ys : List X) → n ≤ length xs → take n (xs ++ ys) ≡ take n xs
take-left zero xs ys h = refl
take-left (suc n) [] ys h = absurd (omega (arith, h))
take-left (suc n) (x ∷ xs) ys h = ap (λ zs. x ∷ zs) (take-left n xs ys (omega (arith, h)))

drop-left : {X : Type 0} (n : ℕ) (xs ys : List X) → n ≤ length xs → drop n (xs ++ ys) ≡ drop n xs ++ ys
drop-left zero xs ys h = refl
drop-left (suc n) [] ys h = absurd (omega (arith, h))
drop-left (suc n) (x ∷ xs) ys h = drop-left n xs ys (omega (arith, h))

long-drop : {X : Type 0} (n m : ℕ) (xs : List X) → n + m ≤ length xs → m ≤ length (drop n xs)
long-drop zero m xs h = omega (arith, h)
long-drop (suc n) m [] h = absurd (omega (arith, h))
long-drop (suc n) m (x ∷ xs) h = long-drop n m xs (omega (arith, h))

take-it : {X : Type 0} (xs : List X) → take (length xs) xs ≡ xs
take-it [] = refl
take-it (x ∷ xs) = ap (λ zs. x ∷ zs) (take-it xs)

drop-it : {X : Type 0} (xs ys : List X) → drop (length xs) (xs ++ ys) ≡ ys
drop-it [] ys = refl
drop-it (x ∷ xs) ys = drop-it xs ys

slice-take : {X : Type 0} (n i : ℕ) (xs : List X) → i < n → slice_get (take n xs) i ≡ slice_get xs i
slice-take zero i xs h = absurd (omega (arith, h))
slice-take (suc n) i [] h = refl
slice-take (suc n) zero (x ∷ xs) h = refl
slice-take (suc n) (suc i) (x ∷ xs) h = slice-take n i xs (omega (arith, h))

slice-drop : {X : Type 0} (n i : ℕ) (xs : List X) → slice_get (drop n xs) i ≡ slice_get xs (n + i)
slice-drop zero i xs = ap (slice_get xs) (omega arith)
slice-drop (suc n) i [] = refl
slice-drop (suc n) i (x ∷ xs) = slice-drop n i xs ∙ ap (slice_get (x ∷ xs)) {x = suc (n + i)} {y = suc n + i} (omega arith)

take-one : {X : Type 0} (n : ℕ) (xs : List X) (x : X) → slice_get xs n ≡ Some x → take n xs ++ x ∷ [] ≡ take (suc n) xs
take-one n [] x e = absurd (let q : ⊥ = (cc) in q)
take-one zero (y ∷ xs) x e = ap (λ z. z ∷ []) (sym (some-once y x e))
take-one (suc n) (y ∷ xs) x e = ap (λ zs. y ∷ zs) (take-one n xs x e)

-- ---- parts of a list
pub part-at : (ds : List Duty) (from to place : ℕ) → from ≤ place → place < to → slice_get (part_of ds from to) (place - from) ≡ slice_get ds place
part-at ds from to place f t =
    let here : from + (place - from) ≡ place = omega (arith, f) in
    slice-take (to - from) (place - from) (drop from ds) (omega (arith, f, t))
    ∙ (slice-drop from (place - from) ds ∙ ap (slice_get ds) here)

-- one more duty
pub part-more : (ds : List Duty) (from place : ℕ) (d : Duty) → from ≤ place → slice_get ds place ≡ Some d → part_of ds from place ++ d ∷ [] ≡ part_of ds from (place + 1)
part-more ds from place d f at =
    let here : from + (place - from) ≡ place = omega (arith, f) in
    let long : place + 1 - from ≡ suc (place - from) = omega (arith, f) in
    take-one (place - from) (drop from ds) d (slice-drop from (place - from) ds ∙ (ap (slice_get ds) here ∙ at)) ∙ ap (λ n. take n (drop from ds)) (sym long)

part-left : (ds es : List Duty) (from to : ℕ) → from ≤ to → to ≤ length ds → part_of (ds ++ es) from to ≡ part_of ds from to
part-left ds es from to f t =
    ap (take (to - from)) (drop-left from ds es (omega (arith, f, t)))
    ∙ take-left (to - from) (drop from ds) es (long-drop from (to - from) ds (omega (arith, f, t)))

part-right : (ds es : List Duty) (from to : ℕ) → from ≡ length ds → to ≡ from + length es → part_of (ds ++ es) from to ≡ es
part-right ds es from to f t =
    let many : to - from ≡ length es = omega (arith, t) in
    ap (λ n. take n (drop from (ds ++ es))) many
    ∙ (ap (λ n. take (length es) (drop n (ds ++ es))) f ∙ (ap (take (length es)) (drop-it ds es) ∙ take-it es))

-- ---- blocks
pub all-more : (blocks : List Block) (b : Block) → all_in (blocks ++ b ∷ []) ≡ all_in blocks ++ block_duties b
all-more blocks b = flat_map-append block_duties blocks (b ∷ []) ∙ ap (λ ds. all_in blocks ++ ds) (no-more (block_duties b))

-- what stands in a block stands in the list
pub stands-there : (blocks : List Block) (place : ℕ) (block : Block) → StandsIn blocks place block → slice_get (block_duties block) (place - block.start) ≡ slice_get (all_in blocks) place
stands-there blocks place block s =
    ap (λ ds. slice_get ds (place - block.start)) (sym s.3) ∙ part-at (all_in blocks) block.start (block.start + length (block_duties block)) place s.0 s.1

-- one block more
module _ (blocks : List Block) (places : List ℕ) (b : Block) (laid : AreLaid blocks places) (start : b.start ≡ length places) where
  longer : length (all_in (blocks ++ b ∷ [])) ≡ length (all_in blocks) + length (block_duties b)
  longer = ap length (all-more blocks b) ∙ length-append (all_in blocks) (block_duties b)

  kept : (place : ℕ) (block : Block) → StandsIn blocks place block → StandsIn (blocks ++ b ∷ []) place block
  kept place block s = (
    s.0,
    s.1,
    (let m = s.2 in omega (arith, m, longer)),
    ap (λ ds. part_of ds block.start (block.start + length (block_duties block))) (all-more blocks b)
        ∙ (part-left (all_in blocks) (block_duties b) block.start (block.start + length (block_duties block)) (omega arith) s.2 ∙ s.3),
  )

  new : (place : ℕ) → length places ≤ place → place < length places + length (block_duties b) → StandsIn (blocks ++ b ∷ []) place b
  new place from to = (
    omega (arith, start, from),
    omega (arith, start, to),
    (let l = laid.0 in omega (arith, l, start, longer)),
    ap (λ ds. part_of ds b.start (b.start + length (block_duties b))) (all-more blocks b)
        ∙ part-right (all_in blocks) (block_duties b) b.start (b.start + length (block_duties b)) (start ∙ laid.0) refl,
  )

  named : length (places ++ replicate (length (block_duties b)) (length blocks)) ≡ length places + length (block_duties b)
  named = length-append places (replicate (length (block_duties b)) (length blocks)) ∙ ap (λ n. length places + n) (length-replicate (length (block_duties b)) (length blocks))

  pub laid-more : 0 < length (block_duties b) → AreLaid (blocks ++ b ∷ []) (places ++ replicate (length (block_duties b)) (length blocks))
  laid-more any = (
    (let l = laid.0 in omega (arith, l, named, longer)),
    (let l = laid.1 in omega (arith, l, any, named, length-append blocks (b ∷ []))),
    λ place at e. sides place at e (side place),
  )
    where
      side : (place : ℕ) → (place < length places) ⊎ (length places ≤ place)
      side place = grind (arith)

      sides : (place at : ℕ) → slice_get (places ++ replicate (length (block_duties b)) (length blocks)) place ≡ Some at → (place < length places) ⊎ (length places ≤ place)
          → (block : Block) × (slice_get (blocks ++ b ∷ []) at ≡ Some block) × StandsIn (blocks ++ b ∷ []) place block
      sides place at e (inl h) =
          let old = laid.2 place at (sym (slice-left places (replicate (length (block_duties b)) (length blocks)) place h) ∙ e) in
          let there = slice-within blocks at old.0 old.1 in
          (old.0, slice-left blocks (b ∷ []) at there ∙ old.1, kept place old.0 old.2)
      sides place at e (inr h) =
          let here = sym (slice-right places (replicate (length (block_duties b)) (length blocks)) place h) ∙ e in
          let is : at ≡ length blocks = alike-at (length (block_duties b)) (length blocks) at (place - length places) here in
          let in_it = slice-within (replicate (length (block_duties b)) (length blocks)) (place - length places) at here in
          (b, ap (slice_get (blocks ++ b ∷ [])) is ∙ last-of blocks b, new place h (omega (arith, h, in_it, length-replicate (length (block_duties b)) (length blocks))))
