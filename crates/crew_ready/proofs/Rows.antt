-- Flags in words: what a write changes, and where the least flag is.
use Rattle.std.proofs.Common.{◌≡◌, ℕ, zero, suc, ◌+◌, ◌*◌, ◌/◌, ◌%◌, ◌^◌, ◌<◌, ◌≤◌, nat_eq, nat_lt, Bool, true, false, List, [], ◌∷◌, get_or, length, map, replicate, slice_set, ◌⊎◌, inl, inr, refl, sym, ◌∙◌, ap, subst, ⊎_elim, arith, tests, w64}
use Rattle.std.specs.Int.{bit_at, trailing_zeros}
use Rattle.std.specs.List.{range_with_len}
use Rattle.std.proofs.lemmas.Bool.{cases_lt}
use Rattle.std.proofs.lemmas.List.{get_or-set_other, get_or-set_same, get_or_past, same_lists}
use Rattle.std.proofs.lemmas.List.FromFn.{get_or-map-range_with_len, length-range_with_len}
use Rattle.std.proofs.lemmas.Nat.Bits.{bit_at-trailing_zeros, bit_at-zero}
use Rattle.std.specs.Prelude.{IfSome, MatchOption, Option, Some, None}
use Rattle.crew_ready.specs.Firsts.{IsFirst, NoneSet}
use Rattle.crew_ready.specs.Machinery.Words.{IsAbove, IsRow, flag_in, flags_of, used}

length-map_lem : {X Y : Type 0} (f : X → Y) (xs : List X) → length (map f xs) ≡ length xs
length-map_lem f [] = refl
length-map_lem f (x ∷ xs) = let k = length-map_lem f xs in omega (arith, k)

pub long : (n : ℕ) (words : List ℕ) → length (flags_of n words) ≡ n
long n words = length-map_lem (flag_in words) (range_with_len 0 n) ∙ length-range_with_len 0 n

pub long-used : (words : List ℕ) → length (used words) ≡ length words
long-used words = length-map_lem (nat_lt 0) words

pub length-set : {X : Type 0} (xs : List X) (i : ℕ) (x : X) → length (slice_set xs i x) ≡ length xs
length-set [] i x = refl
length-set (y ∷ ys) zero x = refl
length-set (y ∷ ys) (suc i) x = let k = length-set ys i x in omega (arith, k)

pub flag-at : (n : ℕ) (words : List ℕ) (i : ℕ) (d : Bool) → i < n → get_or (flags_of n words) i d ≡ flag_in words i
flag-at n words i d h = get_or-map-range_with_len (flag_in words) 0 n i i d h (omega arith)

pub flag-past : (n : ℕ) (words : List ℕ) (i : ℕ) → n ≤ i → get_or (flags_of n words) i false ≡ false
flag-past n words i h = get_or_past (flags_of n words) i false (let k = long n words in omega (arith, h, k))

pub flag-of : (n : ℕ) (words : List ℕ) (i : ℕ) → IsRow n words → get_or (flags_of n words) i false ≡ flag_in words i
flag-of n words i row = ⊎_elim (λ h. flag-at n words i false h) (λ h. flag-past n words i h ∙ sym (row.past i h)) (cases_lt i n)

-- a word is written whose bits are as before, but for one
record IsWritten (word new bit : ℕ) (member : Bool) : Type 0 where
  pub here : nat_eq (bit_at new bit) 1 ≡ member
  pub elsewhere : (k : ℕ) → k < 64 → (k ≡ bit → ⊥) → bit_at new k ≡ bit_at word k

same-or-not : (a b : ℕ) → (a ≡ b) ⊎ (a ≡ b → ⊥)
same-or-not a b = ⊎_elim (λ h. inr (λ e. omega (arith, h, e))) (λ h. ⊎_elim (λ k. inr (λ e. omega (arith, k, e))) (λ k. inl (omega (arith, h, k))) (cases_lt b a)) (cases_lt a b)

written-flag : (words : List ℕ) (place new : ℕ) (member : Bool) → place / 64 < length words → IsWritten (get_or words (place / 64) 0) new (place % 64) member
    → (flag_in (slice_set words (place / 64) new) place ≡ member) × ((k : ℕ) → (k ≡ place → ⊥) → flag_in (slice_set words (place / 64) new) k ≡ flag_in words k)
written-flag words place new member within w =
    let row = place / 64 in (
      ap (λ z. nat_eq (bit_at z (place % 64)) 1) (get_or-set_same words row new 0 within) ∙ w.here,
      λ k other. ⊎_elim
          (λ e. ap (λ z. nat_eq (bit_at (get_or (slice_set words row new) z 0) (k % 64)) 1) e
          ∙ (ap (λ z. nat_eq (bit_at z (k % 64)) 1) (get_or-set_same words row new 0 within)
          ∙ (ap (λ z. nat_eq z 1) (w.elsewhere (k % 64) (omega arith) (λ f. other (omega (arith, e, f))))
          ∙ ap (λ z. nat_eq (bit_at (get_or words z 0) (k % 64)) 1) (sym e))))
          (λ f. ap (λ z. nat_eq (bit_at z (k % 64)) 1) (get_or-set_other words row (k / 64) new 0 f))
          (same-or-not (k / 64) row),
    )

pub write : (n : ℕ) (words : List ℕ) (place new : ℕ) (member : Bool) → IsRow n words → place < n → nat_eq (bit_at new (place % 64)) 1 ≡ member → ((k : ℕ) → k < 64 → (k ≡ place % 64 → ⊥) → bit_at new k ≡ bit_at (get_or words (place / 64) 0) k)
    → (flags_of n (slice_set words (place / 64) new) ≡ slice_set (flags_of n words) place member) × IsRow n (slice_set words (place / 64) new)
write n words place new member row within here elsewhere =
    let enough = row.enough in
    let there : place / 64 < length words = omega (arith, enough, within) in
    let w = written-flag words place new member there (record { here = here; elsewhere = elsewhere }) in
    let after = slice_set words (place / 64) new in
    let same-long = length-set words (place / 64) new in
    let tight = row.tight in (
      same_lists (flags_of n after) (slice_set (flags_of n words) place member)
          (long n after ∙ (sym (long n words) ∙ sym (length-set (flags_of n words) place member)))
          (λ k d low.
          let below : k < n = (let l = long n after in omega (arith, low, l)) in
          ⊎_elim
          (λ e.
          let inside : place < length (flags_of n words) = (let l = long n words in omega (arith, within, l)) in
          flag-at n after k d below ∙ (ap (flag_in after) e ∙ (w.0 ∙ (sym (get_or-set_same (flags_of n words) place member d inside) ∙ ap (λ z. get_or (slice_set (flags_of n words) place member) z d) (sym e)))))
          (λ f. flag-at n after k d below ∙ (w.1 k f ∙ (sym (flag-at n words k d below) ∙ sym (get_or-set_other (flags_of n words) place k member d f))))
          (same-or-not k place)),
      record {
        enough = omega (arith, enough, same-long);
        tight = omega (arith, tight, same-long);
        few = row.few;
        past = λ k h. w.1 k (λ e. omega (arith, e, h, within)) ∙ row.past k h;
      },
    )

-- the flags above, after a write
used-set : (words : List ℕ) (i new : ℕ) → used (slice_set words i new) ≡ slice_set (used words) i (nat_lt 0 new)
used-set [] i new = refl
used-set (w ∷ words) zero new = refl
used-set (w ∷ words) (suc i) new = ap (λ z. nat_lt 0 w ∷ z) (used-set words i new)

pub above-set : (words : List ℕ) (upper : List Bool) (row new : ℕ) → IsAbove words upper → IsAbove (slice_set words row new) (slice_set upper row (nat_lt 0 new))
above-set words upper row new is = ap (λ z. slice_set z row (nat_lt 0 new)) is ∙ sym (used-set words row new)

-- the empty set
zeros-flag : (rows n : ℕ) → flag_in (replicate rows 0) n ≡ false
zeros-flag rows n = ap (λ (z : ℕ). nat_eq (bit_at z (n % 64)) 1) (zero-at rows (n / 64)) ∙ ap (λ (z : ℕ). nat_eq z 1) (bit_at-zero (n % 64))
  where
    zero-at : (rows i : ℕ) → ◌≡◌ {A = ℕ} (get_or (replicate rows 0) i 0) 0
    zero-at zero i = refl
    zero-at (suc rows) zero = refl
    zero-at (suc rows) (suc i) = zero-at rows i

replicate-at : {X : Type 0} (n i : ℕ) (x d : X) → i < n → get_or (replicate n x) i d ≡ x
replicate-at zero i x d h = absurd (omega (arith, h))
replicate-at (suc n) zero x d h = refl
replicate-at (suc n) (suc i) x d h = replicate-at n i x d (omega (arith, h))

pub length-replicate_lem : {X : Type 0} (n : ℕ) (x : X) → length (replicate n x) ≡ n
length-replicate_lem zero x = refl
length-replicate_lem (suc n) x = let k = length-replicate_lem n x in omega (arith, k)

pub empty-flags : (n rows : ℕ) → flags_of n (replicate rows 0) ≡ replicate n false
empty-flags n rows = same_lists (flags_of n (replicate rows 0)) (replicate n false) (long n (replicate rows 0) ∙ sym (length-replicate_lem n false)) (λ k d low.
    (
    let below : k < n = (let l = long n (replicate rows 0) in omega (arith, low, l)) in
    flag-at n (replicate rows 0) k d below ∙ (zeros-flag rows k ∙ sym (replicate-at n k false d below))))

pub empty-row : (n rows : ℕ) → n ≤ rows * 64 → rows * 64 < n + 64 → n ≤ 4_294_967_295 → IsRow n (replicate rows 0)
empty-row n rows h k few = let l = length-replicate_lem {X = ℕ} rows 0 in record { enough = omega (arith, l, h); tight = omega (arith, l, k); few = few; past = λ i _. zeros-flag rows i }

empty-used : (rows : ℕ) → used (replicate rows 0) ≡ replicate rows false
empty-used zero = refl
empty-used (suc rows) = ap (λ z. false ∷ z) (empty-used rows)

pub empty-above : (rows : ℕ) → IsAbove (replicate rows 0) (replicate rows false)
empty-above rows = sym (empty-used rows)

-- the least flag of the least word that has one
not-set : (a : ℕ) → a ≡ 0 → nat_eq a 1 ≡ false
not-set a e = ap (λ z. nat_eq z 1) e

no-flag : (words : List ℕ) (i : ℕ) → get_or words (i / 64) 0 ≡ 0 → flag_in words i ≡ false
no-flag words i e = ap (λ z. nat_eq (bit_at z (i % 64)) 1) e ∙ not-set (bit_at 0 (i % 64)) (bit_at-zero (i % 64))

pub first-in : (n : ℕ) (words : List ℕ) (row word : ℕ) → IsRow n words → row < length words → get_or words row 0 ≡ word → 0 < word → word < 2 ^ 64 → ((j : ℕ) → j < row → get_or words j 0 ≡ 0) → IsFirst (flags_of n words) (row * 64 + trailing_zeros w64 word)
first-in n words row word r low is some small below =
    let z = bit_at-trailing_zeros w64 word some small in
    let t = trailing_zeros w64 word in
    let fits : t < 64 = z.0 in
    let place = row * 64 + t in
    let at-row : place / 64 ≡ row = omega (arith, fits) in
    let at-bit : place % 64 ≡ t = omega (arith, fits) in
    let set : flag_in words place ≡ true =
    ap (λ k. nat_eq (bit_at (get_or words k 0) (place % 64)) 1) at-row ∙ (ap (λ k. nat_eq (bit_at (get_or words row 0) k) 1) at-bit ∙ (ap (λ k. nat_eq (bit_at k t) 1) is ∙ ap (λ k. nat_eq k 1) z.1)) in
    let within : place < n = ⊎_elim {C = place < n} (λ h. h) (λ h. absurd (let e : true ≡ false = sym set ∙ r.past place h in let q : ⊥ = (cc) in q)) (cases_lt place n) in
    record {
      within = (let l = long n words in omega (arith, within, l));
      set = flag-of n words place r ∙ set;
      least = λ k h. flag-of n words k r ∙ ⊎_elim {C = flag_in words k ≡ false}
          (λ l. no-flag words k (below (k / 64) l))
          (λ l.
          let same : k / 64 ≡ row = omega (arith, fits, h, l) in
          let bit : k % 64 < t = omega (arith, fits, h, same) in
          ap (λ j. nat_eq (bit_at (get_or words j 0) (k % 64)) 1) same ∙ (ap (λ j. nat_eq (bit_at j (k % 64)) 1) is ∙ not-set (bit_at word (k % 64)) (z.2 (k % 64) bit)))
          (cases_lt (k / 64) row);
    }

pub none-in : (n : ℕ) (words : List ℕ) → IsRow n words → ((j : ℕ) → get_or words j 0 ≡ 0) → NoneSet (flags_of n words)
none-in n words r all k = flag-of n words k r ∙ no-flag words k (all (k / 64))

-- what the row above says of the words
zero-if : (w : ℕ) → nat_lt 0 w ≡ false → w ≡ 0
zero-if w e = grind (arith, tests, e)

some-if : (w : ℕ) → nat_lt 0 w ≡ true → 0 < w
some-if w e = grind (arith, tests, e)

used-at : (words : List ℕ) (j : ℕ) → get_or (used words) j false ≡ nat_lt 0 (get_or words j 0)
used-at [] j = refl
used-at (w ∷ words) zero = refl
used-at (w ∷ words) (suc j) = used-at words j

pub none-above : (words : List ℕ) (upper : List Bool) → upper ≡ used words → NoneSet upper → (j : ℕ) → get_or words j 0 ≡ 0
none-above words upper is none j = zero-if (get_or words j 0) (sym (used-at words j) ∙ (ap (λ z. get_or z j false) (sym is) ∙ none j))

pub first-above : (words : List ℕ) (upper : List Bool) (row : ℕ) → upper ≡ used words → IsFirst upper row → (row < length words) × (0 < get_or words row 0) × ((j : ℕ) → j < row → get_or words j 0 ≡ 0)
first-above words upper row is f =
    let within = f.within in
    let l = ap length is in
    let m = long-used words in (
      omega (arith, within, l, m),
      some-if (get_or words row 0) (sym (used-at words row) ∙ (ap (λ z. get_or z row false) (sym is) ∙ f.set)),
      λ j h. zero-if (get_or words j 0) (sym (used-at words j) ∙ (ap (λ z. get_or z j false) (sym is) ∙ f.least j h)),
    )

-- the answer of a look at one word, where those before it are clear
pub first-answer : (n : ℕ) (words seen : List ℕ) (row : ℕ) (result : Option ℕ) → IsRow n words → seen ≡ words
    → ((j : ℕ) → j < row → get_or words j 0 ≡ 0) → (get_or words row 0 ≡ 0 → (j : ℕ) → get_or words j 0 ≡ 0)
    → (result ≡ None → get_or seen row 0 ≡ 0)
    → IfSome result (λ place. (row < length seen) × (0 < get_or seen row 0) × (get_or seen row 0 < 2 ^ 64) × (place ≡ row * 64 + trailing_zeros w64 (get_or seen row 0)))
    → MatchOption result (NoneSet (flags_of n words)) (IsFirst (flags_of n words))
first-answer n words seen row None r same before after none some = none-in n words r (after (subst (λ z. get_or z row 0 ≡ 0) same (none refl)))
first-answer n words seen row (Some place) r same before after none some =
    let s = subst (λ z. (row < length z) × (0 < get_or z row 0) × (get_or z row 0 < 2 ^ 64) × (place ≡ row * 64 + trailing_zeros w64 (get_or z row 0))) same some in
    subst (IsFirst (flags_of n words)) (sym s.3) (first-in n words row (get_or words row 0) r s.0 refl s.1 s.2 before)

pub above-row : (n : ℕ) (words : List ℕ) → IsRow n words → length words ≤ 67_108_864
above-row n words r = (let t = r.tight in let f = r.few in omega (arith, t, f))

-- a place of the set is a bit of a word
pub in-row : (n : ℕ) (words : List ℕ) (flags : List Bool) (place : ℕ) → IsRow n words → flags_of n words ≡ flags → place < length flags → (place < n) × (place / 64 < length words)
in-row n words flags place r same h =
    let l = long n words in
    let e = ap length same in
    let enough = r.enough in
    (omega (arith, h, l, e), omega (arith, h, l, e, enough))
