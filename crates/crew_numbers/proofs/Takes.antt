-- Numbers while they are given out.
use Rattle.std.proofs.Common.{◌≡◌, ◌≢◌, ◌<◌, ◌≤◌, ◌+◌, ◌++◌, ◌⊎◌, ◌∙◌, ℕ, zero, suc, List, [], ◌∷◌, Option, Some, None, inl, inr, length, refl, ap, sym, subst, arith, set, replicate, length-set, length-append}
use Rattle.std.proofs.lemmas.List.{length-replicate}
use Rattle.std.specs.Prelude.{IsSome, slice_get}
use Rattle.std.proofs.lemmas.Option.{same_Some}
use Rattle.slab.specs.Slab.{ContainsKey, Slab, Updates, get}
use Rattle.crew_numbers.specs.Machinery.Taken.{AreDistinct, AreKept, AreNumbered, AreTaken}
use Rattle.crew_numbers.proofs.Gets.{earlier-or-later, earlier-or-same, empty-there, get-elsewhere, get-last, get-longer, get-written, no-key, none-below, one-item, one-value, pushed-cases, same-or-not, there, within, written-cases}

get-replicate : {X : Type 0} (n : ℕ) (y : X) (i : ℕ) (x : X) → slice_get (replicate n y) i ≡ Some x → y ≡ x
get-replicate zero y i x e = absurd (none-below i x e)
get-replicate (suc n) y zero x e = same_Some y x e
get-replicate (suc n) y (suc i) x e = get-replicate n y i x e

-- the first i duties tell their ranks, and all else tells none
pub record AreRanked (numbers : List ℕ) (count i : ℕ) (ranks : List ℕ) : Type 0 where
  pub long : length ranks ≡ count
  pub own : (j n : ℕ) → slice_get ranks n ≡ Some j → (slice_get numbers j ≡ Some n) ⊎ (j ≡ 4_294_967_295)
  pub told : (j n : ℕ) → j < i → slice_get numbers j ≡ Some n → slice_get ranks n ≡ Some j

pub ranked-none : (numbers : List ℕ) (count : ℕ) → AreRanked numbers count 0 (replicate count 4_294_967_295)
ranked-none numbers count = record {
  long = length-replicate count 4_294_967_295;
  own = λ j n e. inr (sym (get-replicate count 4_294_967_295 n j e));
  told = λ j n h e. absurd (omega (arith, h));
}

-- the next duty tells its rank
pub ranked-more : (numbers : List ℕ) (count i n : ℕ) (ranks : List ℕ) → AreDistinct numbers → n < count → slice_get numbers i ≡ Some n → AreRanked numbers count i ranks → AreRanked numbers count (i + 1) (set ranks n i)
ranked-more numbers count i n ranks apart few e is =
    let long = is.long in
    let inside : n < length ranks = omega (arith, long, few) in
    record {
      long = length-set ranks n i ∙ is.long;
      own = λ j m h. elim (written-cases ranks n m i j inside h) [
        | inl w ↦ inl (ap (slice_get numbers) (sym w.1) ∙ (e ∙ ap (λ (k : ℕ). Some k) (sym w.0)))
        | inr w ↦ is.own j m w.1
      ];
      told = λ j m h k. elim (earlier-or-same j i h) [
        | inl l ↦ get-elsewhere ranks n m i (λ same. let j-is-i = apart j i m k (e ∙ ap (λ (k : ℕ). Some k) (sym same)) in omega (arith, l, j-is-i)) ∙ is.told j m l k
        | inr s ↦ (
            let same = one-value (slice_get numbers i) n m e (ap (slice_get numbers) (sym s) ∙ k) in
            subst (λ (k : ℕ). slice_get (set ranks n i) k ≡ Some j) same (get-written ranks n i inside ∙ ap (λ (k : ℕ). Some k) (sym s))
            )
      ];
    }

-- what an updated key or another has
updated-key : (at new : Slab Unit) (n m : ℕ) → Updates at new n (Some tt) → ContainsKey new m → (m ≡ n) ⊎ ContainsKey at m
updated-key at new n m up h = elim (same-or-not m n) [
  | inl s ↦ inl s
  | inr d ↦ inr (subst (λ (o : Option Unit). IsSome o) (up.others m d) h)
]

new-key : (at new : Slab Unit) (n : ℕ) → Updates at new n (Some tt) → ContainsKey new n
new-key at new n up = subst (λ (o : Option Unit). IsSome o) (sym up.changed) refl

old-key : (at new : Slab Unit) (n m : ℕ) → Updates at new n (Some tt) → ContainsKey at m → ContainsKey new m
old-key at new n m up h = elim (same-or-not m n) [
  | inl s ↦ subst (ContainsKey new) (sym s) (new-key at new n up)
  | inr d ↦ subst (λ (o : Option Unit). IsSome o) (sym (up.others m d)) h
]

pub taken-none : (kept : List (Option ℕ)) (old : Slab Unit) → AreTaken kept old 0 [] old
taken-none kept old = record {
  long = refl;
  keep = λ i n h e. absurd (omega (arith, h));
  fresh = λ i n e. absurd (none-below i n e);
  apart = λ i j n e f. absurd (none-below i n e);
  few = λ i n e. absurd (none-below i n e);
  held = λ i n e. absurd (none-below i n e);
  stay = λ n h. h;
  only = λ n h. inl h;
}

-- the next duty keeps no number, and has taken a key that was vacant
pub taken-take : (kept : List (Option ℕ)) (old : Slab Unit) (i : ℕ) (numbers : List ℕ) (at new : Slab Unit) (n : ℕ) → slice_get kept i ≡ Some None → n < 400_000 → get at n ≡ None → Updates at new n (Some tt) → AreTaken kept old i numbers at → AreTaken kept old (i + 1) (numbers ++ n ∷ []) new
taken-take kept old i numbers at new n e inside empty up is = record {
  long = (let a = length-append numbers (n ∷ []) in let b = is.long in omega (arith, a, b));
  keep = λ j m l k. elim (earlier-or-same j i l) [
    | inl h ↦ get-longer numbers n j m (is.keep j m h k)
    | inr s ↦ absurd (empty-there (slice_get kept i) m e (ap (slice_get kept) (sym s) ∙ k))
  ];
  fresh = λ j m h. elim (pushed-cases numbers n i j m is.long h) [
    | inl w ↦ inr (λ k. no-key (get at n) empty (is.stay n (subst (ContainsKey old) (sym w.1) k)))
    | inr w ↦ is.fresh j m w.1
  ];
  apart = λ j k m a b. elim (pushed-cases numbers n i j m is.long a) [
    | inl v ↦ elim (pushed-cases numbers n i k m is.long b) [
      | inl w ↦ v.0 ∙ sym w.0
      | inr w ↦ absurd (no-key (get at n) empty (subst (ContainsKey at) (sym v.1) (is.held k m w.1)))
    ]
    | inr v ↦ elim (pushed-cases numbers n i k m is.long b) [
      | inl w ↦ absurd (no-key (get at n) empty (subst (ContainsKey at) (sym w.1) (is.held j m v.1)))
      | inr w ↦ is.apart j k m v.1 w.1
    ]
  ];
  few = λ j m h. elim (pushed-cases numbers n i j m is.long h) [
    | inl w ↦ (let s = w.1 in omega (arith, s, inside))
    | inr w ↦ is.few j m w.1
  ];
  held = λ j m h. elim (pushed-cases numbers n i j m is.long h) [
    | inl w ↦ subst (ContainsKey new) w.1 (new-key at new n up)
    | inr w ↦ old-key at new n m up (is.held j m w.1)
  ];
  stay = λ m h. old-key at new n m up (is.stay m h);
  only = λ m h. elim (updated-key at new n m up h) [
    | inl s ↦ inr (i, get-last numbers n i is.long ∙ ap (λ (k : ℕ). Some k) (sym s))
    | inr k ↦ more m (is.only m k)
  ];
}
  where
    more : (m : ℕ) → ContainsKey old m ⊎ ((j : ℕ) × (slice_get numbers j ≡ Some m)) → ContainsKey old m ⊎ ((j : ℕ) × (slice_get (numbers ++ n ∷ []) j ≡ Some m))
    more m (inl h) = inl h
    more m (inr h) = inr (h.0, get-longer numbers n h.0 m h.1)

-- the next duty keeps its number
pub taken-keep : (kept : List (Option ℕ)) (old : Slab Unit) (i : ℕ) (numbers : List ℕ) (at : Slab Unit) (n : ℕ) → AreKept kept old → ((m : ℕ) → ContainsKey old m → m < 400_000) → slice_get kept i ≡ Some (Some n) → AreTaken kept old i numbers at → AreTaken kept old (i + 1) (numbers ++ n ∷ []) at
taken-keep kept old i numbers at n are few e is = record {
  long = (let a = length-append numbers (n ∷ []) in let b = is.long in omega (arith, a, b));
  keep = λ j m l k. elim (earlier-or-same j i l) [
    | inl h ↦ get-longer numbers n j m (is.keep j m h k)
    | inr s ↦ get-last numbers n j (is.long ∙ sym s) ∙ ap (λ (k : ℕ). Some k) (one-item (slice_get kept i) n m e (ap (slice_get kept) (sym s) ∙ k))
  ];
  fresh = λ j m h. elim (pushed-cases numbers n i j m is.long h) [
    | inl w ↦ inl (ap (slice_get kept) w.0 ∙ (e ∙ ap (λ (k : ℕ). Some (Some k)) w.1))
    | inr w ↦ is.fresh j m w.1
  ];
  apart = λ j k m a b. elim (pushed-cases numbers n i j m is.long a) [
    | inl v ↦ elim (pushed-cases numbers n i k m is.long b) [
      | inl w ↦ v.0 ∙ sym w.0
      | inr w ↦ absurd (other k m w.0 v.1 w.1)
    ]
    | inr v ↦ elim (pushed-cases numbers n i k m is.long b) [
      | inl w ↦ absurd (other j m v.0 w.1 v.1)
      | inr w ↦ is.apart j k m v.1 w.1
    ]
  ];
  few = λ j m h. elim (pushed-cases numbers n i j m is.long h) [
    | inl w ↦ (let s = w.1 in let f = few n key in omega (arith, s, f))
    | inr w ↦ is.few j m w.1
  ];
  held = λ j m h. elim (pushed-cases numbers n i j m is.long h) [
    | inl w ↦ subst (ContainsKey at) w.1 (is.stay n key)
    | inr w ↦ is.held j m w.1
  ];
  stay = is.stay;
  only = λ m h. more m (is.only m h);
}
  where
    key : ContainsKey old n
    key = are.held i n e

    -- no other duty has the number that one keeps
    other : (j m : ℕ) → j < i → n ≡ m → slice_get numbers j ≡ Some m → ⊥
    other j m l s h = elim (is.fresh j m h) [
      | inl k ↦ (let same = are.apart j i m k (e ∙ ap (λ (k : ℕ). Some (Some k)) s) in omega (arith, same, l))
      | inr out ↦ out (subst (ContainsKey old) s key)
    ]

    more : (m : ℕ) → ContainsKey old m ⊎ ((j : ℕ) × (slice_get numbers j ≡ Some m)) → ContainsKey old m ⊎ ((j : ℕ) × (slice_get (numbers ++ n ∷ []) j ≡ Some m))
    more m (inl h) = inl h
    more m (inr h) = inr (h.0, get-longer numbers n h.0 m h.1)

-- the keys from one on that tell no rank are left, and all others have what they had
pub record AreLeft (old : Slab Unit) (ranks : List ℕ) (i : ℕ) (new : Slab Unit) : Type 0 where
  pub vacant : (n : ℕ) → i ≤ n → slice_get ranks n ≡ Some 4_294_967_295 → get new n ≡ None
  pub stay : (n : ℕ) → (slice_get ranks n ≡ Some 4_294_967_295 → ⊥) → get new n ≡ get old n

pub left-none : (old : Slab Unit) (ranks : List ℕ) → AreLeft old ranks (length ranks) old
left-none old ranks = record {
  vacant = λ n h e. absurd (let w = within ranks n 4_294_967_295 e in omega (arith, h, w));
  stay = λ n out. refl;
}

pub left-more : (old : Slab Unit) (ranks : List ℕ) (i m rank : ℕ) (at new : Slab Unit) → m + 1 ≡ i → slice_get ranks m ≡ Some rank → (rank ≡ 4_294_967_295 → Updates at new m None) → (rank ≢ 4_294_967_295 → new ≡ at) → AreLeft old ranks i at → AreLeft old ranks m new
left-more old ranks i m rank at new e read gone kept is = elim (same-or-not rank 4_294_967_295) [
  | inl s ↦ (
      let up = gone s in
      record {
        vacant = λ n h f. elim (same-or-not n m) [
          | inl t ↦ ap (get new) t ∙ up.changed
          | inr d ↦ up.others n d ∙ is.vacant n (omega (arith, d, h, e)) f
        ];
        stay = λ n out. up.others n (λ t. out (ap (slice_get ranks) t ∙ (read ∙ ap (λ (k : ℕ). Some k) s))) ∙ is.stay n out;
      }
      )
  | inr d ↦ (
      let same = kept d in
      record {
        vacant = λ n h f. ap (λ (k : Slab Unit). get k n) same ∙ elim (same-or-not n m) [
          | inl t ↦ absurd (d (one-value (slice_get ranks m) rank 4_294_967_295 read (ap (slice_get ranks) (sym t) ∙ f)))
          | inr c ↦ is.vacant n (omega (arith, c, h, e)) f
        ];
        stay = λ n out. ap (λ (k : Slab Unit). get k n) same ∙ is.stay n out;
      }
      )
]

-- each number so far is below a count
pub below-more : (numbers : List ℕ) (i n end : ℕ) (m : ℕ) → slice_get numbers i ≡ Some n → end ≤ m → n < m → ((j k : ℕ) → j < i → slice_get numbers j ≡ Some k → k < end) → (j k : ℕ) → j < i + 1 → slice_get numbers j ≡ Some k → k < m
below-more numbers i n end m e up inside is j k l h = elim (earlier-or-same j i l) [
  | inl b ↦ (let w = is j k b h in omega (arith, w, up))
  | inr s ↦ (let same = one-value (slice_get numbers i) n k e (ap (slice_get numbers) (sym s) ∙ h) in omega (arith, same, inside))
]

-- what tells a rank is a key, and all other keys are left
pub numbered : (kept : List (Option ℕ)) (old taken new : Slab Unit) (numbers ranks : List ℕ) → length kept ≤ 200_000 → AreTaken kept old (length kept) numbers taken → length ranks ≤ 400_000 → ((n : ℕ) → ContainsKey old n → n < length ranks)
    → ((i n : ℕ) → slice_get numbers i ≡ Some n → slice_get ranks n ≡ Some i) → ((i n : ℕ) → slice_get ranks n ≡ Some i → (slice_get numbers i ≡ Some n) ⊎ (i ≡ 4_294_967_295))
    → ((n : ℕ) → slice_get ranks n ≡ Some 4_294_967_295 → get new n ≡ None) → ((n : ℕ) → (slice_get ranks n ≡ Some 4_294_967_295 → ⊥) → get new n ≡ get taken n) → AreNumbered numbers ranks new (length kept)
numbered kept old taken new numbers ranks few is short below told own vacant stay = record {
  are = record {
    long = is.long;
    told = told;
    own = λ i n h l. elim (own i n h) [ inl e ↦ e | inr s ↦ absurd (omega (arith, s, l, few)) ];
  };
  none = λ i n h. elim (own i n h) [ inl e ↦ inl (rank-below i n e) | inr s ↦ inr s ];
  few = short;
  taken = record {
    held = λ i n h. subst (λ (o : Option Unit). IsSome o) (sym (stay n (λ e. let s = one-value (slice_get ranks n) i 4_294_967_295 (told i n h) e in let w = rank-below i n h in omega (arith, s, w, few)))) (is.held i n h);
    only = λ n h.
        let w = in-ranks n h in
        let r = there ranks n w in
        elim (own r.0 n r.1) [
          | inl e ↦ (r.0, e)
          | inr s ↦ absurd (no-key (get new n) (vacant n (r.1 ∙ ap (λ (k : ℕ). Some k) s)) h)
        ];
  };
}
  where
    rank-below : (i n : ℕ) → slice_get numbers i ≡ Some n → i < length kept
    rank-below i n e = let w = within numbers i n e in let l = is.long in omega (arith, w, l)

    told-below : (n : ℕ) → ContainsKey old n ⊎ ((i : ℕ) × (slice_get numbers i ≡ Some n)) → n < length ranks
    told-below n (inl h) = below n h
    told-below n (inr h) = within ranks n h.0 (told h.0 n h.1)

    in-ranks : (n : ℕ) → ContainsKey new n → n < length ranks
    in-ranks n h = elim (earlier-or-later n (length ranks)) [
      | inl w ↦ w
      | inr past ↦ told-below n (is.only n (subst (λ (o : Option Unit). IsSome o) (stay n (λ e. let w = within ranks n 4_294_967_295 e in omega (arith, past, w))) h))
    ]
