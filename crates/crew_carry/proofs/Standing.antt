-- Walks that stand at their own places, but for some.
use Rattle.std.proofs.Common.{Some, None, ◌≡◌, ◌≤◌, ◌<◌, ◌+◌, ◌-◌, ◌++◌, ◌∷◌, ◌∙◌, ◌||◌, [], ℕ, zero, suc, List, Option, Bool, true, false, append-nil, refl, sym, ap, arith, subst, get_or, length, length-append, map, nat_eq, nat_lt, set, get_or-set_other, get_or-set_same}
use Rattle.std.specs.Prelude.{slice_get, slice_set}
use Rattle.std.specs.List.{range_with_len}
use Rattle.std.specs.List.Sorted.{IsPartitionPoint, IsPartitionedBy}
use Rattle.std.proofs.lemmas.List.Sorted.{IsNonDecreasingBy-from_default, IsPartitionedBy-ltb}
use Rattle.std.proofs.lemmas.Bool.Decides.{nat_tests}
use Rattle.std.proofs.lemmas.List.FromFn.{get_or-range_with_len, length-map-range_with_len}
use Rattle.std.proofs.lemmas.Option.{slice_get-get_or, slice_get_past}
use Rattle.std.proofs.Math.ListN.{get_or-map}
use Rattle.std.proofs.lemmas.List.{get_or_append_left, length-map, length-set, map-append}
use Rattle.std.proofs.lemmas.List.Folds.{list_any-append}
use Rattle.std.proofs.Math.Seq.{get_or-append_seam}
use Rattle.crew_pool.specs.Arena.{walk_at}
use Rattle.crew_pool.specs.Renumbered.{or_else, rank_under, walks_under}
use Rattle.crew_carry.specs.Carried.{AreTwinWalks, IsCarried, twin_of}
use Rattle.crew_carry.proofs.Carrying.{twins-more}
use Rattle.crew_carry.proofs.Pushed.{some-once}
use Rattle.crew_carry.specs.Machinery.Places.{HaveTwins, Rise, is_missing, own_place, own_places}

same-number : (n m : ℕ) → n ≡ m → nat_eq n m ≡ true
same-number n m e = grind (arith, nat_tests, e)

other-number : (n m : ℕ) → (n ≡ m → ⊥) → nat_eq n m ≡ false
other-number n m e = grind (arith, nat_tests, e)

-- one of the numbers
pub missing-at : (ns : List ℕ) (i n : ℕ) → i < length ns → get_or ns i 0 ≡ n → is_missing ns n ≡ true
missing-at [] i n h e = absurd (omega (arith, h))
missing-at (m ∷ ns) zero n h e = rw (same-number n m (sym e)) refl
missing-at (m ∷ ns) (suc i) n h e = by (missing-at ns i n (omega (arith, h)) e) (nat_eq n m) refl
  where
    by : is_missing ns n ≡ true → (b : Bool) → nat_eq n m ≡ b → is_missing (m ∷ ns) n ≡ true
    by g true f = rw f refl
    by g false f = rw f g

-- none of them
pub missing-no : (ns : List ℕ) (n : ℕ) → ((i : ℕ) → i < length ns → get_or ns i 0 ≡ n → ⊥) → is_missing ns n ≡ false
missing-no [] n h = refl
missing-no (m ∷ ns) n h = rw (other-number n m (λ e. h 0 (omega arith) (sym e))) (missing-no ns n (λ i b e. h (suc i) (omega (arith, b)) e))

-- what a rising list has before a place and from there on
pub rise-le : (ns : List ℕ) → Rise ns → (i j : ℕ) → i ≤ j → j < length ns → get_or ns i 0 ≤ get_or ns j 0
rise-le ns r i j h b = by (nat_eq i j) refl
  where
    by : (c : Bool) → nat_eq i j ≡ c → get_or ns i 0 ≤ get_or ns j 0
    by true e = let same : i ≡ j = grind (arith, nat_tests, e) in omega (arith, ap (λ (k : ℕ). get_or ns k 0) same)
    by false e = let less : i < j = grind (arith, nat_tests, e, h) in let more = r i j less b in omega (arith, more)

-- those below a number come first
pub parted-below : (ns : List ℕ) (n : ℕ) → Rise ns → IsPartitionedBy (λ k. nat_lt k n) ns
parted-below ns n r = IsPartitionedBy-ltb (λ k. k) ns n (IsNonDecreasingBy-from_default (λ k. k) ns 0 (rise-le ns r))

pub before-point : (ns : List ℕ) (n p : ℕ) → IsPartitionPoint (λ k. nat_lt k n ≡ true) (λ k. nat_lt k n ≡ false) ns p → (i : ℕ) → i < p → get_or ns i 0 < n
before-point ns n p point i h = let less = point.0 i 0 (omega arith) h in grind (arith, nat_tests, less)

pub after-point : (ns : List ℕ) (n p : ℕ) → IsPartitionPoint (λ k. nat_lt k n ≡ true) (λ k. nat_lt k n ≡ false) ns p → (i : ℕ) → p ≤ i → i < length ns → n ≤ get_or ns i 0
after-point ns n p point i h b = let none = point.1 i 0 h b in grind (arith, nat_tests, none)

-- what stands in the first of two lists, and in the second
pub before-seam : {X : Type 0} (xs ys : List X) (i : ℕ) → i < length xs → slice_get (xs ++ ys) i ≡ slice_get xs i
before-seam [] ys i h = absurd (omega (arith, h))
before-seam (x ∷ xs) ys zero h = refl
before-seam (x ∷ xs) ys (suc i) h = before-seam xs ys i (omega (arith, h))

pub after-seam : {X : Type 0} (xs ys : List X) (i k : ℕ) → i ≡ length xs + k → slice_get (xs ++ ys) i ≡ slice_get ys k
after-seam [] ys i k e = ap (slice_get ys) (omega (arith, e))
after-seam (x ∷ xs) ys zero k e = absurd (omega (arith, e))
after-seam (x ∷ xs) ys (suc i) k e = after-seam xs ys i k (omega (arith, e))

pub length-own : (count : ℕ) (missing : List ℕ) → length (own_places count missing) ≡ count
length-own count missing = length-map-range_with_len (own_place missing) 0 count

-- where a walk stands that stays at its own place, or nowhere
pub own-at : (count : ℕ) (missing : List ℕ) (w : ℕ) → w < count → slice_get (own_places count missing) w ≡ Some (own_place missing w)
own-at count missing w h =
    let P = own_place missing in
    let within : w < length (own_places count missing) = omega (arith, h, length-own count missing) in
    let here : 0 + w ≡ w = omega arith in
    let at : get_or (range_with_len 0 count) w 0 ≡ w = get_or-range_with_len 0 count w 0 h ∙ here in
    slice_get-get_or (own_places count missing) w (P 0) within ∙ ap (λ (o : Option ℕ). Some o) (get_or-map P (range_with_len 0 count) w 0 ∙ ap P at)

pub own-told : (count : ℕ) (missing : List ℕ) (told : List (Option ℕ)) (w : ℕ) → w < count → slice_get (own_places count missing ++ told) w ≡ Some (own_place missing w)
own-told count missing told w h = before-seam (own_places count missing) told w (omega (arith, h, length-own count missing)) ∙ own-at count missing w h

-- one that isn't missing
pub own-stays : (missing : List ℕ) (w : ℕ) → is_missing missing w ≡ false → own_place missing w ≡ Some w
own-stays missing w e = rw e refl

pub own-gone : (missing : List ℕ) (w : ℕ) → is_missing missing w ≡ true → own_place missing w ≡ None
own-gone missing w e = rw e refl

-- what a place among rising numbers tells of one
pub has-at : (ns : List ℕ) (n p : ℕ) → Rise ns → p < length ns → ((i : ℕ) → i < p → get_or ns i 0 < n) → ((i : ℕ) → p ≤ i → i < length ns → n ≤ get_or ns i 0) → nat_eq (get_or ns p 0) n ≡ is_missing ns n
has-at ns n p r b low high = by (nat_eq (get_or ns p 0) n) refl
  where
    none : nat_eq (get_or ns p 0) n ≡ false → (i : ℕ) → i < length ns → get_or ns i 0 ≡ n → ⊥
    none e i h f = at (nat_lt i p) refl
      where
        at : (c : Bool) → nat_lt i p ≡ c → ⊥
        at true g = let less : i < p = grind (arith, nat_tests, g) in let l = low i less in omega (arith, l, f)
        at false g =
            let more : p ≤ i = grind (arith, nat_tests, g) in
            let first = rise-le ns r p i more h in
            let here = high p (omega arith) b in
            let same : get_or ns p 0 ≡ n = omega (arith, first, here, f) in
            grind (arith, nat_tests, e, same)

    by : (c : Bool) → nat_eq (get_or ns p 0) n ≡ c → nat_eq (get_or ns p 0) n ≡ is_missing ns n
    by true e = e ∙ sym (missing-at ns p n b (grind (arith, nat_tests, e)))
    by false e = e ∙ sym (missing-no ns n (none e))

pub has-none : (ns : List ℕ) (n p : ℕ) → length ns ≤ p → ((i : ℕ) → i < p → get_or ns i 0 < n) → nat_lt p (length ns) ≡ is_missing ns n
has-none ns n p h low =
    let past : nat_lt p (length ns) ≡ false = grind (arith, nat_tests, h) in
    past ∙ sym (missing-no ns n (λ i b e. let l = low i (omega (arith, b, h)) in omega (arith, l, e)))

-- none of them lies between two others
pub none-between : (ns : List ℕ) (n p first last : ℕ) → first ≤ n → n ≤ last → ((i : ℕ) → i < p → get_or ns i 0 < first) → ((i : ℕ) → p ≤ i → i < length ns → last < get_or ns i 0) → is_missing ns n ≡ false
none-between ns n p first last a b low high = missing-no ns n none
  where
    none : (i : ℕ) → i < length ns → get_or ns i 0 ≡ n → ⊥
    none i h e = at (nat_lt i p) refl
      where
        at : (c : Bool) → nat_lt i p ≡ c → ⊥
        at true g = let l = low i (grind (arith, nat_tests, g)) in omega (arith, l, e, a)
        at false g = let l = high i (grind (arith, nat_tests, g)) h in omega (arith, l, e, b)

-- a write behind a seam
pub set-seam : {X : Type 0} (xs ys : List X) (i k : ℕ) (y : X) → i ≡ length xs + k → slice_set (xs ++ ys) i y ≡ xs ++ slice_set ys k y
set-seam [] ys i k y e = ap (λ (n : ℕ). slice_set ys n y) (omega (arith, e))
set-seam (x ∷ xs) ys zero k y e = absurd (omega (arith, e))
set-seam {X} (x ∷ xs) ys (suc i) k y e = ap (λ (l : List X). x ∷ l) (set-seam xs ys i k y (omega (arith, e)))

-- a walk by the ranks of its duties' twins
pub walk-under : (twins : List (Option ℕ)) (walks : List (List ℕ)) (place : ℕ) → walk_at (walks_under twins walks) place ≡ map (rank_under twins) (walk_at walks place)
walk-under twins walks place = get_or-map (map (rank_under twins)) walks place []

pub rank-twin : (twins : List (Option ℕ)) (rank k : ℕ) → twin_of twins rank ≡ Some k → rank_under twins rank ≡ k
rank-twin twins rank k e = ap (or_else rank) e

-- a walk of no duty, and one of a duty more, have twins
pub have-none : (twins : List (Option ℕ)) (walks : List (List ℕ)) (place : ℕ) → walk_at walks place ≡ [] → HaveTwins twins walks place
have-none twins walks place e = subst (λ (w : List ℕ). AreTwinWalks twins (walk_at walks place) w) (sym (walk-under twins walks place)) (subst (λ (w : List ℕ). AreTwinWalks twins w (map (rank_under twins) w)) (sym e) refl)

pub have-more : (twins : List (Option ℕ)) (walks : List (List ℕ)) (place before rank k : ℕ) → walk_at walks place ≡ walk_at walks before ++ rank ∷ [] → HaveTwins twins walks before → twin_of twins rank ≡ Some k → HaveTwins twins walks place
have-more twins walks place before rank k e h t =
    let R = map (rank_under twins) in
    let w = walk_at walks before in
    let old : AreTwinWalks twins w (R w) = subst (λ (v : List ℕ). AreTwinWalks twins w v) (walk-under twins walks before) h in
    let one : R w ++ k ∷ [] ≡ R (walk_at walks place) = ap (λ (n : ℕ). R w ++ n ∷ []) (sym (rank-twin twins rank k t)) ∙ (sym (map-append (rank_under twins) w (rank ∷ [])) ∙ ap R (sym e)) in
    subst (λ (v : List ℕ). AreTwinWalks twins (walk_at walks place) v) (one ∙ sym (walk-under twins walks place)) (subst (λ (v : List ℕ). AreTwinWalks twins v (R w ++ k ∷ [])) (sym e) (twins-more twins w (R w) rank k old t))

or-false : (b : Bool) → (b || false) ≡ b
or-false true = refl
or-false false = refl

-- what is told of the walks before a place
abbrev pub AreTold : List (Option ℕ) → List (List ℕ) → ℕ → List Bool → List ℕ → Type 0
AreTold twins from walk lacks missing =
    (length lacks ≡ length from)
    × Rise missing
    × ((i : ℕ) → i < length missing → get_or missing i 0 < walk)
    × ((w : ℕ) → w < walk → get_or lacks w false ≡ is_missing missing w)
    × ((w : ℕ) → w < walk → get_or lacks w false ≡ false → HaveTwins twins from w)
    × ((w : ℕ) → walk ≤ w → get_or lacks w false ≡ false)

-- what holds below a number and at it
below-or-at : (P : ℕ → Type 0) (n : ℕ) → ((w : ℕ) → w < n → P w) → ((w : ℕ) → w ≡ n → P w) → (w : ℕ) → w < n + 1 → P w
below-or-at P n low here w h = by (nat_eq w n) refl
  where
    by : (b : Bool) → nat_eq w n ≡ b → P w
    by true e = here w (grind (arith, nat_tests, e))
    by false e = low w (grind (arith, nat_tests, e, h))

-- one walk more, whose duties have twins
pub told-fine : (twins : List (Option ℕ)) (from : List (List ℕ)) (walk : ℕ) (lacks : List Bool) (missing : List ℕ) → AreTold twins from walk lacks missing → HaveTwins twins from walk → AreTold twins from (walk + 1) lacks missing
told-fine twins from walk lacks missing (long, rise, below, same, fine, rest) have = (
  long,
  rise,
  λ i h. let b = below i h in omega (arith, b),
  below-or-at (λ w. get_or lacks w false ≡ is_missing missing w) walk same (λ w e. rest w (omega (arith, e)) ∙ sym (missing-no missing w (λ i h f. let b = below i h in omega (arith, b, e, f)))),
  below-or-at (λ w. get_or lacks w false ≡ false → HaveTwins twins from w) walk fine (λ w e g. subst (HaveTwins twins from) (sym e) have),
  λ w h. rest w (omega (arith, h)),
)

-- and one with a duty that has none
pub told-lacks : (twins : List (Option ℕ)) (from : List (List ℕ)) (walk : ℕ) (lacks : List Bool) (missing : List ℕ) → walk < length from → AreTold twins from walk lacks missing → AreTold twins from (walk + 1) (set lacks walk true) (missing ++ walk ∷ [])
told-lacks twins from walk lacks missing within (long, rise, below, same, fine, rest) = (
  length-set lacks walk true ∙ long,
  rises,
  belows,
  below-or-at (λ w. get_or (set lacks walk true) w false ≡ is_missing (missing ++ walk ∷ []) w) walk (λ w h. other w h ∙ (same w h ∙ sym (kept w h))) (λ w e. ap (λ (k : ℕ). get_or (set lacks walk true) k false) e ∙ (now ∙ sym (missing-at (missing ++ walk ∷ []) (length missing) w (omega (arith, many)) (last ∙ sym e)))),
  below-or-at (λ w. get_or (set lacks walk true) w false ≡ false → HaveTwins twins from w) walk (λ w h g. fine w h (sym (other w h) ∙ g)) (λ w e g. absurd (no (sym now ∙ (ap (λ (k : ℕ). get_or (set lacks walk true) k false) (sym e) ∙ g)))),
  λ w h. get_or-set_other lacks walk w true false (λ e. omega (arith, e, h)) ∙ rest w (omega (arith, h)),
)
  where
    many : length (missing ++ walk ∷ []) ≡ length missing + 1
    many = length-append missing (walk ∷ [])

    last : get_or (missing ++ walk ∷ []) (length missing) 0 ≡ walk
    last = get_or-append_seam missing walk [] 0

    now : get_or (set lacks walk true) walk false ≡ true
    now = get_or-set_same lacks walk true false (omega (arith, within, long))

    no : true ≡ false → ⊥
    no e = let q : ⊥ = (cc) in q

    other : (w : ℕ) → w < walk → get_or (set lacks walk true) w false ≡ get_or lacks w false
    other w h = get_or-set_other lacks walk w true false (λ e. omega (arith, e, h))

    kept : (w : ℕ) → w < walk → is_missing (missing ++ walk ∷ []) w ≡ is_missing missing w
    kept w h = list_any-append (nat_eq w) missing (walk ∷ []) ∙ rw (other-number w walk (λ e. omega (arith, e, h))) (or-false (is_missing missing w))

    belows : (i : ℕ) → i < length (missing ++ walk ∷ []) → get_or (missing ++ walk ∷ []) i 0 < walk + 1
    belows i h = below-or-at (λ i. get_or (missing ++ walk ∷ []) i 0 < walk + 1) (length missing) (λ i b. let l = below i b in omega (arith, l, get_or_append_left missing (walk ∷ []) 0 i b)) (λ i e. omega (arith, ap (λ (k : ℕ). get_or (missing ++ walk ∷ []) k 0) e, last)) i (omega (arith, h, many))

    rises : Rise (missing ++ walk ∷ [])
    rises i j h b = below-or-at (λ j. i < j → get_or (missing ++ walk ∷ []) i 0 < get_or (missing ++ walk ∷ []) j 0) (length missing)
        (λ j l g. let r = rise i j g l in omega (arith, r, get_or_append_left missing (walk ∷ []) 0 i (omega (arith, g, l)), get_or_append_left missing (walk ∷ []) 0 j l))
        (λ j e g. let l = below i (omega (arith, g, e)) in omega (arith, l, get_or_append_left missing (walk ∷ []) 0 i (omega (arith, g, e)), ap (λ (k : ℕ). get_or (missing ++ walk ∷ []) k 0) e, last))
        j (omega (arith, b, many)) h

none-some : (q : ℕ) → None ≡ Some (Some q) → ⊥
none-some q e = let w : ⊥ = (cc) in w

none-is-some : (q : ℕ) → None ≡ Some q → ⊥
none-is-some q e = let w : ⊥ = (cc) in w

-- walks that are told by the ranks of twins stand at their own places, where none of their duties lacks one
pub own-carried : (twins : List (Option ℕ)) (from : List (List ℕ)) (missing : List ℕ) (told : List (Option ℕ)) (count : ℕ) → count ≡ length from → told ≡ [] → ((w : ℕ) → w < length from → is_missing missing w ≡ false → HaveTwins twins from w)
    → IsCarried twins from (walks_under twins from) (own_places count missing ++ told)
own-carried twins from missing told count long none have = subst (λ (ps : List (Option ℕ)). IsCarried twins from (walks_under twins from) ps) (sym all) carried
  where
    all : own_places count missing ++ told ≡ own_places count missing
    all = ap (λ (ps : List (Option ℕ)). own_places count missing ++ ps) none ∙ append-nil (own_places count missing)

    within : (p q : ℕ) → slice_get (own_places count missing) p ≡ Some (Some q) → p < count
    within p q e = by (nat_lt p count) refl
      where
        by : (b : Bool) → nat_lt p count ≡ b → p < count
        by true g = grind (arith, nat_tests, g)
        by false g = absurd (none-some q (sym (slice_get_past (own_places count missing) p (let h : count ≤ p = grind (arith, nat_tests, g) in omega (arith, h, length-own count missing))) ∙ e))

    at : (p q : ℕ) → slice_get (own_places count missing) p ≡ Some (Some q) → (p ≡ q) × (is_missing missing p ≡ false)
    at p q e = by (is_missing missing p) refl
      where
        found : own_place missing p ≡ Some q
        found = some-once (own_place missing p) (Some q) (sym (own-at count missing p (within p q e)) ∙ e)

        by : (b : Bool) → is_missing missing p ≡ b → (p ≡ q) × (is_missing missing p ≡ false)
        by true g = absurd (none-is-some q (sym (own-gone missing p g) ∙ found))
        by false g = (some-once p q (sym (own-stays missing p g) ∙ found), g)

    carried : IsCarried twins from (walks_under twins from) (own_places count missing)
    carried = record {
      long = length-own count missing ∙ long;
      there = λ p q e. let same = (at p q e).0 in let h = within p q e in omega (arith, same, h, long, length-map from (map (rank_under twins)));
      shows = λ p q e. subst (λ (k : ℕ). AreTwinWalks twins (walk_at from p) (walk_at (walks_under twins from) k)) (at p q e).0 (have p (let h = within p q e in omega (arith, h, long)) (at p q e).1);
    }
