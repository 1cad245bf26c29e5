-- Slots by moment and then place.
use Rattle.std.proofs.Common.{◌⊎◌, inl, inr, ◌≡◌, ◌≤◌, ◌<◌, ◌+◌, ℕ, zero, suc, ℤ, ◌≤ℤ◌, List, [], ◌∷◌, ◌++◌, false, length, refl, sym, ap, ◌∙◌, arith, take, drop, get_or, int_le}
use Rattle.std.specs.Prelude.{int_lt, IsSorted}
use Rattle.std.specs.List.Sorted.{IsPartitionedBy}
use Rattle.std.specs.Ordering.{int_cmp, is_lt, nat_cmp, ordering_then}
use Rattle.std.specs.declared.cmp.Ordering.{Ordering}
use Rattle.std.specs.declared.cmp.Ordering.TheVariants.{Equal, Greater, Less}
use Rattle.std.specs.Cmp.{IsStrictWeakOrder, int_cmp_total, nat_cmp_total, on_total, then_total}
use Rattle.std.proofs.lemmas.List.Sorted.{ranks_by, sorted_far}
use Rattle.std.proofs.lemmas.Cmp.{int_ranked}
use Rattle.std.proofs.lemmas.Int.{ints}
use Rattle.crew_net.specs.Machinery.Moments.{Ascend, Rise, slot_cmp, slots_from}
use Rattle.crew_net.specs.Machinery.Moments.{Slot}

pub slot-order : IsStrictWeakOrder (λ (a b : Slot). is_lt (slot_cmp a b))
slot-order = ranks_by (then_total (on_total (λ (s : Slot). s.at) int_cmp_total) (on_total (λ (s : Slot). s.place) nat_cmp_total)) (λ s. s)

pub later-at : (x y : Slot) → is_lt (slot_cmp y x) ≡ false → x.at ≤ℤ y.at
later-at x y h = by (int_cmp y.at x.at) (nat_cmp y.place x.place) refl h
  where
    by : (r s : Ordering) → int_cmp y.at x.at ≡ r → is_lt (ordering_then r s) ≡ false → x.at ≤ℤ y.at
    by Less s e h = absurd (cc)
    by Equal s e h = let r = int_ranked y.at x.at Equal (sym e) in omega (arith, ints, r)
    by Greater s e h = let r = int_ranked y.at x.at Greater (sym e) in omega (arith, ints, r)

pub ascends : (slots : List Slot) → IsSorted slot_cmp slots → Ascend slots
ascends slots s i j d a b = later-at (get_or slots i d) (get_or slots j d) (sorted_far _ slot-order slots s i j d a b)

pub early-parted : (slots : List Slot) (m : ℤ) → Ascend slots → IsPartitionedBy (λ s. int_lt s.at m) slots
early-parted slots m up i j d a b h = let k = up i j d a b in grind (arith, ints)

pub rise-far : (ms : List ℤ) → Rise ms → (i j : ℕ) (d : ℤ) → i ≤ j → j < length ms → get_or ms i d ≤ℤ get_or ms j d
rise-far ms up i j d a b = elim (cases i j a) [ inl e ↦ (let f : get_or ms i d ≡ get_or ms j d = ap (λ (n : ℕ). get_or ms n d) e in omega (arith, ints, f)) | inr l ↦ (let k = up i j d l b in omega (arith, ints, k)) ]
  where
    cases : (i j : ℕ) → i ≤ j → (i ≡ j) ⊎ (i < j)
    cases zero zero a = inl refl
    cases zero (suc j) a = inr (omega arith)
    cases (suc i) zero a = absurd (omega (arith, a))
    cases (suc i) (suc j) a = elim (cases i j (omega (arith, a))) [ inl e ↦ inl (ap suc e) | inr l ↦ inr (omega (arith, l)) ]

pub early-moments : (ms : List ℤ) (m : ℤ) → Rise ms → IsPartitionedBy (λ x. int_lt x m) ms
early-moments ms m up i j d a b h = let k = rise-far ms up i j d a b in grind (arith, ints)

pub late-moments : (ms : List ℤ) (m : ℤ) → Rise ms → IsPartitionedBy (λ x. int_le x m) ms
late-moments ms m up i j d a b h = let k = rise-far ms up i j d a b in grind (arith, ints)

pub rise-drop : (ms : List ℤ) (n : ℕ) → Rise ms → Rise (drop n ms)
rise-drop ms zero up = up
rise-drop [] (suc n) up = λ i j d a b. absurd (omega (arith, b))
rise-drop (x ∷ ms) (suc n) up = rise-drop ms n (λ i j d a b. up (suc i) (suc j) d (omega arith) (omega arith))

-- one slot more
pub slots-more : (i : ℕ) (ats : List ℤ) (k : ℕ) (d : ℤ) → k < length ats → slots_from i (take (k + 1) ats) ≡ slots_from i (take k ats) ++ record { at = get_or ats k d; place = i + k } ∷ []
slots-more i [] k d h = absurd (omega (arith, h))
slots-more i (a ∷ ats) zero d h = let e : i + 0 ≡ i = omega arith in rw e refl
slots-more i (a ∷ ats) (suc k) d h =
    let e : suc i + k ≡ i + suc k = omega arith in
    let on : suc k + 1 ≡ suc (k + 1) = omega arith in
    let one : ℕ → Slot = λ n. record { at = get_or ats k d; place = n } in
    rw on (ap (λ (l : List Slot). record { at = a; place = i } ∷ l) (slots-more (suc i) ats k d (omega (arith, h)) ∙ ap (λ (n : ℕ). slots_from (suc i) (take k ats) ++ one n ∷ []) e))

pub slots-one : (ats : List ℤ) (k : ℕ) (d : ℤ) → k < length ats → slots_from 0 (take (k + 1) ats) ≡ slots_from 0 (take k ats) ++ record { at = get_or ats k d; place = k } ∷ []
slots-one ats k d h =
    let one : ℕ → Slot = λ n. record { at = get_or ats k d; place = n } in
    slots-more 0 ats k d h ∙ ap (λ (n : ℕ). slots_from 0 (take k ats) ++ one n ∷ []) (omega arith)

pub length-slots_from : (i : ℕ) (ats : List ℤ) → length (slots_from i ats) ≡ length ats
length-slots_from i [] = refl
length-slots_from i (a ∷ ats) = ap suc (length-slots_from (suc i) ats)
