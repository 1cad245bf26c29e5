-- Keys of slots: they tell their slots, and stand in the order of these.
use Rattle.std.proofs.Common.{◌≡◌, ◌≤◌, ◌<◌, ◌+◌, ◌*◌, ◌/◌, ◌%◌, ◌+ℤ◌, ◌-ℤ◌, ℕ, suc, ℤ, pos, List, [], ◌∷◌, ◌++◌, false, length, take, refl, sym, ap, subst, ◌∙◌, arith, get_or, map}
use Rattle.std.specs.Prelude.{IsPermutation, IsSorted}
use Rattle.std.specs.Ordering.{int_cmp, is_lt, nat_cmp, ordering_then}
use Rattle.std.specs.declared.cmp.Ordering.{Ordering}
use Rattle.std.specs.declared.cmp.Ordering.TheVariants.{Equal, Greater, Less}
use Rattle.std.proofs.lemmas.Cmp.{int_ranked}
use Rattle.std.proofs.lemmas.List.{get_or-map, length-map, length-take-le}
use Rattle.std.proofs.lemmas.List.Sorted.{IsPermutation-map, IsPermutation-refl, IsPermutation-trans, length_permutation}
use Rattle.std.proofs.lemmas.Int.{ints}
use Rattle.crew_net.specs.Machinery.Moments.{AreInOrder, AreKeys, Ascend, keyed_slot, slot_cmp, slots_from}
use Rattle.crew_net.specs.Machinery.Moments.{Slot}
use Rattle.crew_net.proofs.InOrder.{ascends, length-slots_from}
use Rattle.crew_net.proofs.Named.{map-more}

quotient : (n p : ℕ) → p < 200_000 → (n * 200_000 + p) / 200_000 ≡ n
quotient n p h = omega (arith, h)

rest : (n p : ℕ) → p < 200_000 → (n * 200_000 + p) % 200_000 ≡ p
rest n p h = omega (arith, h)

pub key-slot : (n p key : ℕ) (at : ℤ) → p < 200_000 → key ≡ n * 200_000 + p → pos n ≡ at +ℤ pos 2_147_500_001 → keyed_slot key ≡ record { at = at; place = p }
key-slot n p key at h e f =
    let q : key / 200_000 ≡ n = ap (λ (k : ℕ). k / 200_000) e ∙ quotient n p h in
    let r : key % 200_000 ≡ p = ap (λ (k : ℕ). k % 200_000) e ∙ rest n p h in
    let a : pos (key / 200_000) -ℤ pos 2_147_500_001 ≡ at = omega (arith, ints, q, f) in
    λ i. record { at = a i; place = r i }

place-up : (k l : ℕ) → k ≤ l → l / 200_000 ≡ k / 200_000 → k % 200_000 ≤ l % 200_000
place-up k l h e = omega (arith, h, e)

at-up : (k l : ℕ) → k ≤ l → k / 200_000 ≤ l / 200_000
at-up k l h = omega (arith, h)

not-under : (p q : ℕ) → p ≤ q → is_lt (nat_cmp q p) ≡ false
not-under p q h = grind (arith, h)

key-order : (k l : ℕ) → k ≤ l → is_lt (slot_cmp (keyed_slot l) (keyed_slot k)) ≡ false
key-order k l h = by (int_cmp (keyed_slot l).at (keyed_slot k).at) refl
  where
    by : (r : Ordering) → int_cmp (keyed_slot l).at (keyed_slot k).at ≡ r → is_lt (ordering_then r (nat_cmp (keyed_slot l).place (keyed_slot k).place)) ≡ false
    by Less e = absurd (let r = int_ranked (keyed_slot l).at (keyed_slot k).at Less (sym e) in let u = at-up k l h in omega (arith, ints, r, u))
    by Equal e =
        let r = int_ranked (keyed_slot l).at (keyed_slot k).at Equal (sym e) in
        let same : l / 200_000 ≡ k / 200_000 = omega (arith, ints, r) in
        not-under (k % 200_000) (l % 200_000) (place-up k l h same)
    by Greater e = refl

not-less : (k l : ℕ) → is_lt (nat_cmp l k) ≡ false → k ≤ l
not-less k l h = grind (arith, h)

pub keys-sorted : (keys : List ℕ) → IsSorted nat_cmp keys → IsSorted slot_cmp (map keyed_slot keys)
keys-sorted [] s k d a b = absurd (omega (arith, b))
keys-sorted (x ∷ keys) s k d a b =
    let xs = x ∷ keys in
    let long = length-map xs keyed_slot in
    rw (get_or-map keyed_slot xs (k + 1) x d (omega (arith, long, b)), get_or-map keyed_slot xs k x d (omega (arith, long, b)))
    (key-order (get_or xs k x) (get_or xs (k + 1) x) (not-less (get_or xs k x) (get_or xs (k + 1) x) (s k x (omega arith) (omega (arith, long, b)))))

pub map-push : {X Y : Type 0} (f : X → Y) (xs : List X) (x : X) (ys : List X) → ys ≡ xs ++ x ∷ [] → map f ys ≡ map f xs ++ f x ∷ []
map-push f xs x ys e = ap (map f) e ∙ on xs
  where
    on : (xs : List _) → map f (xs ++ x ∷ []) ≡ map f xs ++ f x ∷ []
    on [] = refl
    on (y ∷ xs) = ap (λ l. f y ∷ l) (on xs)

-- keys put in order are slots in order
pub keys-in-order : (ats : List ℤ) (keys sorted : List ℕ) → AreKeys ats keys → IsPermutation keys sorted → IsSorted nat_cmp sorted → AreInOrder ats (map keyed_slot sorted)
keys-in-order ats keys sorted are perm up = record {
  all = IsPermutation-trans (slots_from 0 ats) (map keyed_slot keys) (map keyed_slot sorted) are (IsPermutation-map keyed_slot keys sorted perm);
  sorted = keys-sorted sorted up;
}

pub keys-ascend : (keys : List ℕ) → IsSorted nat_cmp keys → Ascend (map keyed_slot keys)
keys-ascend keys up = ascends (map keyed_slot keys) (keys-sorted keys up)

-- the places of keys are those of their slots
pub key-places : (keys : List ℕ) → map (λ k. (keyed_slot k).place) keys ≡ map (λ (s : Slot). s.place) (map keyed_slot keys)
key-places [] = refl
key-places (k ∷ keys) = ap (λ (l : List ℕ). (keyed_slot k).place ∷ l) (key-places keys)

-- one key more
slots-push : (i : ℕ) (ats : List ℤ) (at : ℤ) → slots_from i (ats ++ at ∷ []) ≡ slots_from i ats ++ record { at = at; place = i + length ats } ∷ []
slots-push i [] at = let e : i ≡ i + 0 = omega arith in λ j. record { at = at; place = e j } ∷ []
slots-push i (a ∷ ats) at =
    let e : suc i + length ats ≡ i + suc (length ats) = omega arith in
    ap (λ (l : List Slot). record { at = a; place = i } ∷ l) (slots-push (suc i) ats at ∙ ap (λ (n : ℕ). slots_from (suc i) ats ++ record { at = at; place = n } ∷ []) e)

module _ {X : Type 0} (f : X → ℤ) (xs : List X) (k : ℕ) (d : X) (within : k < length xs) where
  pub one-key-more : (keys : List ℕ) (key : ℕ) (keys' : List ℕ) → map keyed_slot keys ≡ slots_from 0 (map f (take k xs)) → keyed_slot key ≡ record { at = f (get_or xs k d); place = k } → keys' ≡ keys ++ key ∷ []
      → map keyed_slot keys' ≡ slots_from 0 (map f (take (k + 1) xs))
  one-key-more keys key keys' so own e =
      let long : length (map f (take k xs)) ≡ k = length-map (take k xs) f ∙ length-take-le k xs (omega (arith, within)) in
      let place : k ≡ 0 + length (map f (take k xs)) = omega (arith, long) in
      let one : ℕ → Slot = λ n. record { at = f (get_or xs k d); place = n } in
      let is : keyed_slot key ≡ one (0 + length (map f (take k xs))) = own ∙ ap one place in
      map-push keyed_slot keys key keys' e
      ∙ ((λ j. so j ++ is j ∷ [])
      ∙ (sym (slots-push 0 (map f (take k xs)) (f (get_or xs k d))) ∙ ap (slots_from 0) (sym (map-more f xs k d within))))

pub all-keys : {X : Type 0} (f : X → ℤ) (xs taken : List X) (keys : List ℕ) → map keyed_slot keys ≡ slots_from 0 (map f taken) → taken ≡ xs → AreKeys (map f xs) keys
all-keys {X} f xs taken keys so all = subst (IsPermutation (slots_from 0 (map f xs))) (sym (so ∙ ap (λ (l : List X). slots_from 0 (map f l)) all)) (IsPermutation-refl (slots_from 0 (map f xs)))

pub keys-long : {X : Type 0} (f : X → ℤ) (xs : List X) (keys : List ℕ) → AreKeys (map f xs) keys → length keys ≡ length xs
keys-long f xs keys are =
    let shuffled = length_permutation (slots_from 0 (map f xs)) (map keyed_slot keys) are in
    let mapped = length-map keys keyed_slot in
    let slots = length-slots_from 0 (map f xs) in
    let long = length-map xs f in
    omega (arith, shuffled, mapped, slots, long)

pub gathered-keys : (ats : List ℤ) (keys gathered : List ℕ) → AreKeys ats keys → IsPermutation keys gathered → AreKeys ats gathered
gathered-keys ats keys gathered are perm = IsPermutation-trans (slots_from 0 ats) (map keyed_slot keys) (map keyed_slot gathered) are (IsPermutation-map keyed_slot keys gathered perm)
