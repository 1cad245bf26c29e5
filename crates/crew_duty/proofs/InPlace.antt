-- Slots that pass a test, put in order of place, are the places of the flights that pass it.
use Rattle.std.proofs.Common.{◌≡◌, ◌≤◌, ◌<◌, ◌+◌, ℕ, suc, ℤ, pos, ◌+ℤ◌, ◌≤ℤ◌, List, [], ◌∷◌, Some, Ok, Err, Vec, Global, Bool, true, false, cond, refl, ap, subst, arith, filter, map, inl, inr}
use Rattle.std.specs.Prelude.{Result, IfOk, slice_get, IsPermutation, IsSorted, ◌==◌}
use Rattle.std.specs.List.{AllByRecursion}
use Rattle.std.specs.Ordering.{nat_cmp}
use Rattle.std.proofs.lemmas.List.Sorted.{IsPermutation-map, IsPermutation-sym}
use Rattle.std.proofs.lemmas.Map.Keys.{IsDistinct-IsPermutation, IsDistinct-head, IsDistinct-tail, IsDistinct-cons, IsDistinct-from_apart}
use Rattle.crew_flights.specs.declared.flight.Flight.{Flight}
use Rattle.crew_resource.specs.Members.{Each, Member}
use Rattle.crew_duty.specs.Machinery.Plans.{StandAt}
use Rattle.crew_time.specs.Instant.{IsInstant}
use Rattle.crew_flights.specs.Codes.{is_code}
use Rattle.crew_rules.specs.Settings.{IsChecked}
use Rattle.crew_rules.specs.declared.settings.Settings.{Settings}
use Rattle.crew_duty.specs.Machinery.Slots.{IsIndex, earlier, is_after_by, is_between, moment, slot_of, slots_from}
use Rattle.crew_duty.specs.declared.departures.Slot.{Slot}
use Rattle.crew_pairing.proofs.InList.{Each-filter, Member-filter, filter-Member}
use Rattle.crew_pairing.proofs.Shuffled.{AreApart, Climb, Member-shuffled, climb-sorted, climb-unique}
use Rattle.crew_duty.proofs.Slots.{each-follows}
use Rattle.crew_pairing.proofs.Tree.{Each-map}

-- slots each of a place below those of all later ones
abbrev pub PlacesClimb : List Slot → Type 0
PlacesClimb [] = Unit {0}
PlacesClimb (s ∷ slots) = Each (λ t. s.place < t.place) slots × PlacesClimb slots

each-mapped : {X Y : Type 0} (f : X → Y) (P : Y → Type 0) (xs : List X) → Each (λ x. P (f x)) xs → Each P (map f xs)
each-mapped f P [] h = tt
each-mapped f P (x ∷ xs) h = (h.0, each-mapped f P xs h.1)

pub climb-places : (slots : List Slot) → PlacesClimb slots → Climb (map (λ s. s.place) slots)
climb-places [] h = tt
climb-places (s ∷ slots) h = (each-mapped (λ (t : Slot). t.place) (λ m. s.place < m) slots h.0, climb-places slots h.1)

pub climb-filter : (p : Slot → Bool) (slots : List Slot) → PlacesClimb slots → PlacesClimb (filter p slots)
climb-filter p [] h = tt
climb-filter p (s ∷ slots) h = by (p s) (climb-filter p slots h.1)
  where
    by : (b : Bool) → PlacesClimb (filter p slots) → PlacesClimb (cond b (s ∷ filter p slots) (filter p slots))
    by true r = (Each-filter (λ (t : Slot). s.place < t.place) p slots h.0, r)
    by false r = r

from-on : (i : ℕ) (fs : List Flight) → Each (λ s. i ≤ s.place) (slots_from i fs)
from-on i [] = tt
from-on i (f ∷ fs) = (omega arith, Each-map (λ (s : Slot). suc i ≤ s.place) (λ (s : Slot). i ≤ s.place) (slots_from (suc i) fs) (λ s h. omega (arith, h)) (from-on (suc i) fs))

pub climb-from : (i : ℕ) (fs : List Flight) → PlacesClimb (slots_from i fs)
climb-from i [] = tt
climb-from i (f ∷ fs) = (Each-map (λ (s : Slot). suc i ≤ s.place) (λ (s : Slot). i < s.place) (slots_from (suc i) fs) (λ s h. omega (arith, h)) (from-on (suc i) fs), climb-from (suc i) fs)

nothing-apart : AreApart []
nothing-apart = IsDistinct-from_apart ◌==◌ [] (λ i j d a b. absurd (omega (arith, b)))

apart-all : (n : ℕ) (ns : List ℕ) → Each (λ m. n < m) ns → AllByRecursion (λ m. (n == m) ≡ false) ns
apart-all n [] h = tt
apart-all n (m ∷ ns) h = (let p : n < m = h.0 in grind (arith), apart-all n ns h.1)

apart-climb : (ns : List ℕ) → Climb ns → AreApart ns
apart-climb [] h = nothing-apart
apart-climb (n ∷ ns) h = IsDistinct-cons ◌==◌ n ns (apart-all n ns h.0) (apart-climb ns h.1)

all-filter : (P : ℕ → Type 0) (p : Slot → Bool) (slots : List Slot) → AllByRecursion P (map (λ s. s.place) slots) → AllByRecursion P (map (λ s. s.place) (filter p slots))
all-filter P p [] h = tt
all-filter P p (s ∷ slots) h = by (p s) (all-filter P p slots h.1)
  where
    by : (b : Bool) → AllByRecursion P (map (λ s. s.place) (filter p slots)) → AllByRecursion P (map (λ s. s.place) (cond b (s ∷ filter p slots) (filter p slots)))
    by true r = (h.0, r)
    by false r = r

apart-filter : (p : Slot → Bool) (slots : List Slot) → AreApart (map (λ s. s.place) slots) → AreApart (map (λ s. s.place) (filter p slots))
apart-filter p [] h = h
apart-filter p (s ∷ slots) h = by (p s) (apart-filter p slots (IsDistinct-tail ◌==◌ s.place (map (λ t. t.place) slots) h))
  where
    by : (b : Bool) → AreApart (map (λ s. s.place) (filter p slots)) → AreApart (map (λ s. s.place) (cond b (s ∷ filter p slots) (filter p slots)))
    by true r = IsDistinct-cons ◌==◌ s.place (map (λ t. t.place) (filter p slots)) (all-filter (λ m. (s.place == m) ≡ false) p slots (IsDistinct-head ◌==◌ s.place (map (λ t. t.place) slots) h)) r
    by false r = r

-- the flights that pass a test, by their slots
stand-by : (all : List Flight) (i : ℕ) (f : Flight) (slots : List Slot) (fs : List Flight) (b : Bool) → slice_get all i ≡ Some f → StandAt all (map (λ s. s.place) slots) fs
    → StandAt all (map (λ s. s.place) (cond b (slot_of i f ∷ slots) slots)) (cond b (f ∷ fs) fs)
stand-by all i f slots fs true at h = (at, h)
stand-by all i f slots fs false at h = h

pub stand : (p : Flight → Bool) (q : Slot → Bool) (all fs : List Flight) (i : ℕ) → ((k : ℕ) (g : Flight) → slice_get fs k ≡ Some g → slice_get all (i + k) ≡ Some g) → ((place : ℕ) → Each (λ f. q (slot_of place f) ≡ p f) fs)
    → StandAt all (map (λ s. s.place) (filter q (slots_from i fs))) (filter p fs)
stand p q all [] i at agree = tt
stand p q all (f ∷ fs) i at agree =
    let here : slice_get all i ≡ Some f = subst (λ (k : ℕ). slice_get all k ≡ Some f) (omega arith) (at 0 f refl) in
    let rest = stand p q all fs (suc i) (λ k g e. subst (λ (n : ℕ). slice_get all n ≡ Some g) (omega arith) (at (suc k) g e)) (λ place. (agree place).1) in
    rw (agree i).0 (stand-by all i f (filter q (slots_from (suc i) fs)) (filter p fs) (p f) here rest)

map-Member : (slots : List Slot) (n : ℕ) → Member (map (λ s. s.place) slots) n → (s : Slot) × Member slots s × (s.place ≡ n)
map-Member [] n m = absurd m
map-Member (s ∷ slots) n (inl e) = (s, inl refl, e)
map-Member (s ∷ slots) n (inr m) = let r = map-Member slots n m in (r.0, inr r.1, r.2)

Member-map : (slots : List Slot) (s : Slot) → Member slots s → Member (map (λ t. t.place) slots) s.place
Member-map [] s m = absurd m
Member-map (t ∷ slots) s (inl e) = inl (ap (λ (u : Slot). u.place) e)
Member-map (t ∷ slots) s (inr m) = inr (Member-map slots s m)

-- the same slots pass a test in each order
kept-places : (q : Slot → Bool) (xs ys : List Slot) (n : ℕ) → IsPermutation xs ys → Member (map (λ s. s.place) (filter q xs)) n → Member (map (λ s. s.place) (filter q ys)) n
kept-places q xs ys n s m =
    let r = map-Member (filter q xs) n m in
    let k = filter-Member q xs r.0 r.1 in
    subst (Member (map (λ (t : Slot). t.place) (filter q ys))) r.2 (Member-map (filter q ys) r.0 (Member-filter q ys r.0 k.0 (Member-shuffled xs ys r.0 s k.1)))

-- the places of the slots that pass, put in order, are those of the flights that do
pub in-place : (p : Flight → Bool) (q : Slot → Bool) (flights : List Flight) (slots : List Slot) (sorted : List ℕ) → ((place : ℕ) → Each (λ f. q (slot_of place f) ≡ p f) flights) → IsPermutation (slots_from 0 flights) slots
    → IsPermutation (map (λ s. s.place) (filter q slots)) sorted → IsSorted nat_cmp sorted → StandAt flights sorted (filter p flights)
in-place p q flights slots sorted agree all perm up =
    let home = slots_from 0 flights in
    let places = λ (l : List Slot). map (λ (s : Slot). s.place) l in
    let climb = climb-from 0 flights in
    let apart : AreApart (places slots) = IsDistinct-IsPermutation ◌==◌ (λ x y. grind (arith)) (places home) (places slots) (IsPermutation-map (λ (s : Slot). s.place) home slots all) (apart-climb (places home) (climb-places home climb)) in
    let apart' : AreApart sorted = IsDistinct-IsPermutation ◌==◌ (λ x y. grind (arith)) (places (filter q slots)) sorted perm (apart-filter q slots apart) in
    let same : places (filter q home) ≡ sorted = climb-unique (places (filter q home)) sorted (climb-places (filter q home) (climb-filter q home climb)) (climb-sorted sorted up apart')
    (λ n m. Member-shuffled (places (filter q slots)) sorted n perm (kept-places q home slots n all m))
    (λ n m. kept-places q slots home n (IsPermutation-sym home slots all) (Member-shuffled sorted (places (filter q slots)) n (IsPermutation-sym (places (filter q slots)) sorted perm) m)) in
    subst (λ (l : List ℕ). StandAt flights l (filter p flights)) same (stand p q flights flights 0 (λ k g e. subst (λ (n : ℕ). slice_get flights n ≡ Some g) (omega arith) e) agree)

-- the flights that leave where one arrives, after a gap, and depart by a minute, by their slots
pub by-slots : (s : Settings) (gap : ℕ) (before : Flight) (latest : ℤ) (slots window : List Slot) (places : List ℕ) → IsChecked s → gap ≤ s.connect → is_code before.to ≡ true → IsInstant before.arr → latest ≤ℤ pos 100_000_000
    → window ≡ filter (is_between (moment before.to (before.arr +ℤ pos gap)) (moment before.to (earlier (before.arr +ℤ pos s.sit) latest))) slots
    → IsPermutation (map (λ (t : Slot). t.place) window) places → IsSorted nat_cmp places
    → (flights : List Flight) → IsIndex flights slots → StandAt flights places (filter (is_after_by s gap latest before) flights)
by-slots s gap before latest slots window places checked soon code time far same p q flights index =
    let test = is_between (moment before.to (before.arr +ℤ pos gap)) (moment before.to (earlier (before.arr +ℤ pos s.sit) latest)) in
    let shuffled = subst (λ (l : List Slot). IsPermutation (map (λ (t : Slot). t.place) l) places) same p in
    in-place (is_after_by s gap latest before) test flights slots places (λ place. each-follows s gap before flights place latest checked soon index.named code time far) index.all shuffled q
