-- The places of what passes a test, from slots in any order.
use Rattle.std.proofs.Common.{◌≡◌, ◌≤◌, ◌<◌, inl, inr, ℕ, suc, ℤ, List, [], ◌∷◌, Bool, true, false, cond, refl, sym, ap, subst, ◌∙◌, arith, filter, map}
use Rattle.std.specs.Prelude.{IsPermutation, IsSorted, ◌==◌}
use Rattle.std.specs.List.{AllByRecursion, IsDistinct}
use Rattle.std.specs.Ordering.{nat_cmp}
use Rattle.std.proofs.lemmas.List.Sorted.{IsPermutation-map, IsPermutation-sym}
use Rattle.std.proofs.lemmas.Map.Keys.{IsDistinct-IsPermutation, IsDistinct-head, IsDistinct-tail, IsDistinct-cons, IsDistinct-from_apart}
use Rattle.crew_resource.specs.Members.{Each, Member}
use Rattle.crew_pairing.proofs.InList.{Member-filter, filter-Member}
use Rattle.crew_pairing.proofs.Tree.{Each-map}
use Rattle.crew_pairing.proofs.Shuffled.{Climb, climb-unique, climb-sorted, Member-shuffled}
use Rattle.crew_net.specs.Machinery.Moments.{slots_from}
use Rattle.crew_net.specs.Ranks.{places_from}
use Rattle.crew_net.specs.Machinery.Moments.{Slot}

-- no two numbers are equal
abbrev AreApart : List ℕ → Type 0
AreApart = IsDistinct ◌==◌

abbrev places : List Slot → List ℕ
places slots = map (λ s. s.place) slots

-- the places from one on are above it, and rise
above : {X : Type 0} (p : X → Bool) (i : ℕ) (xs : List X) → Each (λ n. i ≤ n) (places_from i p xs)
above p i [] = tt
above p i (x ∷ xs) = by (p x) (Each-map (λ (n : ℕ). suc i ≤ n) (λ (n : ℕ). i ≤ n) (places_from (suc i) p xs) (λ n h. omega (arith, h)) (above p (suc i) xs))
  where
    by : (b : Bool) → Each (λ n. i ≤ n) (places_from (suc i) p xs) → Each (λ n. i ≤ n) (cond b (i ∷ places_from (suc i) p xs) (places_from (suc i) p xs))
    by true r = (omega arith, r)
    by false r = r

pub places-climb : {X : Type 0} (p : X → Bool) (i : ℕ) (xs : List X) → Climb (places_from i p xs)
places-climb p i [] = tt
places-climb p i (x ∷ xs) = by (p x) (places-climb p (suc i) xs)
  where
    by : (b : Bool) → Climb (places_from (suc i) p xs) → Climb (cond b (i ∷ places_from (suc i) p xs) (places_from (suc i) p xs))
    by true r = (Each-map (λ (n : ℕ). suc i ≤ n) (λ (n : ℕ). i < n) (places_from (suc i) p xs) (λ n h. omega (arith, h)) (above p (suc i) xs), r)
    by false r = r

-- at home the slots that pass have these places
home-places : (q : ℤ → Bool) (i : ℕ) (ats : List ℤ) → places (filter (λ s. q s.at) (slots_from i ats)) ≡ places_from i q ats
home-places q i [] = refl
home-places q i (a ∷ ats) = by (q a) (home-places q (suc i) ats)
  where
    rest : List Slot
    rest = filter (λ s. q s.at) (slots_from (suc i) ats)

    by : (b : Bool) → places rest ≡ places_from (suc i) q ats → places (cond b (record { at = a; place = i } ∷ rest) rest) ≡ cond b (i ∷ places_from (suc i) q ats) (places_from (suc i) q ats)
    by true r = ap (λ (l : List ℕ). i ∷ l) r
    by false r = r

abbrev always : ℤ → Bool
always x = true

all-pass : (slots : List Slot) → filter (λ s. always s.at) slots ≡ slots
all-pass [] = refl
all-pass (s ∷ slots) = ap (λ (l : List Slot). s ∷ l) (all-pass slots)

nothing-apart : AreApart []
nothing-apart = IsDistinct-from_apart ◌==◌ [] (λ i j d a b. absurd (omega (arith, b)))

apart-all : (n : ℕ) (ns : List ℕ) → Each (λ m. n < m) ns → AllByRecursion (λ m. (n == m) ≡ false) ns
apart-all n [] h = tt
apart-all n (m ∷ ns) h = (let p : n < m = h.0 in grind (arith), apart-all n ns h.1)

apart-climb : (ns : List ℕ) → Climb ns → AreApart ns
apart-climb [] h = nothing-apart
apart-climb (n ∷ ns) h = IsDistinct-cons ◌==◌ n ns (apart-all n ns h.0) (apart-climb ns h.1)

all-filter : (P : ℕ → Type 0) (p : Slot → Bool) (slots : List Slot) → AllByRecursion P (places slots) → AllByRecursion P (places (filter p slots))
all-filter P p [] h = tt
all-filter P p (s ∷ slots) h = by (p s) (all-filter P p slots h.1)
  where
    by : (b : Bool) → AllByRecursion P (places (filter p slots)) → AllByRecursion P (places (cond b (s ∷ filter p slots) (filter p slots)))
    by true r = (h.0, r)
    by false r = r

apart-filter : (p : Slot → Bool) (slots : List Slot) → AreApart (places slots) → AreApart (places (filter p slots))
apart-filter p [] h = h
apart-filter p (s ∷ slots) h = by (p s) (apart-filter p slots (IsDistinct-tail ◌==◌ s.place (places slots) h))
  where
    by : (b : Bool) → AreApart (places (filter p slots)) → AreApart (places (cond b (s ∷ filter p slots) (filter p slots)))
    by true r = IsDistinct-cons ◌==◌ s.place (places (filter p slots)) (all-filter (λ m. (s.place == m) ≡ false) p slots (IsDistinct-head ◌==◌ s.place (places slots) h)) r
    by false r = r

map-Member : (slots : List Slot) (n : ℕ) → Member (places slots) n → (s : Slot) × Member slots s × (s.place ≡ n)
map-Member [] n m = absurd m
map-Member (s ∷ slots) n (inl e) = (s, inl refl, e)
map-Member (s ∷ slots) n (inr m) = let r = map-Member slots n m in (r.0, inr r.1, r.2)

Member-map : (slots : List Slot) (s : Slot) → Member slots s → Member (places slots) s.place
Member-map [] s m = absurd m
Member-map (t ∷ slots) s (inl e) = inl (ap (λ (u : Slot). u.place) e)
Member-map (t ∷ slots) s (inr m) = inr (Member-map slots s m)

-- the same slots pass a test in each order
kept-places : (q : Slot → Bool) (xs ys : List Slot) (n : ℕ) → IsPermutation xs ys → Member (places (filter q xs)) n → Member (places (filter q ys)) n
kept-places q xs ys n s m =
    let r = map-Member (filter q xs) n m in
    let k = filter-Member q xs r.0 r.1 in
    subst (Member (places (filter q ys))) r.2 (Member-map (filter q ys) r.0 (Member-filter q ys r.0 k.0 (Member-shuffled xs ys r.0 s k.1)))

-- the places of the slots that pass, put in order, are those of what passes
pub sorted-places : (q : ℤ → Bool) (ats : List ℤ) (slots : List Slot) (sorted : List ℕ) → IsPermutation (slots_from 0 ats) slots
    → IsPermutation (map (λ s. s.place) (filter (λ s. q s.at) slots)) sorted → IsSorted nat_cmp sorted → sorted ≡ places_from 0 q ats
sorted-places q ats slots sorted all perm up =
    let home = slots_from 0 ats in
    let test : Slot → Bool = λ s. q s.at in
    let whole : places home ≡ places_from 0 always ats = sym (ap places (all-pass home)) ∙ home-places always 0 ats in
    let apart-home : AreApart (places home) = subst AreApart (sym whole) (apart-climb (places_from 0 always ats) (places-climb always 0 ats)) in
    let apart : AreApart (places slots) = IsDistinct-IsPermutation ◌==◌ (λ x y. grind (arith)) (places home) (places slots) (IsPermutation-map (λ (s : Slot). s.place) home slots all) apart-home in
    let apart' : AreApart sorted = IsDistinct-IsPermutation ◌==◌ (λ x y. grind (arith)) (places (filter test slots)) sorted perm (apart-filter test slots apart) in
    let same : places (filter test home) ≡ places_from 0 q ats = home-places q 0 ats in
    sym (climb-unique (places_from 0 q ats) sorted (places-climb q 0 ats) (climb-sorted sorted up apart')
    (λ n m. Member-shuffled (places (filter test slots)) sorted n perm (kept-places test home slots n all (subst (λ (l : List ℕ). Member l n) (sym same) m)))
    (λ n m. subst (λ (l : List ℕ). Member l n) same (kept-places test slots home n (IsPermutation-sym home slots all) (Member-shuffled sorted (places (filter test slots)) n (IsPermutation-sym (places (filter test slots)) sorted perm) m))))

pub places-map : {X Y : Type 0} (f : X → Y) (q : Y → Bool) (i : ℕ) (xs : List X) → places_from i q (map f xs) ≡ places_from i (λ x. q (f x)) xs
places-map f q i [] = refl
places-map {X} f q i (x ∷ xs) = by (q (f x)) (places-map f q (suc i) xs)
  where
    by : (b : Bool) → places_from (suc i) q (map f xs) ≡ places_from (suc i) (λ (x : X). q (f x)) xs
        → cond b (i ∷ places_from (suc i) q (map f xs)) (places_from (suc i) q (map f xs)) ≡ cond b (i ∷ places_from (suc i) (λ (x : X). q (f x)) xs) (places_from (suc i) (λ (x : X). q (f x)) xs)
    by true r = ap (λ (l : List ℕ). i ∷ l) r
    by false r = r

-- tests that agree on each item leave the same places
pub places-same : {X : Type 0} (p q : X → Bool) (i : ℕ) (xs : List X) → Each (λ x. p x ≡ q x) xs → places_from i p xs ≡ places_from i q xs
places-same p q i [] h = refl
places-same p q i (x ∷ xs) h = rw (h.0, places-same p q (suc i) xs h.1) refl
