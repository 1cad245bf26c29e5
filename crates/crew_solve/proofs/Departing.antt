-- The duties that leave at a departure, by its place in order of report.
use Rattle.std.proofs.Common.{◌≡◌, ◌∙◌, ◌<◌, ◌+◌, ◌⊎◌, ℕ, zero, suc, ℤ, Bool, true, false, cond, List, [], ◌∷◌, Some, inl, inr, refl, sym, ap, ap₂, subst, ⊎_elim, arith, length, get_or, map, true≢false}
use Rattle.std.specs.Prelude.{slice_get, ◌==◌}
use Rattle.std.specs.List.{IsDistinct, range_with_len}
use Rattle.std.specs.Ordering.{int_eq}
use Rattle.std.specs.declared.cmp.Ordering.TheVariants.{Less}
use Rattle.std.proofs.lemmas.Bool.{and_parts}
use Rattle.std.proofs.lemmas.Int.{ints}
use Rattle.std.proofs.lemmas.List.FromFn.{get_or-range_with_len, length-range_with_len}
use Rattle.std.proofs.lemmas.List.Sorted.{IsPermutation-sym}
use Rattle.std.proofs.lemmas.Map.Keys.{IsDistinct-IsPermutation, IsDistinct-from_apart, apart_from_distinct}
use Rattle.std.specs.Cmp.{IsTotalOrder, int_cmp_total, on_total, then_total}
use Rattle.std.proofs.lemmas.Cmp.{tied_itself}
use Rattle.crew_flights.specs.Codes.{code_cmp_total}
use Rattle.crew_pairing.proofs.Shuffled.{Member-shuffled}
use Rattle.crew_net.specs.Events.{AreEvents, departure_cmp, leaves_at}
use Rattle.crew_net.specs.Nets.{AreByReport, Net}
use Rattle.crew_net.specs.Ranks.{places_from, ranks_where}
use Rattle.crew_pairing.specs.Events.{departure_of}
use Rattle.crew_pairing.specs.declared.duty.Duty.{Duty}
use Rattle.crew_pairing.specs.declared.events.Departure.{Departure}
use Rattle.crew_resource.specs.Members.{Member}
use Rattle.crew_net.proofs.Numbers.{get-member, get-within}
use Rattle.crew_net.specs.Machinery.Numbered.{AreDistinct}
use Rattle.crew_net.specs.Positions.{departure_at, in_order}
use Rattle.crew_vector.proofs.Orders.{code-itself, same-code}

-- what stands at a place
pub there : {X : Type 0} (xs : List X) (k : ℕ) → k < length xs → (x : X) × (slice_get xs k ≡ Some x)
there [] k h = absurd (omega (arith, h))
there (x ∷ xs) zero h = (x, refl)
there (x ∷ xs) (suc k) h = there xs k (omega (arith, h))

pub get-by : {X : Type 0} (xs : List X) (k : ℕ) (d x : X) → slice_get xs k ≡ Some x → get_or xs k d ≡ x
get-by [] k d x e = absurd (let q : ⊥ = (cc) in q)
get-by (y ∷ xs) zero d x e = let q : y ≡ x = (cc) in q
get-by (y ∷ xs) (suc k) d x e = get-by xs k d x e

pub at-map : {X Y : Type 0} (f : X → Y) (xs : List X) (k : ℕ) (d : X) → k < length xs → slice_get (map f xs) k ≡ Some (f (get_or xs k d))
at-map f [] k d h = absurd (omega (arith, h))
at-map f (x ∷ xs) zero d h = refl
at-map f (x ∷ xs) (suc k) d h = at-map f xs k d (omega (arith, h))

pub map-within : {X Y : Type 0} (f : X → Y) (xs : List X) (k : ℕ) (y : Y) → slice_get (map f xs) k ≡ Some y → k < length xs
map-within f [] k y e = absurd (let q : ⊥ = (cc) in q)
map-within f (x ∷ xs) zero y e = omega arith
map-within f (x ∷ xs) (suc k) y e = let h = map-within f xs k y e in omega (arith, h)

pub member-at : {X : Type 0} (xs : List X) (x : X) → Member xs x → (k : ℕ) × (slice_get xs k ≡ Some x)
member-at [] x m = absurd m
member-at (y ∷ xs) x (inl e) = (0, ap Some e)
member-at (y ∷ xs) x (inr m) = let k = member-at xs x m in (suc k.0, k.1)

-- the ranks of what passes a test
places-by : {X : Type 0} (p : X → Bool) (from : ℕ) (x : X) (xs : List X) (k : ℕ) → (Member (places_from (suc from) p xs) k → (j : ℕ) × (y : X) × (k ≡ suc from + j) × (slice_get xs j ≡ Some y) × (p y ≡ true))
    → (b : Bool) → p x ≡ b → Member (cond b (from ∷ places_from (suc from) p xs) (places_from (suc from) p xs)) k → (j : ℕ) × (y : X) × (k ≡ from + j) × (slice_get (x ∷ xs) j ≡ Some y) × (p y ≡ true)
places-by p from x xs k later true e (inl q) = (0, x, omega (arith, q), refl, e)
places-by p from x xs k later true e (inr m) = let r = later m in (suc r.0, r.1, omega (arith, r.2), r.3, r.4)
places-by p from x xs k later false e m = let r = later m in (suc r.0, r.1, omega (arith, r.2), r.3, r.4)

places-out : {X : Type 0} (p : X → Bool) (from : ℕ) (xs : List X) (k : ℕ) → Member (places_from from p xs) k → (j : ℕ) × (x : X) × (k ≡ from + j) × (slice_get xs j ≡ Some x) × (p x ≡ true)
places-out p from [] k m = absurd m
places-out p from (x ∷ xs) k m = places-by p from x xs k (places-out p (suc from) xs k) (p x) refl m

pub rank-out : {X : Type 0} (p : X → Bool) (xs : List X) (k : ℕ) → Member (ranks_where p xs) k → (x : X) × (slice_get xs k ≡ Some x) × (p x ≡ true)
rank-out {X} p xs k m =
    let r = places-out p 0 xs k m in
    let e : k ≡ r.0 = omega (arith, r.2) in
    (r.1, subst (λ j. slice_get xs j ≡ Some r.1) (sym e) r.3, r.4)

places-keep : (from : ℕ) (b : Bool) (ks : List ℕ) (k : ℕ) → Member ks k → Member (cond b (from ∷ ks) ks) k
places-keep from true ks k m = inr m
places-keep from false ks k m = m

places-in : {X : Type 0} (p : X → Bool) (from : ℕ) (xs : List X) (j : ℕ) (x : X) → slice_get xs j ≡ Some x → p x ≡ true → Member (places_from from p xs) (from + j)
places-in p from [] j x e h = absurd (let q : ⊥ = (cc) in q)
places-in p from (y ∷ xs) zero x e h =
    let q : y ≡ x = (cc) in
    let t : p y ≡ true = ap p q ∙ h in
    let k : from ≡ from + 0 = omega arith in
    subst (λ b. Member (cond b (from ∷ places_from (suc from) p xs) (places_from (suc from) p xs)) (from + 0)) (sym t) (inl k)
places-in {X} p from (y ∷ xs) (suc j) x e h =
    let on : suc from + j ≡ from + suc j = omega arith in
    places-keep from (p y) (places_from (suc from) p xs) (from + suc j) (subst (Member (places_from (suc from) p xs)) on (places-in p (suc from) xs j x e h))

pub rank-in : {X : Type 0} (p : X → Bool) (xs : List X) (j : ℕ) (x : X) → slice_get xs j ≡ Some x → p x ≡ true → Member (ranks_where p xs) j
rank-in p xs j x e h = let on : 0 + j ≡ j = omega arith in subst (Member (ranks_where p xs)) on (places-in p 0 xs j x e h)

-- a duty leaves at its own departure alone
same-int : (a b : ℤ) → int_eq a b ≡ true → a ≡ b
same-int a b h = grind (arith, ints)

int-itself : (a : ℤ) → int_eq a a ≡ true
int-itself a = grind (arith, ints)

pub leaves-own : (g : Departure) (d : Duty) → leaves_at g d ≡ true → g ≡ departure_of d
leaves-own g d e =
    let p = and_parts _ _ e in
    ap₂ {C = Departure} (λ a m. record { airport = a; report = m }) (same-code g.airport d.from p.0) (same-int g.report d.report p.1)

pub own-leaves : (d : Duty) → leaves_at (departure_of d) d ≡ true
own-leaves d = rw (code-itself d.from d.from refl, int-itself d.report) refl

-- departures in order of report
pub place-within : (gs : List Departure) (places : List ℕ) (k : ℕ) → AreByReport gs places → k < length places → get_or places k 0 < length gs
place-within gs places k order h =
    let x = there places k h in
    let m = Member-shuffled places (range_with_len 0 (length gs)) x.0 (IsPermutation-sym (range_with_len 0 (length gs)) places order.all) (get-member places k x.0 x.1) in
    let at = member-at (range_with_len 0 (length gs)) x.0 m in
    let within = get-within (range_with_len 0 (length gs)) at.0 x.0 at.1 in
    let long = length-range_with_len 0 (length gs) in
    let low : at.0 < length gs = omega (arith, within, long) in
    let is = sym (get-by (range_with_len 0 (length gs)) at.0 0 x.0 at.1) ∙ get_or-range_with_len 0 (length gs) at.0 0 low in
    let same = get-by places k 0 x.0 x.1 in
    omega (arith, is, same, low)

pub record Departs (net : Net) (index : ℕ) : Type 0 where
  pub departure : Departure
  pub within : get_or net.by_report index 0 < length net.departures
  pub own : slice_get net.departures (get_or net.by_report index 0) ≡ Some departure
  pub stands : slice_get (in_order net) index ≡ Some departure

pub departs : (net : Net) (index : ℕ) → AreByReport net.departures net.by_report → index < length net.by_report → Departs net index
departs net index order h =
    let within = place-within net.departures net.by_report index order h in
    let g = there net.departures (get_or net.by_report index 0) within in
    record {
      departure = g.0;
      within = within;
      own = g.1;
      stands = at-map (departure_at net.departures) net.by_report index 0 h ∙ ap Some (get-by net.departures (get_or net.by_report index 0) _ g.0 g.1);
    }

-- each departure stands in one place
apart-places : (n : ℕ) → IsDistinct ◌==◌ (range_with_len 0 n)
apart-places n =
    IsDistinct-from_apart ◌==◌ (range_with_len 0 n) (λ i j d l h.
    let long = length-range_with_len 0 n in
    let low : j < n = omega (arith, h, long) in
    let less : i < n = omega (arith, l, low) in
    let p = get_or-range_with_len 0 n i d less in
    let q = get_or-range_with_len 0 n j d low in
    apart-by (get_or (range_with_len 0 n) i d) (get_or (range_with_len 0 n) j d) (omega (arith, p, q, l)))
  where
    apart-by : (a b : ℕ) → a < b → (a == b) ≡ false
    apart-by a b h = grind arith

flips : (x y : ℕ) → (x == y) ≡ (y == x)
flips x y = grind arith

itself : (x : ℕ) → (x == x) ≡ true
itself x = grind arith

one-or-other : (i j : ℕ) → (i ≡ j) ⊎ ((i < j) ⊎ (j < i))
one-or-other i j = grind arith

same-place : (places : List ℕ) (i j x : ℕ) → IsDistinct ◌==◌ places → slice_get places i ≡ Some x → slice_get places j ≡ Some x → i < j → ⊥
same-place places i j x distinct e f l =
    let h = get-within places j x f in
    let apart = apart_from_distinct ◌==◌ places i j 0 distinct l h in
    let p = get-by places i 0 x e in
    let q = get-by places j 0 x f in
    let t : (get_or places i 0 == get_or places j 0) ≡ true = rw (p, q) (itself x) in
    true≢false (sym t ∙ apart)

departure_total : IsTotalOrder departure_cmp
departure_total = then_total (on_total (λ (g : Departure). g.airport) code_cmp_total) (on_total (λ (g : Departure). g.report) int_cmp_total)

not-less : (g : Departure) → departure_cmp g g ≡ Less → ⊥
not-less g e = let t = tied_itself departure_total g in absurd (let q : ⊥ = (cc) in q)

pub distinct-in-order : (net : Net) (ds : List Duty) → AreEvents departure_of departure_cmp ds net.departures → AreByReport net.departures net.by_report → AreDistinct (in_order net)
distinct-in-order net ds events order i j g e f =
    let places = net.by_report in
    let distinct = IsDistinct-IsPermutation ◌==◌ flips (range_with_len 0 (length net.departures)) places order.all (apart-places (length net.departures)) in
    let x = departs net i order (map-within (departure_at net.departures) places i g e) in
    let y = departs net j order (map-within (departure_at net.departures) places j g f) in
    let p = get_or places i 0 in
    let q = get_or places j 0 in
    let gp : slice_get net.departures p ≡ Some g = x.own ∙ (sym x.stands ∙ e) in
    let gq : slice_get net.departures q ≡ Some g = y.own ∙ (sym y.stands ∙ f) in
    let same : p ≡ q = ⊎_elim (λ h. h) (⊎_elim (λ l. absurd (not-less g (events.rising p q g g l gp gq))) (λ l. absurd (not-less g (events.rising q p g g l gq gp)))) (one-or-other p q) in
    let a = there places i (map-within (departure_at net.departures) places i g e) in
    let b = there places j (map-within (departure_at net.departures) places j g f) in
    let pa = get-by places i 0 a.0 a.1 in
    let qb = get-by places j 0 b.0 b.1 in
    let b-is : slice_get places j ≡ Some a.0 = b.1 ∙ ap Some (sym qb ∙ (sym same ∙ pa)) in
    ⊎_elim (λ h. h) (⊎_elim (λ l. absurd (same-place places i j a.0 distinct a.1 b-is l)) (λ l. absurd (same-place places j i a.0 distinct b-is a.1 l))) (one-or-other i j)

-- what is read at a place
pub read-at : {X : Type 0} (xs ys : List X) (k : ℕ) (x : X) → ys ≡ xs → k < length xs → x ≡ get_or ys k x → slice_get xs k ≡ Some x
read-at xs ys k x same h e =
    let t = there xs k h in
    t.1 ∙ ap Some (sym (get-by xs k x t.0 t.1) ∙ (ap (λ l. get_or l k x) (sym same) ∙ sym e))
