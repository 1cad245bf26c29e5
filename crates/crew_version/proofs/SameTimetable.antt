-- Two timetables with the same flights, bases, turns and follow-ons are one.
use Rattle.std.proofs.Common.{◌≡◌, ℕ, ℤ, Bool, true, List, [], ◌∷◌, ◌&&◌, refl, sym, subst, ◌∙◌, ap, Option, None, Some, suc, nat_eq}
use Rattle.std.specs.Bool.{Decides}
use Rattle.std.specs.Ordering.{eq_by_cmp, int_eq}
use Rattle.crew_flights.specs.Codes.{code_cmp}
use Rattle.std.specs.Prelude.{map as list_map, slice_get}
use Rattle.std.specs.Ordering.{nat_cmp}
use Rattle.std.specs.Cmp.{Equal-is, nat_cmp_total, eq_by_cmp_equiv}
use Rattle.std.proofs.lemmas.Bool.{and_from, and_parts}
use Rattle.std.proofs.lemmas.Bool.Decides.{Decides-eqb, Decides-int_eq}
use Rattle.crew_vector.proofs.Orders.{code-itself, same-code}
use Rattle.std.specs.FinMap as map
use Rattle.std.proofs.lemmas.Map.Keys.{IsDistinct-from_sorted}
use Rattle.std.proofs.lemmas.Map.Entries.{lookup_from_place}
use Rattle.crew_flights.specs.FollowOns.{Links}
use Rattle.crew_flights.specs.Timetable.{Timetable, IsMirrored, IsSound}
use Rattle.crew_flights.specs.declared.flight.Flight.{Flight}
use Rattle.crew_flights.proofs.Listed.{keys_rise}
use Rattle.crew_flights.proofs.Maps.{find_lookup}

-- each flight stands under its own number
numbered : (t : Timetable) → IsSound t → (k n : ℕ) (f : Flight) → slice_get (map.entries t.flights) k ≡ Some (n, f) → f.id ≡ n
numbered t s k n f h =
    (s.flights n f (map.get-entries t.flights n ∙ find_lookup nat_cmp n (map.entries t.flights) ∙ lookup_from_place (eq_by_cmp_equiv nat_cmp_total) (map.entries t.flights) k n f (IsDistinct-from_sorted nat_cmp _ (keys_rise nat_cmp t.flights)) h)).own

-- entries whose flights have their numbers are known by their flights
again : (es : List (ℕ × Flight)) → ((k n : ℕ) (f : Flight) → slice_get es k ≡ Some (n, f) → f.id ≡ n) → es ≡ list_map (λ (f : Flight). (f.id, f)) (list_map (λ (e : ℕ × Flight). e.1) es)
again [] h = refl
again (e ∷ es) h =
    let own : e.1.id ≡ e.0 = h 0 e.0 e.1 refl in
    ap (λ (n : ℕ). (n, e.1) ∷ es) (sym own) ∙ ap (λ (l : List (ℕ × Flight)). (e.1.id, e.1) ∷ l) (again es (λ k n f at. h (suc k) n f at))

-- flights by number tell the map that holds them
pub same-flights : (a b : Timetable) → IsSound a → IsSound b → map.values a.flights ≡ map.values b.flights → a.flights ≡ b.flights
same-flights a b s t h =
    map.same_entries_map a.flights b.flights
    (again (map.entries a.flights) (numbered a s) ∙ ap (list_map (λ (f : Flight). (f.id, f))) h ∙ sym (again (map.entries b.flights) (numbered b t)))

-- a mirror of links is told by them
one-mirror : (f l m : Links) → IsMirrored f l → IsMirrored l f → IsMirrored f m → IsMirrored m f → (q : ℕ) → map.get l q ≡ map.get m q
one-mirror f l m to-l from-l to-m from-m q = by (map.get l q) (map.get m q) refl refl
  where
    by : (a b : Option ℕ) → map.get l q ≡ a → map.get m q ≡ b → map.get l q ≡ map.get m q
    by (Some x) b e k = e ∙ sym (to-m x q (from-l q x e))
    by None (Some y) e k = to-l y q (from-m q y k) ∙ sym k
    by None None e k = e ∙ sym k

same-leads : (a b : Timetable) → IsSound a → IsSound b → a.follows ≡ b.follows → a.leads ≡ b.leads
same-leads a b s t e =
    map.same_map nat_cmp_total map.nat_cmp-IsAntisymmetric a.leads b.leads
    (one-mirror b.follows a.leads b.leads (subst (λ (f : Links). IsMirrored f a.leads) e s.leads) (subst (λ (f : Links). IsMirrored a.leads f) e s.follows) t.leads t.follows)

-- flights by number, bases by code, turns and follow-ons tell a timetable
pub same-timetable : (a b : Timetable) → IsSound a → IsSound b → map.values a.flights ≡ map.values b.flights → map.entries a.bases ≡ map.entries b.bases → map.entries a.turns ≡ map.entries b.turns
    → map.entries a.follows ≡ map.entries b.follows → a ≡ b
same-timetable a b s t h k l m =
    let follows = map.same_entries_map a.follows b.follows m in
    ap (λ x. record { flights = x; bases = a.bases; turns = a.turns; follows = a.follows; leads = a.leads }) (same-flights a b s t h)
    ∙ (ap (λ x. record { flights = b.flights; bases = x; turns = a.turns; follows = a.follows; leads = a.leads }) (map.same_entries_map a.bases b.bases k)
    ∙ (ap (λ x. record { flights = b.flights; bases = b.bases; turns = x; follows = a.follows; leads = a.leads }) (map.same_entries_map a.turns b.turns l)
    ∙ (ap (λ x. record { flights = b.flights; bases = b.bases; turns = b.turns; follows = x; leads = a.leads }) follows
    ∙ ap (λ x. record { flights = b.flights; bases = b.bases; turns = b.turns; follows = b.follows; leads = x }) (same-leads a b s t follows))))

-- ---- comparisons

flight-exact : (x y : Flight) → x.id ≡ y.id → x.from ≡ y.from → x.to ≡ y.to → x.dep ≡ y.dep → x.arr ≡ y.arr → x.report_clock ≡ y.report_clock → x.price ≡ y.price → x ≡ y
flight-exact x y a b c d e f g =
    ap (λ z. record { id = z; from = x.from; to = x.to; dep = x.dep; arr = x.arr; report_clock = x.report_clock; price = x.price }) a
    ∙ (ap (λ z. record { id = y.id; from = z; to = x.to; dep = x.dep; arr = x.arr; report_clock = x.report_clock; price = x.price }) b
    ∙ (ap (λ z. record { id = y.id; from = y.from; to = z; dep = x.dep; arr = x.arr; report_clock = x.report_clock; price = x.price }) c
    ∙ (ap (λ z. record { id = y.id; from = y.from; to = y.to; dep = z; arr = x.arr; report_clock = x.report_clock; price = x.price }) d
    ∙ (ap (λ z. record { id = y.id; from = y.from; to = y.to; dep = y.dep; arr = z; report_clock = x.report_clock; price = x.price }) e
    ∙ (ap (λ z. record { id = y.id; from = y.from; to = y.to; dep = y.dep; arr = y.arr; report_clock = z; price = x.price }) f
    ∙ ap (λ z. record { id = y.id; from = y.from; to = y.to; dep = y.dep; arr = y.arr; report_clock = y.report_clock; price = z }) g)))))

id-decides : (a b : ℕ) → Decides (eq_by_cmp nat_cmp a b) (a ≡ b)
id-decides a b = (
  λ e. map.nat_cmp-IsAntisymmetric a b ((Equal-is (nat_cmp a b)).0 e),
  λ e. ap (λ z. eq_by_cmp nat_cmp z b) e ∙ (eq_by_cmp_equiv nat_cmp_total).refl b,
)

code-decides : (a b : List ℕ) → Decides (eq_by_cmp code_cmp a b) (a ≡ b)
code-decides a b = (λ e. same-code a b e, λ e. code-itself a b e)

abbrev flight_eq : Flight → Flight → Bool
flight_eq x y =
    eq_by_cmp nat_cmp x.id y.id
    && (eq_by_cmp code_cmp x.from y.from && (eq_by_cmp code_cmp x.to y.to && (int_eq x.dep y.dep && (int_eq x.arr y.arr && (nat_eq x.report_clock y.report_clock && int_eq x.price y.price)))))

same-flight : (x y : Flight) → flight_eq x y ≡ true → x ≡ y
same-flight x y t =
    let a = and_parts _ _ t in
    let b = and_parts _ _ a.1 in
    let c = and_parts _ _ b.1 in
    let d = and_parts _ _ c.1 in
    let e = and_parts _ _ d.1 in
    let f = and_parts _ _ e.1 in
    flight-exact x y ((id-decides x.id y.id).0 a.0) ((code-decides x.from y.from).0 b.0) ((code-decides x.to y.to).0 c.0) ((Decides-int_eq x.dep y.dep).0 d.0) ((Decides-int_eq x.arr y.arr).0 e.0) ((Decides-eqb x.report_clock y.report_clock).0 f.0)
    ((Decides-int_eq x.price y.price).0 f.1)

flight-itself : (x : Flight) → flight_eq x x ≡ true
flight-itself x =
    and_from _ _ ((id-decides x.id x.id).1 refl)
    (and_from _ _ ((code-decides x.from x.from).1 refl)
    (and_from _ _ ((code-decides x.to x.to).1 refl)
    (and_from _ _ ((Decides-int_eq x.dep x.dep).1 refl)
    (and_from _ _ ((Decides-int_eq x.arr x.arr).1 refl) (and_from _ _ ((Decides-eqb x.report_clock x.report_clock).1 refl) ((Decides-int_eq x.price x.price).1 refl))))))

pub flight-decides : (x y : Flight) → Decides (flight_eq x y) (x ≡ y)
flight-decides x y = (λ t. same-flight x y t, λ e. ap (λ z. flight_eq z y) e ∙ flight-itself y)

pub base-decides : (x y : List ℕ × ℤ) → Decides (eq_by_cmp code_cmp x.0 y.0 && int_eq x.1 y.1) (x ≡ y)
base-decides x y = (
  λ t. let a = and_parts _ _ t in ap (λ c. (c, x.1)) ((code-decides x.0 y.0).0 a.0) ∙ ap (λ p. (y.0, p)) ((Decides-int_eq x.1 y.1).0 a.1),
  λ e. and_from _ _ ((code-decides x.0 y.0).1 (ap (λ z. z.0) e)) ((Decides-int_eq x.1 y.1).1 (ap (λ z. z.1) e)),
)

pub turn-decides : (x y : (ℕ × ℕ) × ℕ) → Decides ((eq_by_cmp nat_cmp x.0.0 y.0.0 && eq_by_cmp nat_cmp x.0.1 y.0.1) && nat_eq x.1 y.1) (x ≡ y)
turn-decides x y = (
  λ t.
      let a = and_parts _ _ t in
      let b = and_parts _ _ a.0 in
      ap (λ z. ((z, x.0.1), x.1)) ((id-decides x.0.0 y.0.0).0 b.0)
      ∙ (ap (λ z. ((y.0.0, z), x.1)) ((id-decides x.0.1 y.0.1).0 b.1) ∙ ap (λ z. (y.0, z)) ((Decides-eqb x.1 y.1).0 a.1)),
  λ e.
      and_from _ _ (and_from _ _ ((id-decides x.0.0 y.0.0).1 (ap (λ z. z.0.0) e)) ((id-decides x.0.1 y.0.1).1 (ap (λ z. z.0.1) e)))
      ((Decides-eqb x.1 y.1).1 (ap (λ z. z.1) e)),
)

pub follow-on-decides : (x y : ℕ × ℕ) → Decides (eq_by_cmp nat_cmp x.0 y.0 && eq_by_cmp nat_cmp x.1 y.1) (x ≡ y)
follow-on-decides x y = (
  λ t. let a = and_parts _ _ t in ap (λ z. (z, x.1)) ((id-decides x.0 y.0).0 a.0) ∙ ap (λ z. (y.0, z)) ((id-decides x.1 y.1).0 a.1),
  λ e. and_from _ _ ((id-decides x.0 y.0).1 (ap (λ z. z.0) e)) ((id-decides x.1 y.1).1 (ap (λ z. z.1) e)),
)
