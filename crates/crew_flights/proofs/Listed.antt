-- The flights of a timetable as a list, by number.
use Rattle.std.proofs.Common.{◌≡◌, ℕ, Bool, true, false, List, [], ◌∷◌, refl, sym, ◌∙◌, ap, subst, Some, zero, suc}
use Rattle.std.specs.Prelude.{T, ◌&&◌, map as list_map, slice_get}
use Rattle.std.specs.declared.cmp.Ordering.{Ordering}
use Rattle.std.specs.declared.cmp.Ordering.TheVariants.{Less, Equal, Greater}
use Rattle.std.specs.Ordering.{nat_cmp, is_lt}
use Rattle.std.specs.Cmp.{nat_cmp_total, eq_by_cmp_equiv}
use Rattle.std.specs.List.{AllByRecursion}
use Rattle.std.specs.List.Sorted.{IsStrictlySortedBy}
use Rattle.std.specs.Map.{keys_of}
use Rattle.std.specs.BTreeMap.{is_at}
use Rattle.std.specs.FinMap as map
use Rattle.std.specs.FinMap.Entries.{is_sorted, below_all}
use Rattle.std.proofs.lemmas.Map.Keys.{IsDistinct-from_sorted}
use Rattle.std.proofs.lemmas.Map.Entries.{lookup_from_place, place_from_lookup}
use Rattle.crew_flights.specs.Timetable.{Timetable, IsSound}
use Rattle.crew_flights.specs.declared.flight.Flight.{Flight}
use Rattle.crew_flights.proofs.Maps.{find_lookup}

both : (a b : Bool) → T (a && b) → T a × T b
both true b h = (tt, h)
both false b h = absurd h

less : (o : Ordering) → T (is_lt o) → o ≡ Less
less Less h = refl
less Equal h = absurd h
less Greater h = absurd h

module _ {K X : Type 0} (R : K → K → Ordering) where
  all_below : (k : K) (es : List (K × X)) → T (below_all R k es) → AllByRecursion (λ y. R k y ≡ Less) (keys_of es)
  all_below k [] h = tt
  all_below k (e ∷ es) h = let p = both _ _ h in (less _ p.0, all_below k es p.1)

  strictly_from : (es : List (K × X)) → T (is_sorted R es) → IsStrictlySortedBy R (keys_of es)
  unfolding IsStrictlySortedBy
  strictly_from [] h = tt
  strictly_from (e ∷ es) h = let p = both _ _ h in (all_below e.0 es p.0, strictly_from es p.1)

  -- the keys of a finite map rise
  pub keys_rise : (m : map.FinMap R X) → IsStrictlySortedBy R (map.keys m)
  keys_rise m = strictly_from (map.entries m) (map.entries_sorted m)

place_of : {K X : Type 0} (es : List (K × X)) (k : ℕ) (v : X) → slice_get (list_map (λ e. e.1) es) k ≡ Some v → (n : K) × (slice_get es k ≡ Some (n, v))
place_of [] k v h = absurd (cc)
place_of (e ∷ es) zero v h = let q : e.1 ≡ v = (cc) in (e.0, ap (λ x. Some (e.0, x)) q)
place_of (e ∷ es) (suc k) v h = place_of es k v h

value_at : {K X : Type 0} (es : List (K × X)) (k : ℕ) (n : K) (v : X) → slice_get es k ≡ Some (n, v) → slice_get (list_map (λ e. e.1) es) k ≡ Some v
value_at [] k n v h = absurd (cc)
value_at (e ∷ es) zero n v h = let q : e ≡ (n, v) = (cc) in ap (λ p. Some p.1) q
value_at (e ∷ es) (suc k) n v h = value_at es k n v h

-- each flight of the list is held under its own number
pub listed_is_held : (t : Timetable) → IsSound t → (k : ℕ) (f : Flight) → slice_get (map.values t.flights) k ≡ Some f → map.get t.flights f.id ≡ Some f
listed_is_held t s k f h =
    let p = place_of (map.entries t.flights) k f h in
    let found : map.get t.flights p.0 ≡ Some f = map.get-entries t.flights p.0 ∙ find_lookup nat_cmp p.0 (map.entries t.flights) ∙ lookup_from_place (eq_by_cmp_equiv nat_cmp_total) (map.entries t.flights) k p.0 f (IsDistinct-from_sorted nat_cmp _ (keys_rise nat_cmp t.flights)) p.1 in
    subst (λ n. map.get t.flights n ≡ Some f) (sym (s.flights p.0 f found).own) found

-- each flight that is held stands in the list
pub held_is_listed : (t : Timetable) (number : ℕ) (f : Flight) → map.get t.flights number ≡ Some f → (k : ℕ) × (slice_get (map.values t.flights) k ≡ Some f)
held_is_listed t number f h =
    let p = place_from_lookup (is_at (nat_cmp number)) (map.entries t.flights) f (sym (find_lookup nat_cmp number (map.entries t.flights)) ∙ sym (map.get-entries t.flights number) ∙ h) in
    (p.0, value_at (map.entries t.flights) p.0 p.1 f p.2)
