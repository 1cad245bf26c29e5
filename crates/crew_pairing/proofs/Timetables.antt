-- The flights of a sound timetable stand in order, each in its limits: those that are held, where they
-- are placed.
use Rattle.std.proofs.Common.{◌≡◌, ℕ, List, [], ◌∷◌, Bool, true, false, cond, Some, refl, sym, ap, subst, ◌∙◌, inl, inr, ◌&&◌, ◌≤◌, arith, length, map}
use Rattle.std.proofs.lemmas.List.{length-map}
use lib.Dec.{T}
use Rattle.std.specs.declared.cmp.Ordering.{Ordering}
use Rattle.std.specs.declared.cmp.Ordering.TheVariants.{Less, Equal, Greater}
use Rattle.std.specs.Ordering.{is_lt, is_eq, nat_cmp, ordering_reverse}
use Rattle.std.specs.Cmp.{nat_cmp_total}
use Rattle.std.proofs.lemmas.Cmp.{tied_itself}
use Rattle.std.specs.FinMap as fin
use Rattle.std.specs.FinMap.{find, is_sorted}
use Rattle.std.specs.FinMap.Entries.{below_all}
use Rattle.crew_flights.specs.Places.{placed}
use Rattle.crew_flights.specs.Timetable.{IsFlight, IsSound, Timetable}
use Rattle.crew_flights.specs.declared.flight.Flight.{Flight}
use Rattle.crew_flights.proofs.Places.{placed_is_flight}
use Rattle.crew_pairing.specs.Duties.{flights_of}
use Rattle.crew_resource.specs.Members.{Each, Member}
use Rattle.crew_pairing.specs.Machinery.Beginnings.{AreFlights, Rises}

abbrev Entries : Type 0
Entries = List (ℕ × Flight)

both-first : (a b : Bool) → (a && b) ≡ true → a ≡ true
both-first true b e = refl
both-first false b e = cc

both-second : (a b : Bool) → (a && b) ≡ true → b ≡ true
both-second true b e = e
both-second false b e = cc

is-less : (r : Ordering) → is_lt r ≡ true → r ≡ Less
is-less Less e = refl
is-less Equal e = cc
is-less Greater e = cc

true-of : (b : Bool) → T b → b ≡ true
true-of true h = refl
true-of false h = absurd h

later : (k : ℕ) (es : Entries) (e : ℕ × Flight) → below_all nat_cmp k es ≡ true → Member es e → nat_cmp k e.0 ≡ Less
later k [] e b m = absurd m
later k (h ∷ es) e b (inl i) = rw (← i) (is-less (nat_cmp k h.0) (both-first _ _ b))
later k (h ∷ es) e b (inr m) = later k es e (both-second _ _ b) m

-- an entry of a list in order is found by its key
found : (es : Entries) (e : ℕ × Flight) → is_sorted nat_cmp es ≡ true → Member es e → find nat_cmp e.0 es ≡ Some e.1
found [] e s m = absurd m
found (h ∷ es) e s (inl i) =
    let tied : nat_cmp e.0 h.0 ≡ Equal = rw i (tied_itself nat_cmp_total e.0) in
    ap (λ r. cond (is_eq r) (Some h.1) (find nat_cmp e.0 es)) tied ∙ ap (λ (x : ℕ × Flight). Some x.1) i
found (h ∷ es) e s (inr m) =
    let less = later h.0 es e (both-first _ _ s) m in
    let above : nat_cmp e.0 h.0 ≡ Greater = nat_cmp_total.antisymm e.0 h.0 ∙ ap ordering_reverse less in
    ap (λ r. cond (is_eq r) (Some h.1) (find nat_cmp e.0 es)) above ∙ found es e (both-second _ _ s) m

values-rise : (es : Entries) → is_sorted nat_cmp es ≡ true → ((e : ℕ × Flight) → Member es e → e.1.id ≡ e.0) → Rises (map (λ (e : ℕ × Flight). e.1) es)
values-rise [] s own = tt
values-rise (h ∷ es) s own = (each es (λ e m. m), values-rise es (both-second _ _ s) (λ e m. own e (inr m)))
  where
    each : (rest : Entries) → ((e : ℕ × Flight) → Member rest e → Member es e) → Each (λ (g : Flight). nat_cmp h.1.id g.id ≡ Less) (map (λ (e : ℕ × Flight). e.1) rest)
    each [] among = tt
    each (e ∷ rest) among =
        (rw (own h (inl refl), own e (inr (among e (inl refl)))) (later h.0 es e (both-first _ _ s) (among e (inl refl))), each rest (λ x m. among x (inr m)))

values-each : (P : Flight → Type 0) (es : Entries) → ((e : ℕ × Flight) → Member es e → P e.1) → Each P (map (λ (e : ℕ × Flight). e.1) es)
values-each P [] h = tt
values-each P (e ∷ es) h = (h e (inl refl), values-each P es (λ x m. h x (inr m)))

each-mapped : (P : Flight → Type 0) (g : Flight → Flight) (fs : List Flight) → Each (λ f. P (g f)) fs → Each P (map g fs)
each-mapped P g [] h = tt
each-mapped P g (f ∷ fs) h = (h.0, each-mapped P g fs h.1)

-- flights in order stay in order where they are placed
placed-rise : (t : Timetable) (fs : List Flight) → Rises fs → Rises (map (placed t) fs)
placed-rise t [] h = tt
placed-rise t (f ∷ fs) h = (each-mapped (λ (g : Flight). nat_cmp f.id g.id ≡ Less) (placed t) fs h.0, placed-rise t fs h.1)

-- each entry is held under its number
entry-held : (t : Timetable) (e : ℕ × Flight) → Member (fin.entries t.flights) e → fin.get t.flights e.0 ≡ Some e.1
entry-held t e m = fin.get-entries t.flights e.0 ∙ found (fin.entries t.flights) e (true-of (is_sorted nat_cmp (fin.entries t.flights)) (fin.entries_sorted t.flights)) m

pub flights-of-timetable : (t : Timetable) → IsSound t → AreFlights (flights_of t)
flights-of-timetable t sound =
    let es = fin.entries t.flights in
    let sorted : is_sorted nat_cmp es ≡ true = true-of (is_sorted nat_cmp es) (fin.entries_sorted t.flights) in
    let at : (e : ℕ × Flight) → Member es e → IsFlight e.0 (placed t e.1) = λ e m. placed_is_flight t e.0 e.1 sound (entry-held t e m) in
    record {
      each = each-mapped (λ (f : Flight). IsFlight f.id f) (placed t) (fin.values t.flights)
          (values-each (λ (f : Flight). IsFlight f.id (placed t f)) es (λ e m. subst (λ (n : ℕ). IsFlight n (placed t e.1)) (sym (at e m).own) (at e m)));
      rising = placed-rise t (fin.values t.flights) (values-rise es sorted (λ e m. (at e m).own));
    }

-- ---- the list has exactly the flights that are held, placed
mapped-member : {X Y : Type 0} (g : X → Y) (xs : List X) (x : X) → Member xs x → Member (map g xs) (g x)
mapped-member g [] x m = absurd m
mapped-member g (y ∷ xs) x (inl e) = inl (ap g e)
mapped-member g (y ∷ xs) x (inr m) = inr (mapped-member g xs x m)

member-mapped : {X Y : Type 0} (g : X → Y) (xs : List X) (y : Y) → Member (map g xs) y → (x : X) × Member xs x × (g x ≡ y)
member-mapped g [] y m = absurd m
member-mapped g (x ∷ xs) y (inl e) = (x, inl refl, e)
member-mapped g (x ∷ xs) y (inr m) = let p = member-mapped g xs y m in (p.0, inr p.1, p.2)

find-member : (es : Entries) (n : ℕ) (f : Flight) → find nat_cmp n es ≡ Some f → Member (map (λ (e : ℕ × Flight). e.1) es) f
find-member [] n f h = absurd (let q : ⊥ = (cc) in q)
find-member (e ∷ es) n f h =
    elim (is_eq (nat_cmp n e.0)) as (λ b. cond b (Some e.1) (find nat_cmp n es) ≡ Some f → Member (map (λ (x : ℕ × Flight). x.1) (e ∷ es)) f) [
      | true ↦ λ i. inl (cc)
      | false ↦ λ i. inr (find-member es n f i)
    ] h

-- a flight that is held stands in the list, placed
pub held-is-placed : (t : Timetable) (number : ℕ) (f : Flight) → fin.get t.flights number ≡ Some f → Member (flights_of t).list (placed t f)
held-is-placed t number f h =
    mapped-member (placed t) (fin.values t.flights) f (find-member (fin.entries t.flights) number f (sym (fin.get-entries t.flights number) ∙ h))

-- a flight of the list is one that is held under its number, placed
pub placed-is-held : (t : Timetable) → IsSound t → (g : Flight) → Member (flights_of t).list g → (f : Flight) × (fin.get t.flights g.id ≡ Some f) × (placed t f ≡ g)
placed-is-held t sound g m =
    let p = member-mapped (placed t) (fin.values t.flights) g m in
    let q = member-mapped (λ (e : ℕ × Flight). e.1) (fin.entries t.flights) p.0 p.1 in
    let held : fin.get t.flights q.0.0 ≡ Some p.0 = entry-held t q.0 q.1 ∙ ap Some q.2 in
    let number : q.0.0 ≡ g.id = sym (sound.flights q.0.0 p.0 held).own ∙ ap (λ (f : Flight). f.id) p.2 in
    (p.0, subst (λ n. fin.get t.flights n ≡ Some p.0) number held, p.2)

pub flights-few : (t : Timetable) → IsSound t → length (flights_of t).list ≤ 5_000
flights-few t sound = omega (arith, sound.few_flights, fin.len-entries t.flights, length-map (fin.entries t.flights) (λ (e : ℕ × Flight). e.1), length-map (fin.values t.flights) (placed t))
