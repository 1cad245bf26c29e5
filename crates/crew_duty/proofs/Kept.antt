-- The duties that begin where nothing has changed are those of before.
use Rattle.std.proofs.Common.{◌≡◌, ◌≤◌, ◌<◌, ◌≤ℤ◌, ◌+ℤ◌, ◌-ℤ◌, Option, ℕ, zero, suc, ℤ, pos, List, [], ◌∷◌, ◌++◌, ◌&&◌, Bool, true, false, cond, int_le, nat_le, nat_lt, nat_eq, length, max, refl, sym, ap, ◌∙◌, ◌⊎◌, subst, arith, filter, get_or, inl, inr, append-nil, if◌then◌else◌}
use Rattle.std.specs.Prelude.{int_lt}
use Rattle.std.specs.List.{flat_map}
use Rattle.std.specs.List.Sorted.{IsPartitionedBy, IsPartitionPoint}
use Rattle.std.specs.declared.cmp.Ordering.{Ordering}
use Rattle.std.specs.declared.cmp.Ordering.TheVariants.{Less, Equal, Greater}
use Rattle.std.specs.Ordering.{bool_cmp, eq_by_cmp, int_cmp, is_lt, nat_cmp, ordering_then}
use Rattle.std.specs.Cmp.{nat_cmp_total, on_total}
use Rattle.std.specs.FinMap as map
use Rattle.std.specs.Option.{unwrap_or}
use Rattle.std.proofs.lemmas.Bool.{and_from, and_parts}
use Rattle.std.proofs.lemmas.Bool.Decides.{nat_tests}
use Rattle.std.proofs.lemmas.Cmp.{int_ranked, ranked}
use Rattle.std.proofs.lemmas.Int.{ints}
use Rattle.std.proofs.lemmas.List.Elements.{filter-append}
use Rattle.crew_flights.specs.Codes.{code_cmp}
use Rattle.crew_flights.specs.Timetable.{IsFlight, IsSound, Timetable, Turns}
use Rattle.crew_flights.specs.declared.flight.Flight.{Flight}
use Rattle.crew_rules.specs.Tables.{Row, in_force, rows_b, table_b}
use Rattle.crew_rules.specs.Settings.{IsChecked}
use Rattle.crew_rules.specs.declared.settings.Settings.{Settings}
use Rattle.crew_resource.specs.Members.{Each, Member}
use Rattle.crew_resource.proofs.Rising.{Rising, same-rising}
use Rattle.crew_pairing.specs.Duties.{AreDuties, RiseByKey, flights_of}
use Rattle.crew_pairing.specs.Flights.{Flights}
use Rattle.crew_pairing.specs.Keys.{key_cmp, leg_cmp}
use Rattle.crew_pairing.specs.Legality.{last_of, leg_of, may_follow, segments}
use Rattle.crew_pairing.specs.Legs.{Leg}
use Rattle.crew_pairing.specs.Machinery.Beginnings.{AreFlights, Rises}
use Rattle.crew_pairing.specs.Machinery.Listing.{all_duties, below, from_flight, is_hopeless, listing, own, timed}
use Rattle.crew_pairing.specs.declared.duty.Duty.{Duty}
use Rattle.crew_pairing.specs.declared.leg.TimedLeg.{TimedLeg}
use Rattle.crew_pairing.proofs.Falling.{table_b-falls}
use Rattle.crew_pairing.proofs.InList.{Each-filter, Each-join, Member-filter, filter-Member}
use Rattle.crew_pairing.proofs.InOrder.{all-duties, all-rise, listing-in-order}
use Rattle.crew_pairing.proofs.Sums.{last_of-push}
use Rattle.crew_pairing.proofs.Times.{no-earlier}
use Rattle.crew_pairing.proofs.Timetables.{flights-of-timetable}
use Rattle.crew_pairing.proofs.Tree.{Each-map, Each-member, listing-closed, listing-none, listing-open}
use Rattle.crew_duty.specs.Machinery.Kept.{AreApart, AreChanges, ClimbByFirst, ClimbInTime, IsPast, TellChanges, TellTurns, begins_with, departs_within, first_of, is_within, reach_of}
use Rattle.crew_duty.specs.Machinery.Limits.{latest_departure}
use Rattle.crew_duty.specs.Machinery.Turns.{minutes_to, turns_from}
use Rattle.crew_pairing.proofs.Shuffled.{each-of}
use Rattle.crew_duty.proofs.Leads.{fewer-give, le-fails, nothing-below, second-fails}
use Rattle.crew_duty.proofs.Turned.{filter-alike, filter-both, turn-among}
use Rattle.crew_duty.proofs.Unique.{unique}

-- lists that give the same of each
give-same : (F G : Flight → List Duty) (fs : List Flight) → Each (λ f. F f ≡ G f) fs → flat_map F fs ≡ flat_map G fs
give-same F G [] h = refl
give-same F G (f ∷ fs) h =
    let one = h.0 in
    let rest = give-same F G fs h.1 in
    λ i. one i ++ rest i

each-kept-of : (p : Flight → Bool) (A P : Flight → Type 0) (fs : List Flight) → Each A fs → ((f : Flight) → A f → p f ≡ true → P f) → Each P (filter p fs)
each-kept-of p A P [] a f = tt
each-kept-of p A P (g ∷ fs) a f = by (p g) refl (each-kept-of p A P fs a.1 f)
  where
    by : (b : Bool) → p g ≡ b → Each P (filter p fs) → Each P (cond b (g ∷ filter p fs) (filter p fs))
    by true e r = (f g a.0 e, r)
    by false e r = r

of-le : (a b : ℤ) → a ≤ℤ b → int_le a b ≡ true
of-le a b h = grind (arith, ints, h)

over-le : (a b : ℤ) → (b +ℤ pos 1) ≤ℤ a → int_le a b ≡ false
over-le a b h = grind (arith, ints, h)

-- no leg more departs later than the first alone leaves time for
reach-least : (s : Settings) (first : TimedLeg) (legs : List TimedLeg) → latest_departure s first legs ≤ℤ latest_departure s first []
reach-least s first legs =
    let falls = table_b-falls first.flight.report_clock (max (segments []) 1) (max (segments legs) 1) (omega arith) in
    omega (arith, ints, falls)

abbrev AreSound : List Flight → Type 0
AreSound fs = Each (λ f. IsFlight f.id f) fs

-- what departs out of reach of the first leg gives nothing
out-of-reach : (s : Settings) (fs : Flights) (first : TimedLeg) (others : List TimedLeg) (room : ℕ) (g : Flight) → IsFlight g.id g → first.flight.dep ≤ℤ (last_of first others).flight.arr
    → may_follow s fs.turns (last_of first others).flight g ≡ true → departs_within first.flight.dep (latest_departure s first []) g ≡ false → below room s fs first others g ≡ []
out-of-reach s fs first others room g sound after follows far =
    let gap = no-earlier s fs.turns (last_of first others).flight g follows in
    let here : int_le first.flight.dep g.dep ≡ true = of-le first.flight.dep g.dep (omega (arith, ints, gap, after)) in
    let late = le-fails g.dep (latest_departure s first []) (second-fails (int_le first.flight.dep g.dep) (int_le g.dep (latest_departure s first [])) far here) in
    let least = reach-least s first (first ∷ others) in
    nothing-below s fs first others room g sound (over-le g.dep (latest_departure s first (first ∷ others)) (omega (arith, ints, late, least)))

all-out-of-reach : (s : Settings) (all : Flights) (first : TimedLeg) (others : List TimedLeg) (room : ℕ) (fs : List Flight) → AreSound fs → first.flight.dep ≤ℤ (last_of first others).flight.arr
    → Each (λ g. (may_follow s all.turns (last_of first others).flight g && departs_within first.flight.dep (latest_departure s first []) g) ≡ false → may_follow s all.turns (last_of first others).flight g ≡ true → below room s all first others g ≡ []) fs
all-out-of-reach s all first others room [] h after = tt
all-out-of-reach s all first others room (g ∷ fs) h after = (
  λ e k. out-of-reach s all first others room g h.0 after k (second-fails (may_follow s all.turns (last_of first others).flight g) (departs_within first.flight.dep (latest_departure s first []) g) e k),
  all-out-of-reach s all first others room fs h.1 after,
)

-- sound flights, each of which stands in the list
sound-members : (fs : List Flight) → AreSound fs → Each (λ f. IsFlight f.id f × Member fs f) fs
sound-members fs a = each fs a (λ f m. m)
  where
    each : (gs : List Flight) → AreSound gs → ((f : Flight) → Member gs f → Member fs f) → Each (λ f. IsFlight f.id f × Member fs f) gs
    each [] h among = tt
    each (g ∷ gs) h among = ((h.0, among g (inl refl)), each gs h.1 (λ f m. among f (inr m)))

-- what may follow one flight may follow it under the same turns to next legs
abbrev pub GoOnAlike : Settings → Turns → Turns → Flight → Type 0
GoOnAlike s turns others f = (g : Flight) → may_follow s turns f g ≡ may_follow s others f g

-- a listing is the same over flights that are the same within reach of the first leg, with the same
-- turns to next legs
same-listing : (room : ℕ) (s : Settings) (fs gs : Flights) (first : TimedLeg) (others : List TimedLeg) → AreSound fs.list → AreSound gs.list
    → filter (departs_within first.flight.dep (latest_departure s first [])) fs.list ≡ filter (departs_within first.flight.dep (latest_departure s first [])) gs.list
    → ((f : Flight) → Member fs.list f → departs_within first.flight.dep (latest_departure s first []) f ≡ true → GoOnAlike s fs.turns gs.turns f)
    → first.flight.dep ≤ℤ (last_of first others).flight.arr → GoOnAlike s fs.turns gs.turns (last_of first others).flight → listing room s fs first others ≡ listing room s gs first others
same-listing zero s fs gs first others a b same alike after here = listing-none s fs first others ∙ sym (listing-none s gs first others)
same-listing (suc room) s fs gs first others a b same alike after here =
    by (is_hopeless s first others) refl
    (λ g sound member within dead follows.
    let longer = others ++ timed dead g ∷ [] in
    let gap = no-earlier s fs.turns (last_of first others).flight g follows in
    let block = sound.least_block in
    let end = last_of-push first others (timed dead g) in
    let last : (last_of first longer).flight.arr ≡ g.arr = ap (λ (x : TimedLeg). x.flight.arr) end in
    same-listing room s fs gs first longer a b same alike (omega (arith, ints, gap, block, last, after))
    (subst (λ (x : TimedLeg). GoOnAlike s fs.turns gs.turns x.flight) (sym end) (alike g member within)))
  where
    by : (hope : Bool) → is_hopeless s first others ≡ hope
        → ((g : Flight) → IsFlight g.id g → Member fs.list g → departs_within first.flight.dep (latest_departure s first []) g ≡ true → (dead : Bool) → may_follow s fs.turns (last_of first others).flight g ≡ true
        → listing room s fs first (others ++ timed dead g ∷ []) ≡ listing room s gs first (others ++ timed dead g ∷ []))
        → listing (suc room) s fs first others ≡ listing (suc room) s gs first others
    by true e deeper = listing-closed (suc room) s fs first others e ∙ sym (listing-closed (suc room) s gs first others e)
    by false e deeper =
        let p = may_follow s fs.turns (last_of first others).flight in
        let p' = may_follow s gs.turns (last_of first others).flight in
        let q = departs_within first.flight.dep (latest_departure s first []) in
        let F = below room s fs first others in
        let G = below room s gs first others in
        let front : flat_map F (filter (λ f. p f && q f) fs.list) ≡ flat_map F (filter p fs.list) = fewer-give F p q fs.list (all-out-of-reach s fs first others room fs.list a after) in
        let back : flat_map G (filter (λ f. p' f && q f) gs.list) ≡ flat_map G (filter p' gs.list) = fewer-give G p' q gs.list (all-out-of-reach s gs first others room gs.list b after) in
        let middle : filter (λ f. p f && q f) fs.list ≡ filter (λ f. p' f && q f) gs.list =
        filter-both p q fs.list ∙ ap (filter p) same ∙ sym (filter-both p q gs.list) ∙ filter-alike (λ f. p f && q f) (λ f. p' f && q f) gs.list (λ f. ap (λ (t : Bool). t && q f) (here f)) in
        let each : Each (λ f. F f ≡ G f) (filter (λ f. p f && q f) fs.list) = each-kept-of (λ f. p f && q f) (λ f. IsFlight f.id f × Member fs.list f) (λ f. F f ≡ G f) fs.list (sound-members fs.list a)
        (λ f known k.
        let tests = and_parts (p f) (q f) k in
        let flown = deeper f known.0 known.1 tests.1 false tests.0 in
        let ridden = deeper f known.0 known.1 tests.1 true tests.0 in
        λ i. flown i ++ ridden i) in
        listing-open room s fs first others e
        ∙ ap (λ (l : List Duty). own s first others ++ l) (sym front ∙ give-same F G (filter (λ f. p f && q f) fs.list) each ∙ ap (flat_map G) middle ∙ back)
        ∙ sym (listing-open room s gs first others e)

same-from : (s : Settings) (fs gs : Flights) (f : Flight) → AreSound fs.list → AreSound gs.list → IsFlight f.id f
    → filter (departs_within f.dep (reach_of s f)) fs.list ≡ filter (departs_within f.dep (reach_of s f)) gs.list
    → ((g : Flight) → Member fs.list g → departs_within f.dep (reach_of s f) g ≡ true → GoOnAlike s fs.turns gs.turns g) → GoOnAlike s fs.turns gs.turns f → from_flight s fs f ≡ from_flight s gs f
same-from s fs gs f a b sound same alike here =
    let block = sound.least_block in
    let after : f.dep ≤ℤ f.arr = omega (arith, ints, block) in
    let flown = same-listing 8 s fs gs (timed false f) [] a b same alike after here in
    let ridden = same-listing 8 s fs gs (timed true f) [] a b same alike after here in
    λ i. flown i ++ ridden i

-- flights that depart where nothing has changed
by-number : (fs : List Flight) → Rises fs → Rising (λ (f g : Flight). nat_cmp f.id g.id) fs
by-number [] h = tt
by-number (f ∷ fs) h = (h.0, by-number fs h.1)

rises-filter : (p : Flight → Bool) (fs : List Flight) → Rises fs → Rises (filter p fs)
rises-filter p [] h = tt
rises-filter p (f ∷ fs) h = by (p f) (rises-filter p fs h.1)
  where
    by : (b : Bool) → Rises (filter p fs) → Rises (cond b (f ∷ filter p fs) (filter p fs))
    by true k = (Each-filter (λ (g : Flight). nat_cmp f.id g.id ≡ Less) p fs h.0, k)
    by false k = k

across : (fs gs : List Flight) (minutes : List ℤ) (from to : ℤ) → TellChanges fs gs minutes → AreApart from to minutes → (f : Flight) → Member (filter (departs_within from to) fs) f → Member (filter (departs_within from to) gs) f
across fs gs minutes from to told apart f m =
    let k = filter-Member (departs_within from to) fs f m in
    elim (Each-member (λ (g : Flight). Member gs g ⊎ Member minutes g.dep) fs f told k.1) [
      | inl h ↦ Member-filter (departs_within from to) gs f k.0 h
      | inr h ↦ absurd (let no = Each-member (λ (n : ℤ). is_within from to n ≡ false) minutes f.dep apart h in let yes = k.0 in false-true (is_within from to f.dep) no yes)
    ]
  where
    false-true : (b : Bool) → b ≡ false → b ≡ true → ⊥
    false-true true e h = absurd (cc)
    false-true false e h = absurd (cc)

same-within : (fs gs : List Flight) (minutes : List ℤ) (from to : ℤ) → Rises fs → Rises gs → TellChanges fs gs minutes → TellChanges gs fs minutes → AreApart from to minutes → filter (departs_within from to) fs ≡ filter (departs_within from to) gs
same-within fs gs minutes from to h k come gone apart =
    let p = departs_within from to in
    same-rising (λ (f g : Flight). nat_cmp f.id g.id) (on_total (λ (f : Flight). f.id) nat_cmp_total) (filter p fs) (filter p gs)
    (by-number (filter p fs) (rises-filter p fs h)) (by-number (filter p gs) (rises-filter p gs k))
    (across fs gs minutes from to come apart) (across gs fs minutes from to gone apart)

-- the same turns to next legs let the same follow
go-on : (s : Settings) (turns others : Turns) (f : Flight) → turns_from turns f.id ≡ turns_from others f.id → GoOnAlike s turns others f
go-on s turns others f e g =
    let same : map.get turns (f.id, g.id) ≡ map.get others (f.id, g.id) = turn-among turns f.id g.id ∙ ap (minutes_to g.id) e ∙ sym (turn-among others f.id g.id) in
    ap (λ (o : Option ℕ). eq_by_cmp code_cmp f.to g.from && (int_le (pos (unwrap_or o s.connect)) (g.dep -ℤ f.arr) && int_le (g.dep -ℤ f.arr) (pos s.sit))) same

-- the same turns have not changed
pub none-turned : (fs : List Flight) (turns others : Turns) (minutes : List ℤ) → turns ≡ others → TellTurns fs turns others minutes
none-turned [] turns others minutes e = tt
none-turned (f ∷ fs) turns others minutes e = (inl (ap (λ (t : Turns). turns_from t f.id) e), none-turned fs turns others minutes e)

-- where nothing has changed, turns let the same follow
turns-within : (s : Settings) (fs : List Flight) (turns others : Turns) (minutes : List ℤ) (from to : ℤ) → TellTurns fs turns others minutes → AreApart from to minutes
    → (f : Flight) → Member fs f → departs_within from to f ≡ true → GoOnAlike s turns others f
turns-within s fs turns others minutes from to told apart f m within =
    elim (Each-member (λ (g : Flight). (turns_from turns g.id ≡ turns_from others g.id) ⊎ Member minutes g.dep) fs f told m) [
      | inl e ↦ go-on s turns others f e
      | inr h ↦ absurd (let no : is_within from to f.dep ≡ false = Each-member (λ (n : ℤ). is_within from to n ≡ false) minutes f.dep apart h in let q : true ≡ false = sym within ∙ no in cc)
    ]

-- a flight departs within its own reach
abbrev at_least : ℕ → List Row → Bool
at_least n [] = true
at_least n (row ∷ rows) = nat_le n (get_or row.1 0 0) && at_least n rows

abbrev begins-at-zero : List Row → Bool
begins-at-zero [] = false
begins-at-zero (row ∷ rows) = nat_eq row.0 0

in_force-least : (n : ℕ) (before : List ℕ) (rows : List Row) (clock : ℕ) → nat_le n (get_or before 0 0) ≡ true → at_least n rows ≡ true → nat_le n (get_or (in_force before rows clock) 0 0) ≡ true
in_force-least n before [] clock h k = h
in_force-least n before (row ∷ rows) clock h k =
    let p = and_parts (nat_le n (get_or row.1 0 0)) (at_least n rows) k in
    by (nat_le row.0 clock) (in_force-least n row.1 rows clock p.0 p.1)
  where
    by : (b : Bool) → nat_le n (get_or (in_force row.1 rows clock) 0 0) ≡ true → nat_le n (get_or (if b then in_force row.1 rows clock else before) 0 0) ≡ true
    by true later = later
    by false later = h

table_b-least : (clock : ℕ) → 540 ≤ table_b clock 1
table_b-least clock =
    let z : nat_le 0 clock ≡ true = grind (arith, nat_tests) in
    let h : nat_le 540 (get_or (in_force [] rows_b clock) 0 0) ≡ true = in_force-least-first clock 540 rows_b z refl refl in
    grind (arith, nat_tests, h)
  where
    in_force-least-first : (clock n : ℕ) (rows : List Row) → nat_le 0 clock ≡ true → at_least n rows ≡ true → begins-at-zero rows ≡ true → nat_le n (get_or (in_force [] rows clock) 0 0) ≡ true
    in_force-least-first clock n [] z h k = cc
    in_force-least-first clock n (row ∷ rows) z h k =
        let p = and_parts (nat_le n (get_or row.1 0 0)) (at_least n rows) h in
        let zero-row : row.0 ≡ 0 = grind (arith, nat_tests, k) in
        let begun : nat_le row.0 clock ≡ true = rw zero-row z in
        rw begun (in_force-least n row.1 rows clock p.0 p.1)

own-reach : (s : Settings) (f : Flight) → IsChecked s → f.dep ≤ℤ reach_of s f
own-reach s f checked =
    let lead = checked.lead in
    let least = table_b-least f.report_clock in
    omega (arith, ints, lead, least)

-- the duties of one flight among all
all-pass : (p : Duty → Bool) (ds : List Duty) → Each (λ d. p d ≡ true) ds → filter p ds ≡ ds
all-pass p [] h = refl
all-pass p (d ∷ ds) h = rw h.0 (ap (λ (l : List Duty). d ∷ l) (all-pass p ds h.1))

none-pass : (p : Duty → Bool) (ds : List Duty) → Each (λ d. p d ≡ false) ds → filter p ds ≡ []
none-pass p [] h = refl
none-pass p (d ∷ ds) h = rw h.0 (none-pass p ds h.1)

abbrev AllFirst : ℕ → List Duty → Type 0
AllFirst n ds = Each (λ d. first_of d.key ≡ n) ds

listing-first : (s : Settings) (fs : Flights) (dead : Bool) (f : Flight) → Rises fs.list → AllFirst f.id (listing 8 s fs (timed dead f) [])
listing-first s fs dead f h =
    Each-map (λ (d : Duty). (rest : List Leg) × (d.key ≡ (leg_of (timed dead f) ∷ []) ++ rest)) (λ (d : Duty). first_of d.key ≡ f.id) (listing 8 s fs (timed dead f) []) (λ d k. ap first_of k.1) (listing-in-order 8 s fs (timed dead f) [] h).begin

from-first : (s : Settings) (fs : Flights) (f : Flight) → Rises fs.list → AllFirst f.id (from_flight s fs f)
from-first s fs f h =
    Each-join (λ (d : Duty). first_of d.key ≡ f.id) (listing 8 s fs (timed false f) []) (listing 8 s fs (timed true f) []) (listing-first s fs false f h) (listing-first s fs true f h)

same-number : (m n : ℕ) → m ≡ n → nat_eq m n ≡ true
same-number m n e = grind (arith, nat_tests, e)

other-number : (k m n : ℕ) → k ≡ m → nat_cmp m n ≡ Less → nat_eq k n ≡ false
other-number k m n e less = let h : m < n = ranked m n Less (sym less) in grind (arith, nat_tests, e, h)

later-number : (k m n : ℕ) → k ≡ n → nat_cmp m n ≡ Less → nat_eq k m ≡ false
later-number k m n e less = let h : m < n = ranked m n Less (sym less) in grind (arith, nat_tests, e, h)

one-block : (F : Flight → List Duty) → ((g : Flight) → AllFirst g.id (F g)) → (f : Flight) (gs : List Flight) → Rises gs → Member gs f → filter (begins_with f.id) (flat_map F gs) ≡ F f
one-block F first f [] h m = absurd m
one-block F first f (g ∷ gs) h (inl e) =
    let p = begins_with f.id in
    let mine : filter p (F g) ≡ F g = all-pass p (F g) (Each-map (λ (d : Duty). first_of d.key ≡ g.id) (λ (d : Duty). p d ≡ true) (F g) (λ d k. same-number (first_of d.key) f.id (k ∙ ap (λ (x : Flight). x.id) e)) (first g)) in
    let rest : filter p (flat_map F gs) ≡ [] = none-after gs (subst (λ (x : Flight). Each (λ y. nat_cmp x.id y.id ≡ Less) gs) e h.0) in
    filter-append p (F g) (flat_map F gs) ∙ rw (mine, rest) (append-nil (F g)) ∙ ap F e
  where
    none-after : (rest : List Flight) → Each (λ y. nat_cmp f.id y.id ≡ Less) rest → filter (begins_with f.id) (flat_map F rest) ≡ []
    none-after [] k = refl
    none-after (y ∷ rest) k =
        let p = begins_with f.id in
        let others : filter p (F y) ≡ [] = none-pass p (F y) (Each-map (λ (d : Duty). first_of d.key ≡ y.id) (λ (d : Duty). p d ≡ false) (F y) (λ d o. later-number (first_of d.key) f.id y.id o k.0) (first y)) in
        filter-append p (F y) (flat_map F rest) ∙ rw others (none-after rest k.1)
one-block F first f (g ∷ gs) h (inr m) =
    let p = begins_with f.id in
    let less = Each-member (λ (y : Flight). nat_cmp g.id y.id ≡ Less) gs f h.0 m in
    let others : filter p (F g) ≡ [] = none-pass p (F g) (Each-map (λ (d : Duty). first_of d.key ≡ g.id) (λ (d : Duty). p d ≡ false) (F g) (λ d o. other-number (first_of d.key) g.id f.id o less) (first g)) in
    filter-append p (F g) (flat_map F gs) ∙ rw others (one-block F first f gs h.1 m)

-- duties by key begin with flights by number
first-most : (a b : Leg) → leg_cmp a b ≡ Less → a.flight ≤ b.flight
first-most a b e = by (nat_cmp a.flight b.flight) refl e
  where
    by : (r : Ordering) → nat_cmp a.flight b.flight ≡ r → ordering_then r (bool_cmp a.deadhead b.deadhead) ≡ Less → a.flight ≤ b.flight
    by Less h k = let q : a.flight < b.flight = ranked a.flight b.flight Less (sym h) in omega (arith, q)
    by Equal h k = let q : a.flight ≡ b.flight = ranked a.flight b.flight Equal (sym h) in omega (arith, q)
    by Greater h k = absurd (cc)

key-first-most : (a b : List Leg) → key_cmp a b ≡ Less → first_of a ≤ first_of b
key-first-most [] [] e = cc
key-first-most [] (l ∷ b) e = omega arith
key-first-most (l ∷ a) [] e = cc
key-first-most (l ∷ a) (m ∷ b) e = by (leg_cmp l m) refl e
  where
    by : (r : Ordering) → leg_cmp l m ≡ r → ordering_then r (key_cmp a b) ≡ Less → l.flight ≤ m.flight
    by Less h k = first-most l m h
    by Equal h k = let q = equal-first (nat_cmp l.flight m.flight) (bool_cmp l.deadhead m.deadhead) h in let n : l.flight ≡ m.flight = ranked l.flight m.flight Equal (sym q) in omega (arith, n)
      where
        equal-first : (x y : Ordering) → ordering_then x y ≡ Equal → x ≡ Equal
        equal-first Less y z = absurd (cc)
        equal-first Equal y z = refl
        equal-first Greater y z = absurd (cc)
    by Greater h k = absurd (cc)

pub climb-by-first : (ds : List Duty) → RiseByKey ds → ClimbByFirst ds
climb-by-first [] h i j d a b = absurd (omega (arith, b))
climb-by-first (x ∷ ds) h zero zero d a b = omega arith
climb-by-first (x ∷ ds) h zero (suc j) d a b = at ds j (omega (arith, b)) h.0
  where
    at : (es : List Duty) (k : ℕ) → k < length es → Each (λ e. key_cmp x.key e.key ≡ Less) es → first_of x.key ≤ first_of (get_or es k d).key
    at [] k c e = absurd (omega (arith, c))
    at (y ∷ es) zero c e = key-first-most x.key y.key e.0
    at (y ∷ es) (suc k) c e = at es k (omega (arith, c)) e.1
climb-by-first (x ∷ ds) h (suc i) zero d a b = absurd (omega (arith, a))
climb-by-first (x ∷ ds) h (suc i) (suc j) d a b = climb-by-first ds h.1 i j d (omega (arith, a)) (omega (arith, b))

-- what all duties over earlier flights tell of those over later ones
pub is-past : (s : Settings) (flights others : Flights) (minutes : List ℤ) → IsChecked s → AreFlights flights → AreFlights others → AreChanges flights others minutes → IsPast s flights (all_duties s others) minutes
is-past s flights others minutes checked now before told = record {
  duties_climb = climb-by-first (all_duties s others) (all-rise s others before.rising);
  minutes_climb = told.climb;
  same = each flights.list (λ f m. m);
}
  where
    one : (f : Flight) → Member flights.list f → AreApart f.dep (reach_of s f) minutes → filter (begins_with f.id) (all_duties s others) ≡ from_flight s flights f
    one f m apart =
        let p = departs_within f.dep (reach_of s f) in
        let same = same-within flights.list others.list minutes f.dep (reach_of s f) now.rising before.rising told.come told.gone apart in
        let alike = turns-within s flights.list flights.turns others.turns minutes f.dep (reach_of s f) told.turned apart in
        let here : p f ≡ true = and_from (int_le f.dep f.dep) (int_le f.dep (reach_of s f)) (of-le f.dep f.dep (omega (arith, ints))) (of-le f.dep (reach_of s f) (own-reach s f checked)) in
        let stood : Member others.list f = (filter-Member p others.list f (subst (λ (l : List Flight). Member l f) same (Member-filter p flights.list f here m))).1 in
        let sound = Each-member (λ (g : Flight). IsFlight g.id g) flights.list f now.each m in
        one-block (from_flight s others) (λ g. from-first s others g before.rising) f others.list before.rising stood ∙ sym (same-from s flights others f now.each before.each sound same alike (alike f m here))

    each : (fs : List Flight) → ((f : Flight) → Member fs f → Member flights.list f) → Each (λ f. AreApart f.dep (reach_of s f) minutes → filter (begins_with f.id) (all_duties s others) ≡ from_flight s flights f) fs
    each [] among = tt
    each (f ∷ fs) among = (one f (among f (inl refl)), each fs (λ g m. among g (inr m)))

-- minutes that two tests part at one place
pub early-in-time : (minutes : List ℤ) (m : ℤ) → ClimbInTime minutes → IsPartitionedBy (λ t. int_lt t m) minutes
early-in-time minutes m up i j d a b h = let k = up i j d a b in grind (arith, ints)

pub late-in-time : (minutes : List ℤ) (m : ℤ) → ClimbInTime minutes → IsPartitionedBy (λ t. int_le t m) minutes
late-in-time minutes m up i j d a b h = let k = up i j d a b in grind (arith, ints)

before-not-within : (from to m : ℤ) → int_lt m from ≡ true → is_within from to m ≡ false
before-not-within from to m h = grind (arith, ints)

after-not-within : (from to m : ℤ) → int_le m to ≡ false → is_within from to m ≡ false
after-not-within from to m h = by (int_le from m) (int_le m to) h
  where
    by : (a b : Bool) → b ≡ false → (a && b) ≡ false
    by true b e = e
    by false b e = refl

pub apart-at : (minutes : List ℤ) (from to : ℤ) (i : ℕ) → IsPartitionPoint (λ t. int_lt t from ≡ true) (λ t. int_lt t from ≡ false) minutes i
    → IsPartitionPoint (λ t. int_le t to ≡ true) (λ t. int_le t to ≡ false) minutes i → AreApart from to minutes
apart-at minutes from to i early late = each-of (λ m. is_within from to m ≡ false) minutes (λ k d h. by k d h (nat_lt k i) refl)
  where
    by : (k : ℕ) (d : ℤ) → k < length minutes → (b : Bool) → nat_lt k i ≡ b → is_within from to (get_or minutes k d) ≡ false
    by k d h true e = before-not-within from to (get_or minutes k d) (early.0 k d (omega arith) (grind (arith, nat_tests, e)))
    by k d h false e = after-not-within from to (get_or minutes k d) (late.1 k d (grind (arith, nat_tests, e)) h)

-- minutes in order
pub not-later : (x y : ℤ) → is_lt (int_cmp y x) ≡ false → x ≤ℤ y
not-later x y h = by (int_cmp y x) refl h
  where
    by : (r : Ordering) → int_cmp y x ≡ r → is_lt r ≡ false → x ≤ℤ y
    by Less e h = absurd (cc)
    by Equal e h = let r = int_ranked y x Equal (sym e) in omega (arith, ints, r)
    by Greater e h = let r = int_ranked y x Greater (sym e) in omega (arith, ints, r)

-- what stands at a place stands in the list
pub Member-at : (fs : List Flight) (i : ℕ) (f : Flight) → i < length fs → Member fs (get_or fs i f)
Member-at [] i f h = absurd (omega (arith, h))
Member-at (g ∷ fs) zero f h = inl refl
Member-at (g ∷ fs) (suc i) f h = inr (Member-at fs i f (omega (arith, h)))

-- the duties of an earlier timetable
pub past-of : (s : Settings) (now before : Timetable) (duties : List Duty) (minutes : List ℤ) → IsChecked s → IsSound now → IsSound before → AreDuties s before duties → AreChanges (flights_of now) (flights_of before) minutes
    → IsPast s (flights_of now) duties minutes
past-of s now before duties minutes checked sound old are told =
    let others = flights-of-timetable before old in
    let same : duties ≡ all_duties s (flights_of before) = unique s (flights_of before) duties (all_duties s (flights_of before)) are (all-duties s (flights_of before) others) in
    rw same (is-past s (flights_of now) (flights_of before) minutes checked (flights-of-timetable now sound) others told)
