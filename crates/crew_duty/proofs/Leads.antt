-- What flights go on from some legs: those that depart too late begin no duty.
use Rattle.std.proofs.Common.{◌≡◌, ◌≤◌, ◌<◌, ◌+ℤ◌, ◌≤ℤ◌, ◌<ℤ◌, ℤ, pos, ℕ, zero, suc, List, [], ◌∷◌, ◌++◌, ◌&&◌, ◌||◌, Some, Bool, true, false, cond, nat_lt, max, refl, ap, ◌∙◌, subst, arith, filter, drop, take, int_le}
use Rattle.std.specs.Prelude.{int_lt, slice_get}
use Rattle.std.specs.List.{flat_map}
use Rattle.std.proofs.lemmas.Bool.{and_parts}
use Rattle.std.proofs.lemmas.Bool.Decides.{nat_tests}
use Rattle.std.proofs.lemmas.Int.{ints}
use Rattle.crew_flights.specs.Timetable.{IsFlight}
use Rattle.crew_flights.specs.declared.flight.Flight.{Flight}
use Rattle.crew_rules.specs.Tables.{table_a, table_b}
use Rattle.crew_rules.specs.declared.settings.Settings.{Settings}
use Rattle.crew_pairing.specs.Flights.{Flights}
use Rattle.crew_pairing.specs.Legality.{deadheads, flight_duty_period, flight_time, last_of, may_follow, segments}
use Rattle.crew_duty.specs.Machinery.Limits.{latest_departure}
use Rattle.crew_pairing.specs.Machinery.Listing.{below, is_hopeless, timed}
use Rattle.crew_resource.specs.Members.{Each}
use Rattle.crew_pairing.specs.Machinery.Beginnings.{AreFlights}
use Rattle.crew_duty.specs.Machinery.Paths.{onward}
use Rattle.crew_duty.specs.Machinery.Plans.{IsNext, LeadOn, StandAt}
use Rattle.crew_duty.specs.declared.plan.Next.{Next}
use Rattle.crew_duty.specs.Machinery.Slots.{follows_by}
use Rattle.crew_pairing.specs.declared.leg.TimedLeg.{TimedLeg}
use Rattle.crew_pairing.specs.declared.duty.Duty.{Duty}
use Rattle.crew_pairing.proofs.Falling.{table_b-falls}
use Rattle.crew_duty.proofs.Parts.{place-gives}
use Rattle.crew_duty.proofs.Running.{counted, segments-more}
use Rattle.crew_pairing.proofs.Sums.{last_of-push}
use Rattle.crew_pairing.proofs.Tree.{listing-closed}

-- the places of flights give what the flights give
places-give : (F : Flight → List Duty) (flights : List Flight) (places : List ℕ) (gs : List Flight) → StandAt flights places gs → flat_map (λ place. flat_map F (take 1 (drop place flights))) places ≡ flat_map F gs
places-give F flights [] [] h = refl
places-give F flights [] (g ∷ gs) h = absurd h
places-give F flights (p ∷ places) [] h = absurd h
places-give F flights (p ∷ places) (g ∷ gs) h =
    let one = place-gives F flights p g h.0 in
    let rest = places-give F flights places gs h.1 in
    λ i. one i ++ rest i

each-passes : (flights : List Flight) (P : Flight → Type 0) (places : List ℕ) (gs : List Flight) → StandAt flights places gs → Each P gs → Each (λ place. (g : Flight) × (slice_get flights place ≡ Some g) × P g) places
each-passes flights P [] [] h e = tt
each-passes flights P [] (g ∷ gs) h e = absurd h
each-passes flights P (p ∷ places) [] h e = absurd h
each-passes flights P (p ∷ places) (g ∷ gs) h e = ((g, h.0, e.0), each-passes flights P places gs h.1 e.1)

pub each-kept : (p : Flight → Bool) (P : Flight → Type 0) (fs : List Flight) → ((f : Flight) → p f ≡ true → P f) → Each P (filter p fs)
each-kept p P [] f = tt
each-kept p P (g ∷ fs) f = by (p g) refl (each-kept p P fs f)
  where
    by : (b : Bool) → p g ≡ b → Each P (filter p fs) → Each P (cond b (g ∷ filter p fs) (filter p fs))
    by true e r = (f g e, r)
    by false e r = r

-- what a stricter test leaves out gives nothing
pub fewer-give : (F : Flight → List Duty) (p q : Flight → Bool) (fs : List Flight) → Each (λ f. p f && q f ≡ false → p f ≡ true → F f ≡ []) fs → flat_map F (filter (λ f. p f && q f) fs) ≡ flat_map F (filter p fs)
fewer-give F p q [] h = refl
fewer-give F p q (g ∷ fs) h = by (p g) (q g) h.0 (fewer-give F p q fs h.1)
  where
    by : (a b : Bool) → (a && b ≡ false → a ≡ true → F g ≡ []) → flat_map F (filter (λ f. p f && q f) fs) ≡ flat_map F (filter p fs)
        → flat_map F (cond (a && b) (g ∷ filter (λ f. p f && q f) fs) (filter (λ f. p f && q f) fs)) ≡ flat_map F (cond a (g ∷ filter p fs) (filter p fs))
    by true true k r = ap (λ (l : List Duty). F g ++ l) r
    by true false k r = rw (k refl refl) r
    by false b k r = r

or-last : (a b c : Bool) → c ≡ true → (a || (b || c)) ≡ true
or-last true b c e = refl
or-last false true c e = refl
or-last false false c e = e

over-lt : (a b : ℤ) → (a +ℤ pos 1) ≤ℤ b → int_lt a b ≡ true
over-lt a b h = grind (arith, ints, h)

pub le-fails : (a b : ℤ) → int_le a b ≡ false → (b +ℤ pos 1) ≤ℤ a
le-fails a b h = grind (arith, ints, h)

-- a leg that arrives later than any may depart comes in too late
soon-closed : (s : Settings) (first : TimedLeg) (others : List TimedLeg) (dead : Bool) (g : Flight) → latest_departure s first (first ∷ others) <ℤ g.arr
    → is_hopeless s first (others ++ timed dead g ∷ []) ≡ true
soon-closed s first others dead g after =
    let l = timed dead g in
    let clock = first.flight.report_clock in
    let longer = others ++ l ∷ [] in
    let more : segments (first ∷ others) ≤ segments (first ∷ longer) = segments-more (first ∷ others) l in
    let falls = table_b-falls clock (max (segments (first ∷ others)) 1) (max (segments (first ∷ longer)) 1) (omega (arith, more)) in
    let last : (last_of first longer).flight.arr ≡ g.arr = ap (λ (x : TimedLeg). x.flight.arr) (last_of-push first others l) in
    let over : (pos (table_b clock (max (segments (first ∷ longer)) 1)) +ℤ pos 1) ≤ℤ flight_duty_period s first longer = omega (arith, ints, falls, last, after) in
    or-last (nat_lt s.deadheads (deadheads (first ∷ longer))) (int_lt (pos (table_a clock)) (flight_time first longer))
    (int_lt (pos (table_b clock (max (segments (first ∷ longer)) 1))) (flight_duty_period s first longer))
    (over-lt (pos (table_b clock (max (segments (first ∷ longer)) 1))) (flight_duty_period s first longer) over)

-- a leg that departs too late comes in too late
late-closed : (s : Settings) (first : TimedLeg) (others : List TimedLeg) (dead : Bool) (g : Flight) → IsFlight g.id g → int_le g.dep (latest_departure s first (first ∷ others)) ≡ false
    → is_hopeless s first (others ++ timed dead g ∷ []) ≡ true
late-closed s first others dead g sound late =
    let block = sound.least_block in
    let after = le-fails g.dep (latest_departure s first (first ∷ others)) late in
    soon-closed s first others dead g (omega (arith, ints, block, after))

or-first : (a b : Bool) → a ≡ true → (a || b) ≡ true
or-first true b e = refl
or-first false b e = cc

more-lt : (a b : ℕ) → a < b → nat_lt a b ≡ true
more-lt a b h = grind (arith, nat_tests)

-- no leg more is ridden than may be
pub ridden-closed : (s : Settings) (first : TimedLeg) (others : List TimedLeg) (g : Flight) → s.deadheads ≤ deadheads (first ∷ others) → is_hopeless s first (others ++ timed true g ∷ []) ≡ true
ridden-closed s first others g full =
    let longer = others ++ timed true g ∷ [] in
    let more = counted (λ (l : TimedLeg). l.deadhead) (first ∷ others) (timed true g) refl in
    or-first (nat_lt s.deadheads (deadheads (first ∷ longer)))
    (int_lt (pos (table_a first.flight.report_clock)) (flight_time first longer) || int_lt (pos (table_b first.flight.report_clock (max (segments (first ∷ longer)) 1))) (flight_duty_period s first longer))
    (more-lt s.deadheads (deadheads (first ∷ longer)) (omega (arith, full, more)))

pub nothing-below : (s : Settings) (flights : Flights) (first : TimedLeg) (others : List TimedLeg) (room : ℕ) (g : Flight) → IsFlight g.id g → int_le g.dep (latest_departure s first (first ∷ others)) ≡ false → below room s flights first others g ≡ []
nothing-below s flights first others room g sound late =
    rw (
      listing-closed room s flights first (others ++ timed false g ∷ []) (late-closed s first others false g sound late),
      listing-closed room s flights first (others ++ timed true g ∷ []) (late-closed s first others true g sound late),
    ) refl

pub second-fails : (a b : Bool) → (a && b) ≡ false → a ≡ true → b ≡ false
second-fails true b h e = h
second-fails false b h e = cc

late-ones : (s : Settings) (flights : Flights) (first : TimedLeg) (others : List TimedLeg) (room : ℕ) (fs : List Flight) → Each (λ f. IsFlight f.id f) fs
    → Each (λ f. (may_follow s flights.turns (last_of first others).flight f && int_le f.dep (latest_departure s first (first ∷ others))) ≡ false → may_follow s flights.turns (last_of first others).flight f ≡ true → below room s flights first others f ≡ []) fs
late-ones s flights first others room [] h = tt
late-ones s flights first others room (f ∷ fs) h =
    (λ e k. nothing-below s flights first others room f h.0 (second-fails (may_follow s flights.turns (last_of first others).flight f) (int_le f.dep (latest_departure s first (first ∷ others))) e k), late-ones s flights first others room fs h.1)

-- all flights that may follow lead on
pub leads-all : (s : Settings) (flights : Flights) (first : TimedLeg) (others : List TimedLeg) (places : List ℕ) → StandAt flights.list places (filter (may_follow s flights.turns (last_of first others).flight) flights.list) → LeadOn s flights first others places
leads-all s flights first others places h =
    let test = may_follow s flights.turns (last_of first others).flight in record {
      follow = each-passes flights.list (λ g. test g ≡ true) places (filter test flights.list) h (each-kept test (λ g. test g ≡ true) flights.list (λ f e. e));
      all = λ room. places-give (below room s flights first others) flights.list places (filter test flights.list) h;
    }

-- and so do those that don't depart too late
pub leads-early : (s : Settings) (flights : Flights) (first : TimedLeg) (others : List TimedLeg) (places : List ℕ) (latest : ℤ) → AreFlights flights → latest ≡ latest_departure s first (first ∷ others)
    → StandAt flights.list places (filter (follows_by s flights.turns latest (last_of first others).flight) flights.list) → LeadOn s flights first others places
leads-early s flights first others places latest are e h =
    let last = (last_of first others).flight in
    let end = latest_departure s first (first ∷ others) in
    let test = follows_by s flights.turns end last in
    let stands : StandAt flights.list places (filter test flights.list) = subst (λ (t : ℤ). StandAt flights.list places (filter (follows_by s flights.turns t last) flights.list)) e h in record {
      follow = each-passes flights.list (λ g. may_follow s flights.turns last g ≡ true) places (filter test flights.list) stands
          (each-kept test (λ g. may_follow s flights.turns last g ≡ true) flights.list (λ f k. (and_parts (may_follow s flights.turns last f) (int_le f.dep end) k).0));
      all = λ room. places-give (below room s flights first others) flights.list places (filter test flights.list) stands
          ∙ fewer-give (below room s flights first others) (may_follow s flights.turns last) (λ f. int_le f.dep end) flights.list (late-ones s flights first others room flights.list are.each);
    }

-- a place that leads on
pub leads-at : {X : Type 0} (P : X → Type 0) (xs : List X) (i : ℕ) (x : X) → Each P xs → slice_get xs i ≡ Some x → P x
leads-at P [] i x h e = cc
leads-at P (y ∷ xs) zero x h e = let same : y ≡ x = cc in subst P same h.0
leads-at P (y ∷ xs) (suc i) x h e = leads-at P xs i x h.1 e

-- where every flight that may follow arrives too late, nothing goes on
none-below : (s : Settings) (flights : Flights) (first : TimedLeg) (others : List TimedLeg) (room : ℕ) (gs : List Flight) → Each (λ g. latest_departure s first (first ∷ others) <ℤ g.arr) gs
    → flat_map (below room s flights first others) gs ≡ []
none-below s flights first others room [] h = refl
none-below s flights first others room (g ∷ gs) h =
    let flown = listing-closed room s flights first (others ++ timed false g ∷ []) (soon-closed s first others false g h.0) in
    let ridden = listing-closed room s flights first (others ++ timed true g ∷ []) (soon-closed s first others true g h.0) in
    rw (flown, ridden) (none-below s flights first others room gs h.1)

pub leads-nowhere : (s : Settings) (flights : Flights) (first : TimedLeg) (others : List TimedLeg) (room : ℕ) (next : Next) (latest : ℤ) → IsNext s flights (last_of first others).flight next → latest ≡ latest_departure s first (first ∷ others)
    → pos 0 ≤ℤ latest → latest <ℤ next.soonest → onward room s flights first others ≡ []
leads-nowhere s flights first others room next latest is e least soon =
    let gs = filter (may_follow s flights.turns (last_of first others).flight) flights.list in
    none-below s flights first others room gs (subst (λ (t : ℤ). Each (λ g. t <ℤ g.arr) gs) e (is.soonest latest least soon))

-- no leg is ridden first where none may be
pub ridden-first : (s : Settings) (g : Flight) → s.deadheads ≡ 0 → is_hopeless s (timed true g) [] ≡ true
ridden-first s g none =
    or-first (nat_lt s.deadheads (deadheads (timed true g ∷ [])))
    (int_lt (pos (table_a g.report_clock)) (flight_time (timed true g) []) || int_lt (pos (table_b g.report_clock (max (segments (timed true g ∷ [])) 1))) (flight_duty_period s (timed true g) []))
    (more-lt s.deadheads (deadheads (timed true g ∷ [])) (omega (arith, none)))
