-- What a legal duty says of its beginnings, and a beginning of the duty.
use Rattle.std.proofs.Common.{◌≡◌, ◌≤◌, ◌<◌, ℕ, ℤ, pos, ◌≤ℤ◌, List, [], ◌∷◌, ◌++◌, Bool, true, false, cond, not, nat_lt, int_lt, length, max, refl, ap, arith, ◌||◌}
use Rattle.std.specs.Prelude.{count_by}
use Rattle.std.proofs.lemmas.List.Sums.{sum_by-append, sum_by-cons}
use Rattle.std.proofs.lemmas.Bool.Decides.{nat_tests}
use Rattle.std.proofs.lemmas.Int.{ints}
use Rattle.crew_flights.specs.Timetable.{IsFlight, Turns}
use Rattle.crew_flights.specs.declared.flight.Flight.{Flight}
use Rattle.crew_rules.specs.Tables.{table_a, table_b}
use Rattle.crew_rules.specs.declared.settings.Settings.{Settings}
use Rattle.crew_pairing.specs.Flights.{Flights}
use Rattle.crew_pairing.specs.Legality.{AllConnect, IsLegal, deadheads, flight_duty_period, flight_time, last_of, minutes_flown, segments}
use Rattle.crew_pairing.specs.Machinery.Listing.{is_hopeless}
use Rattle.crew_resource.specs.Members.{Each, Member}
use Rattle.crew_pairing.specs.Machinery.Beginnings.{AreFlights, IsBeginning}
use Rattle.crew_pairing.specs.declared.leg.TimedLeg.{TimedLeg}
use Rattle.crew_pairing.proofs.Falling.{table_b-falls}
use Rattle.crew_pairing.proofs.Sums.{total-append}
use Rattle.crew_pairing.proofs.Times.{AllSound, ends-later, flown-total, no-earlier}
use Rattle.crew_pairing.proofs.Tree.{Each-map, Each-member}

-- counts only grow
count-more : {X : Type 0} (p : X → Bool) (xs ys : List X) → count_by p xs ≤ count_by p (xs ++ ys)
count-more p xs ys = omega (arith, sum_by-append (λ x. cond (p x) 1 0) xs ys)

-- a duty that ends with a flown leg has a flight segment
one-flown : (b : Bool) → b ≡ false → ◌≡◌ {A = ℕ} (cond (not b) 1 0) 1
one-flown true e = cc
one-flown false e = refl

pub segments-some : (first : TimedLeg) (others : List TimedLeg) → (last_of first others).deadhead ≡ false → 1 ≤ segments (first ∷ others)
segments-some first [] e = omega (arith, sum_by-cons (λ (l : TimedLeg). cond (not l.deadhead) 1 0) first [], one-flown first.deadhead e)
segments-some first (next ∷ others) e = omega (arith, sum_by-cons (λ (l : TimedLeg). cond (not l.deadhead) 1 0) first (next ∷ others), segments-some next others e)

-- the legs that go on
pub last_of-append : (first : TimedLeg) (others more : List TimedLeg) → last_of first (others ++ more) ≡ last_of (last_of first others) more
last_of-append first [] more = refl
last_of-append first (next ∷ others) more = last_of-append next others more

pub AllConnect-after : (s : Settings) (turns : Turns) (first : TimedLeg) (others more : List TimedLeg) → AllConnect s turns first (others ++ more) → AllConnect s turns (last_of first others) more
AllConnect-after s turns first [] more h = h
AllConnect-after s turns first (next ∷ others) more h = AllConnect-after s turns next others more h.1

pub AllConnect-before : (s : Settings) (turns : Turns) (first : TimedLeg) (others more : List TimedLeg) → AllConnect s turns first (others ++ more) → AllConnect s turns first others
AllConnect-before s turns first [] more h = tt
AllConnect-before s turns first (next ∷ others) more h = (h.0, AllConnect-before s turns next others more h.1)

pub Each-after : {X : Type 0} (P : X → Type 0) (xs ys : List X) → Each P (xs ++ ys) → Each P ys
Each-after P [] ys h = h
Each-after P (x ∷ xs) ys h = Each-after P xs ys h.1

last-later-by : (s : Settings) (turns : Turns) (last : TimedLeg) (more : List TimedLeg) → AllSound more → AllConnect s turns last more → last.flight.arr ≤ℤ (last_of last more).flight.arr
last-later-by s turns last [] sound linked = omega (arith, ints)
last-later-by s turns last (next ∷ more) sound linked =
    omega (arith, ints, no-earlier s turns last.flight next.flight linked.0, ends-later s turns next more sound linked.1, sound.0.least_block)

-- known legs are sound
pub known-sound : (flights : Flights) (legs : List TimedLeg) → AreFlights flights → Each (λ l. Member flights.list l.flight) legs → AllSound legs
known-sound flights legs f h =
    Each-map (λ (l : TimedLeg). Member flights.list l.flight) (λ (l : TimedLeg). IsFlight l.flight.id l.flight) legs (λ l m. Each-member (λ (g : Flight). IsFlight g.id g) flights.list l.flight f.each m) h

three-false : (a b c : Bool) → a ≡ false → b ≡ false → c ≡ false → (a || (b || c)) ≡ false
three-false true b c e f g = e
three-false false true c e f g = f
three-false false false c e f g = g

first-false : (a b : Bool) → (a || b) ≡ false → a ≡ false
first-false true b e = e
first-false false b e = refl

second-false : (a b : Bool) → (a || b) ≡ false → b ≡ false
second-false true b e = cc
second-false false b e = e

-- a legal duty leaves hope to each of its beginnings
pub not-hopeless : (s : Settings) (flights : Flights) (first : TimedLeg) (others more : List TimedLeg) → AreFlights flights → IsLegal s flights first (others ++ more)
    → is_hopeless s first others ≡ false
not-hopeless s flights first others more f h =
    let sound = known-sound flights (first ∷ (others ++ more)) f h.known in
    let after = Each-after (λ (l : TimedLeg). IsFlight l.flight.id l.flight) (first ∷ others) more sound in
    let few = count-more (λ (l : TimedLeg). l.deadhead) (first ∷ others) more in
    let flown = count-more (λ (l : TimedLeg). not l.deadhead) (first ∷ others) more in
    let some = segments-some first (others ++ more) h.flown_last in
    let time = total-append minutes_flown (first ∷ others) more in
    let rest = flown-total more after in
    let later = last-later-by s flights.turns (last_of first others) more after (AllConnect-after s flights.turns first others more h.connected) in
    let same = ap (λ (l : TimedLeg). l.flight.arr) (last_of-append first others more) in
    let limit = table_b-falls first.flight.report_clock (max (segments (first ∷ others)) 1) (segments (first ∷ (others ++ more))) (omega arith) in
    let a : deadheads (first ∷ others) ≤ s.deadheads = omega (arith, few, h.deadheaded) in
    let b : flight_time first others ≤ℤ pos (table_a first.flight.report_clock) = omega (arith, ints, time, rest, h.table_a) in
    let c : flight_duty_period s first others ≤ℤ pos (table_b first.flight.report_clock (max (segments (first ∷ others)) 1)) = omega (arith, ints, later, same, limit, h.table_b) in
    three-false _ _ _ (deadheads-test a) (int-test b) (int-test c)
  where
    deadheads-test : {m n : ℕ} → m ≤ n → nat_lt n m ≡ false
    deadheads-test h = grind (arith, nat_tests)

    int-test : {m n : ℤ} → m ≤ℤ n → int_lt n m ≡ false
    int-test h = grind (arith, ints)

-- a beginning with hope that ends with a flown leg is a legal duty
pub own-legal : (s : Settings) (flights : Flights) (first : TimedLeg) (others : List TimedLeg) → IsBeginning s flights first others → length others < 8
    → is_hopeless s first others ≡ false → (last_of first others).deadhead ≡ false → IsLegal s flights first others
own-legal s flights first others b few hope flown =
    let some = segments-some first others flown in
    let counted : max (segments (first ∷ others)) 1 ≡ segments (first ∷ others) = omega arith in
    let one : nat_lt s.deadheads (deadheads (first ∷ others)) ≡ false = first-false _ _ hope in
    let two : int_lt (pos (table_a first.flight.report_clock)) (flight_time first others) ≡ false = first-false _ _ (second-false _ _ hope) in
    let three : int_lt (pos (table_b first.flight.report_clock (max (segments (first ∷ others)) 1))) (flight_duty_period s first others) ≡ false = second-false _ _ (second-false _ _ hope) in
    record {
      known = b.known;
      legs = omega arith;
      connected = b.connected;
      deadheaded = at-most (deadheads (first ∷ others)) s.deadheads one;
      flown_last = flown;
      table_a = int-at-most (flight_time first others) (pos (table_a first.flight.report_clock)) two;
      table_b = rw counted at (int-at-most (flight_duty_period s first others) (pos (table_b first.flight.report_clock (max (segments (first ∷ others)) 1))) three);
    }
  where
    at-most : (m n : ℕ) → nat_lt n m ≡ false → m ≤ n
    at-most m n h = grind (arith, nat_tests)

    int-at-most : (m n : ℤ) → int_lt n m ≡ false → m ≤ℤ n
    int-at-most m n h = grind (arith, ints)
