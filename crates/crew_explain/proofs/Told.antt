-- What no broken rule says: the rules of a duty, and of a walk, against the definitions.
use Rattle.std.proofs.Common.{◌≡◌, ◌≤◌, ◌+◌, ◌-ℤ◌, ◌≤ℤ◌, ◌&&◌, ℕ, ℤ, pos, int_le, not, Bool, true, false, cond, List, [], ◌∷◌, ◌++◌, Option, Some, None, refl, sym, ap, subst, ◌∙◌, arith, length}
use Rattle.std.proofs.lemmas.Bool.{and_from, and_parts}
use Rattle.std.proofs.lemmas.Int.{ints}
use Rattle.std.specs.FinMap as fin
use Rattle.std.specs.Option.{unwrap_or}
use Rattle.crew_flights.specs.Timetable.{Turns}
use Rattle.crew_flights.specs.declared.flight.Flight.{Flight}
use Rattle.crew_pairing.specs.Flights.{Flights}
use Rattle.crew_rules.specs.declared.settings.Settings.{Settings}
use Rattle.crew_pairing.specs.Legality.{AllConnect, IsLegal, deadheads, flight_duty_period, flight_time, last_of, may_follow, segments, turn_time}
use Rattle.crew_pairing.specs.declared.leg.TimedLeg.{TimedLeg}
use Rattle.crew_resource.specs.Members.{Each, Member}
use Rattle.crew_explain.specs.Rules.{Asked, at_least, at_most, connection, connections, duty_limits, duty_rules, first_of, least_gap, same, told}
use Rattle.crew_explain.specs.declared.breach.Rule.TheVariants as The
use Rattle.std.specs.Ordering.{eq_by_cmp}
use Rattle.crew_flights.specs.Codes.{code_cmp}
use Rattle.crew_rules.specs.Tables.{table_a, table_b}
use Rattle.crew_explain.specs.Machinery.Firsts.{or_else}
use Rattle.crew_explain.specs.declared.breach.Breach.{Breach}
use Rattle.crew_explain.proofs.Asking.{first-append}

pub head-none : (b : Bool) (x : Option Breach) (y : Breach) → cond b x (Some y) ≡ None → (b ≡ true) × (x ≡ None)
head-none true x y e = (refl, e)
head-none false x y e = absurd (let q : ⊥ = (cc) in q)

pub none-head : (b : Bool) (x : Option Breach) (y : Breach) → b ≡ true → x ≡ None → cond b x (Some y) ≡ None
none-head true x y h e = e
none-head false x y h e = absurd (let q : ⊥ = (cc) in q)

else-parts : (a b : Option Breach) → or_else a b ≡ None → (a ≡ None) × (b ≡ None)
else-parts None b e = (refl, e)
else-parts (Some x) b e = absurd (let q : ⊥ = (cc) in q)

pub none-parts : (xs ys : List Asked) → first_of (xs ++ ys) ≡ None → (first_of xs ≡ None) × (first_of ys ≡ None)
none-parts xs ys e = else-parts (first_of xs) (first_of ys) (sym (first-append xs ys) ∙ e)

pub none-both : (xs ys : List Asked) → first_of xs ≡ None → first_of ys ≡ None → first_of (xs ++ ys) ≡ None
none-both xs ys h k = first-append xs ys ∙ (ap (λ a. or_else a (first_of ys)) h ∙ k)

pub int-le : (m n : ℤ) → int_le m n ≡ true → m ≤ℤ n
int-le m n h = grind (arith, ints)

pub int-yes : (m n : ℤ) → m ≤ℤ n → int_le m n ≡ true
int-yes m n h = grind (arith, ints)

nat-le : (m n : ℕ) → int_le (pos m) (pos n) ≡ true → m ≤ n
nat-le m n h = let k : pos m ≤ℤ pos n = int-le (pos m) (pos n) h in omega (arith, ints, k)

nat-yes : (m n : ℕ) → m ≤ n → int_le (pos m) (pos n) ≡ true
nat-yes m n h = int-yes (pos m) (pos n) (let k : pos m ≤ℤ pos n = omega (arith, ints, h) in k)

-- one rule, three, and four
pub first-holds : (r : Asked) (rs : List Asked) → first_of (r ∷ rs) ≡ None → (r.0 ≡ true) × (first_of rs ≡ None)
first-holds r rs e = head-none r.0 (first_of rs) r.1 e

pub first-kept : (r : Asked) (rs : List Asked) → r.0 ≡ true → first_of rs ≡ None → first_of (r ∷ rs) ≡ None
first-kept r rs h k = none-head r.0 (first_of rs) r.1 h k

pub three-hold : (p q r : Asked) → first_of (p ∷ q ∷ r ∷ []) ≡ None → (p.0 ≡ true) × (q.0 ≡ true) × (r.0 ≡ true)
three-hold p q r e =
    let one = head-none p.0 (first_of (q ∷ r ∷ [])) p.1 e in
    let two = head-none q.0 (first_of (r ∷ [])) q.1 one.1 in
    let three = head-none r.0 None r.1 two.1 in
    (one.0, two.0, three.0)

pub hold-three : (p q r : Asked) → p.0 ≡ true → q.0 ≡ true → r.0 ≡ true → first_of (p ∷ q ∷ r ∷ []) ≡ None
hold-three p q r h k l = none-head p.0 (first_of (q ∷ r ∷ [])) p.1 h (none-head q.0 (first_of (r ∷ [])) q.1 k (none-head r.0 None r.1 l refl))

pub four-hold : (p q r t : Asked) → first_of (p ∷ q ∷ r ∷ t ∷ []) ≡ None → (p.0 ≡ true) × (q.0 ≡ true) × (r.0 ≡ true) × (t.0 ≡ true)
four-hold p q r t e =
    let one = head-none p.0 (first_of (q ∷ r ∷ t ∷ [])) p.1 e in
    let more = three-hold q r t one.1 in
    (one.0, more.0, more.1, more.2)

pub hold-four : (p q r t : Asked) → p.0 ≡ true → q.0 ≡ true → r.0 ≡ true → t.0 ≡ true → first_of (p ∷ q ∷ r ∷ t ∷ []) ≡ None
hold-four p q r t h k l m = none-head p.0 (first_of (q ∷ r ∷ t ∷ [])) p.1 h (hold-three q r t k l m)

off : (b : Bool) → not b ≡ true → b ≡ false
off true e = absurd (let q : ⊥ = (cc) in q)
off false e = refl

on : (b : Bool) → b ≡ false → not b ≡ true
on true e = absurd (let q : ⊥ = (cc) in q)
on false e = refl

-- neighbouring legs: the minutes that are told are the least between them
least-is : (s : Settings) (turn : Option ℕ) → (least_gap s turn).1 ≡ pos (unwrap_or turn s.connect)
least-is s None = refl
least-is s (Some minutes) = refl

gap-is : (s : Settings) (turns : Turns) (a b : Flight) → (least_gap s (fin.get turns (a.id, b.id))).1 ≡ pos (turn_time s turns a b)
gap-is s turns a b = least-is s (fin.get turns (a.id, b.id))

follows : (s : Settings) (turns : Turns) (duty leg : ℕ) (a b : Flight) → first_of (connection s turns duty leg a b) ≡ None → may_follow s turns a b ≡ true
follows s turns duty leg a b e =
    let gap = b.dep -ℤ a.arr in
    let least = least_gap s (fin.get turns (a.id, b.id)) in
    let p = three-hold (same The.Airport duty leg a.to b.from) (at_least least.0 duty leg gap least.1) (at_most The.Sit duty leg gap (pos s.sit)) e in
    let late : int_le (pos (turn_time s turns a b)) gap ≡ true = subst (λ (z : ℤ). int_le z gap ≡ true) (gap-is s turns a b) p.1 in
    and_from (eq_by_cmp code_cmp a.to b.from) (int_le (pos (turn_time s turns a b)) gap && int_le gap (pos s.sit)) p.0
    (and_from (int_le (pos (turn_time s turns a b)) gap) (int_le gap (pos s.sit)) late p.2)

joins : (s : Settings) (turns : Turns) (duty leg : ℕ) (a b : Flight) → may_follow s turns a b ≡ true → first_of (connection s turns duty leg a b) ≡ None
joins s turns duty leg a b h =
    let gap = b.dep -ℤ a.arr in
    let least = least_gap s (fin.get turns (a.id, b.id)) in
    let p = and_parts (eq_by_cmp code_cmp a.to b.from) (int_le (pos (turn_time s turns a b)) gap && int_le gap (pos s.sit)) h in
    let q = and_parts (int_le (pos (turn_time s turns a b)) gap) (int_le gap (pos s.sit)) p.1 in
    let late : int_le least.1 gap ≡ true = subst (λ (z : ℤ). int_le z gap ≡ true) (sym (gap-is s turns a b)) q.0 in
    hold-three (same The.Airport duty leg a.to b.from) (at_least least.0 duty leg gap least.1) (at_most The.Sit duty leg gap (pos s.sit)) p.0 late q.1

connected : (s : Settings) (turns : Turns) (duty leg : ℕ) (first : TimedLeg) (others : List TimedLeg) → first_of (connections s turns duty leg first others) ≡ None → AllConnect s turns first others
connected s turns duty leg first [] e = tt
connected s turns duty leg first (next ∷ others) e =
    let p = none-parts (connection s turns duty leg first.flight next.flight) (connections s turns duty (leg + 1) next others) e in
    (follows s turns duty leg first.flight next.flight p.0, connected s turns duty (leg + 1) next others p.1)

connects : (s : Settings) (turns : Turns) (duty leg : ℕ) (first : TimedLeg) (others : List TimedLeg) → AllConnect s turns first others → first_of (connections s turns duty leg first others) ≡ None
connects s turns duty leg first [] h = refl
connects s turns duty leg first (next ∷ others) h =
    none-both (connection s turns duty leg first.flight next.flight) (connections s turns duty (leg + 1) next others) (joins s turns duty leg first.flight next.flight h.0) (connects s turns duty (leg + 1) next others h.1)

pub connected-of : (s : Settings) (turns : Turns) (duty : ℕ) (first : TimedLeg) (others : List TimedLeg) → first_of (duty_rules s turns duty first others) ≡ None → AllConnect s turns first others
connected-of s turns duty first others e = connected s turns duty 2 first others (none-parts (connections s turns duty 2 first others) (duty_limits s duty first others) e).0

-- a duty
pub legal-of : (s : Settings) (flights : Flights) (duty : ℕ) (first : TimedLeg) (others : List TimedLeg) → Each (λ l. Member flights.list l.flight) (first ∷ others) → length (first ∷ others) ≤ 8
    → first_of (duty_rules s flights.turns duty first others) ≡ None → IsLegal s flights first others
legal-of s flights duty first others known few e =
    let p = none-parts (connections s flights.turns duty 2 first others) (duty_limits s duty first others) e in
    let clock = first.flight.report_clock in
    let q = four-hold (at_most The.Deadheads duty 0 (pos (deadheads (first ∷ others))) (pos s.deadheads)) (not (last_of first others).deadhead, told The.LastLeg duty (length others + 1))
    (at_most The.FlightTime duty 0 (flight_time first others) (pos (table_a clock))) (at_most The.FlightDuty duty 0 (flight_duty_period s first others) (pos (table_b clock (segments (first ∷ others))))) p.1 in
    record {
      known = known;
      legs = few;
      connected = connected s flights.turns duty 2 first others p.0;
      deadheaded = nat-le (deadheads (first ∷ others)) s.deadheads q.0;
      flown_last = off (last_of first others).deadhead q.1;
      table_a = int-le (flight_time first others) (pos (table_a clock)) q.2;
      table_b = int-le (flight_duty_period s first others) (pos (table_b clock (segments (first ∷ others)))) q.3;
    }

pub unbroken-of : (s : Settings) (flights : Flights) (duty : ℕ) (first : TimedLeg) (others : List TimedLeg) → IsLegal s flights first others → first_of (duty_rules s flights.turns duty first others) ≡ None
unbroken-of s flights duty first others h =
    let clock = first.flight.report_clock in
    none-both (connections s flights.turns duty 2 first others) (duty_limits s duty first others) (connects s flights.turns duty 2 first others h.connected)
    (hold-four (at_most The.Deadheads duty 0 (pos (deadheads (first ∷ others))) (pos s.deadheads)) (not (last_of first others).deadhead, told The.LastLeg duty (length others + 1))
    (at_most The.FlightTime duty 0 (flight_time first others) (pos (table_a clock))) (at_most The.FlightDuty duty 0 (flight_duty_period s first others) (pos (table_b clock (segments (first ∷ others)))))
    (nat-yes (deadheads (first ∷ others)) s.deadheads h.deadheaded) (on (last_of first others).deadhead h.flown_last) (int-yes (flight_time first others) (pos (table_a clock)) h.table_a)
    (int-yes (flight_duty_period s first others) (pos (table_b clock (segments (first ∷ others)))) h.table_b))
