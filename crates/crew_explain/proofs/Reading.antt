-- What is read of a walk: legs with their flights, duties, and the list of them.
use Rattle.std.proofs.Common.{◌≡◌, ◌≤◌, ◌+◌, ℕ, suc, pos, Bool, true, false, cond, nat_le, List, [], ◌∷◌, ◌++◌, map, Option, Some, None, Result, Ok, Err, refl, sym, ap, subst, ◌∙◌, arith, length, append-nil, append_assoc}
use Rattle.std.specs.FinMap as fin
use Rattle.std.proofs.lemmas.Bool.Decides.{nat_tests}
use Rattle.std.specs.Option.{option_map}
use Rattle.crew_flights.specs.Places.{placed, placed_flight}
use Rattle.crew_flights.specs.Timetable.{IsFlight, IsSound, Timetable}
use Rattle.crew_flights.proofs.Places.{placed_is_flight}
use Rattle.crew_pairing.proofs.Timetables.{held-is-placed, placed-is-held}
use Rattle.crew_flights.specs.declared.flight.Flight.{Flight}
use Rattle.crew_rules.specs.declared.settings.Settings.{Settings}
use Rattle.crew_pairing.specs.Duties.{flights_of}
use Rattle.crew_pairing.specs.Legs.{Leg}
use Rattle.crew_pairing.specs.Legality.{duty_of, leg_of}
use Rattle.crew_pairing.specs.Pairings.{IsDuty}
use Rattle.crew_pairing.specs.declared.duty.Duty.{Duty}
use Rattle.crew_pairing.specs.declared.leg.TimedLeg.{TimedLeg}
use Rattle.crew_pairing.proofs.Times.{AllSound}
use Rattle.crew_resource.specs.Members.{Each, Member}
use Rattle.crew_explain.specs.Rules.{◌>>=◌, checked, duty_rules, first_of, held, limits_of, read_after, read_duty, timed_after, unless}
use Rattle.crew_explain.specs.declared.breach.Breach.{Breach}
use Rattle.crew_explain.specs.declared.breach.Rule.TheVariants as The
use Rattle.crew_explain.specs.declared.explained.Limits.{Limits}
use Rattle.crew_explain.proofs.Told.{legal-of, unbroken-of}

ok-same : {A : Type 0} (x y : A) → ◌≡◌ {A = Result A Breach} (Ok x) (Ok y) → x ≡ y
ok-same x y e = cc

no-ok : {A C : Type 0} (x : Breach) (y : A) → ◌≡◌ {A = Result A Breach} (Err x) (Ok y) → C
no-ok x y e = absurd (let q : ⊥ = (cc) in q)

snoc-each : {X : Type 0} (P : X → Type 0) (xs : List X) (x : X) → Each P xs → P x → Each P (xs ++ x ∷ [])
snoc-each P [] x h k = (k, tt)
snoc-each P (y ∷ xs) x h k = (h.0, snoc-each P xs x h.1 k)

some-same : (x y : Flight) → ◌≡◌ {A = Option Flight} (Some x) (Some y) → x ≡ y
some-same x y e = cc

-- a flight that is seen is one that is held, placed
record Seen (t : Timetable) (n : ℕ) (f : Flight) : Type 0 where
  pub held : Flight
  pub is_held : fin.get t.flights n ≡ Some held
  pub is_placed : placed t held ≡ f

seen : (t : Timetable) (n : ℕ) (f : Flight) → placed_flight t n ≡ Some f → Seen t n f
seen t n f e = by (fin.get t.flights n) refl e
  where
    by : (o : Option Flight) → fin.get t.flights n ≡ o → option_map (placed t) o ≡ Some f → Seen t n f
    by None g h = absurd (let q : ⊥ = (cc) in q)
    by (Some x) g h = record { held = x; is_held = g; is_placed = some-same (placed t x) f h }

own-flight : (t : Timetable) (n : ℕ) (f : Flight) → IsSound t → placed_flight t n ≡ Some f → IsFlight n f
own-flight t n f s e = let k = seen t n f e in subst (IsFlight n) k.is_placed (placed_is_flight t n k.held s k.is_held)

own-named : (t : Timetable) (n : ℕ) (f : Flight) → IsSound t → placed_flight t n ≡ Some f → IsFlight f.id f
own-named t n f s e = let own = own-flight t n f s e in subst (λ (m : ℕ). IsFlight m f) (sym own.own) own

abbrev timed : Leg → Flight → TimedLeg
timed l f = record { flight = f; deadhead = l.deadhead }

-- the legs read have sound flights
pub timed-sound : (t : Timetable) (duty : ℕ) (legs : List TimedLeg) (ls : List Leg) (out : List TimedLeg) → IsSound t → AllSound legs → timed_after t duty legs ls ≡ Ok out → AllSound out
timed-sound t duty legs [] out s k e = subst AllSound (ok-same legs out e) k
timed-sound t duty legs (l ∷ ls) out s k e =
    go (placed_flight t l.flight) refl (λ f g h. timed-sound t duty (legs ++ timed l f ∷ []) ls out s (snoc-each (λ (x : TimedLeg). IsFlight x.flight.id x.flight) legs (timed l f) k (own-named t l.flight f s g)) h) e
  where
    go : (o : Option Flight) → placed_flight t l.flight ≡ o
        → ((f : Flight) → placed_flight t l.flight ≡ Some f → timed_after t duty (legs ++ timed l f ∷ []) ls ≡ Ok out → AllSound out)
        → ((held duty (length legs + 1) o >>= (λ f. Ok (timed l f))) >>= (λ leg. timed_after t duty (legs ++ leg ∷ []) ls)) ≡ Ok out → AllSound out
    go None g on h = no-ok _ _ h
    go (Some f) g on h = on f g h

-- flights that are seen are those of the list
held-member : (t : Timetable) (n : ℕ) (f : Flight) → placed_flight t n ≡ Some f → Member (flights_of t).list f
held-member t n f e = let k = seen t n f e in subst (Member (flights_of t).list) k.is_placed (held-is-placed t n k.held k.is_held)

member-held : (t : Timetable) (f : Flight) → IsSound t → Member (flights_of t).list f → placed_flight t f.id ≡ Some f
member-held t f s m = let p = placed-is-held t s f m in ap (option_map (placed t)) p.1 ∙ ap Some p.2

-- the legs read are those of the key, over flights of the timetable
record Timed (t : Timetable) (legs : List TimedLeg) (ls : List Leg) (out : List TimedLeg) : Type 0 where
  pub more : List TimedLeg
  pub joined : out ≡ legs ++ more
  pub known : Each (λ l. Member (flights_of t).list l.flight) more
  pub keyed : map leg_of more ≡ ls

timed-known : (t : Timetable) (duty : ℕ) (legs : List TimedLeg) (ls : List Leg) (out : List TimedLeg) → IsSound t → timed_after t duty legs ls ≡ Ok out → Timed t legs ls out
timed-known t duty legs [] out s e = record { more = []; joined = sym (ok-same legs out e) ∙ sym (append-nil legs); known = tt; keyed = refl }
timed-known t duty legs (l ∷ ls) out s e = go (placed_flight t l.flight) refl (λ f h. timed-known t duty (legs ++ timed l f ∷ []) ls out s h) e
  where
    go : (o : Option Flight) → placed_flight t l.flight ≡ o
        → ((f : Flight) → timed_after t duty (legs ++ timed l f ∷ []) ls ≡ Ok out → Timed t (legs ++ timed l f ∷ []) ls out)
        → ((held duty (length legs + 1) o >>= (λ f. Ok (timed l f))) >>= (λ leg. timed_after t duty (legs ++ leg ∷ []) ls)) ≡ Ok out → Timed t legs (l ∷ ls) out
    go None g on h = no-ok _ _ h
    go (Some f) g on h =
        let k = on f h in
        let named : leg_of (timed l f) ≡ l = ap (λ (n : ℕ). record { flight = n; deadhead = l.deadhead }) (own-flight t l.flight f s g).own in
        record {
          more = timed l f ∷ k.more;
          joined = k.joined ∙ append_assoc legs (timed l f ∷ []) k.more;
          known = (held-member t l.flight f g, k.known);
          keyed = λ i. named i ∷ k.keyed i;
        }

timed-read : (t : Timetable) (duty : ℕ) (legs more : List TimedLeg) → IsSound t → Each (λ l. Member (flights_of t).list l.flight) more → timed_after t duty legs (map leg_of more) ≡ Ok (legs ++ more)
timed-read t duty legs [] s k = ap Ok (sym (append-nil legs))
timed-read t duty legs (l ∷ more) s k =
    ap (λ (o : Option Flight). (held duty (length legs + 1) o >>= (λ f. Ok (record { flight = f; deadhead = l.deadhead }))) >>= (λ leg. timed_after t duty (legs ++ leg ∷ []) (map leg_of more))) (member-held t l.flight s k.0)
    ∙ timed-read t duty (legs ++ l ∷ []) more s k.1
    ∙ ap Ok (append_assoc legs (l ∷ []) more)

-- a duty that is read is legal, and has its key
counted : (xs : List TimedLeg) → length (map leg_of xs) ≡ length xs
counted [] = refl
counted (x ∷ xs) = ap suc (counted xs)

abbrev IsOwn : Settings → Timetable → List Leg → Duty × Limits → Type 0
IsOwn s t key d = IsDuty s (flights_of t) d.0 × (d.0.key ≡ key)

legal-by : (s : Settings) (t : Timetable) (duty : ℕ) (key : List Leg) (d : Duty × Limits) (first : TimedLeg) (others : List TimedLeg) → Each (λ l. Member (flights_of t).list l.flight) (first ∷ others) → map leg_of (first ∷ others) ≡ key
    → length (first ∷ others) ≤ 8 → (o : Option Breach) → first_of (duty_rules s t.turns duty first others) ≡ o → unless o (duty_of s first others, limits_of first others) ≡ Ok d → IsOwn s t key d
legal-by s t duty key d first others known keyed short (Some b) g h = no-ok _ _ h
legal-by s t duty key d first others known keyed short None g h =
    let same = ok-same (duty_of s first others, limits_of first others) d h in
    ((first, others, legal-of s (flights_of t) duty first others known short g, ap (λ (x : Duty × Limits). x.0) (sym same)), ap (λ (x : Duty × Limits). x.0.key) (sym same) ∙ keyed)

legal-made : (s : Settings) (t : Timetable) (duty : ℕ) (key : List Leg) (d : Duty × Limits) (legs : List TimedLeg) → length key ≤ 8 → Timed t [] key legs → checked s t.turns duty legs ≡ Ok d → IsOwn s t key d
legal-made s t duty key d [] few k h = no-ok _ _ h
legal-made s t duty key d (first ∷ others) few k h =
    let keyed : map leg_of (first ∷ others) ≡ key = ap (map leg_of) k.joined ∙ k.keyed in
    legal-by s t duty key d first others (subst (Each (λ (l : TimedLeg). Member (flights_of t).list l.flight)) (sym k.joined) k.known) keyed
    (subst (λ (n : ℕ). n ≤ 8) (sym (ap length keyed) ∙ counted (first ∷ others)) few) (first_of (duty_rules s t.turns duty first others)) refl h

legal-read : (s : Settings) (t : Timetable) (duty : ℕ) (key : List Leg) (d : Duty × Limits) → IsSound t → (r : Result (List TimedLeg) Breach) → timed_after t duty [] key ≡ r → length key ≤ 8 → (r >>= checked s t.turns duty) ≡ Ok d → IsOwn s t key d
legal-read s t duty key d sound (Err b) g few h = no-ok _ _ h
legal-read s t duty key d sound (Ok legs) g few h = legal-made s t duty key d legs few (timed-known t duty [] key legs sound g) h

within : (n : ℕ) → nat_le n 8 ≡ true → n ≤ 8
within n h = grind (arith, nat_tests)

legal-long : (s : Settings) (t : Timetable) (duty : ℕ) (key : List Leg) (d : Duty × Limits) (e : Breach) → IsSound t → (b : Bool) → nat_le (length key) 8 ≡ b → cond b (timed_after t duty [] key >>= checked s t.turns duty) (Err e) ≡ Ok d → IsOwn s t key d
legal-long s t duty key d e sound true g h = legal-read s t duty key d sound (timed_after t duty [] key) refl (within (length key) g) h
legal-long s t duty key d e sound false g h = no-ok _ _ h

pub duty-legal : (s : Settings) (t : Timetable) (duty : ℕ) (key : List Leg) (d : Duty × Limits) → IsSound t → read_duty s t duty key ≡ Ok d → IsDuty s (flights_of t) d.0 × (d.0.key ≡ key)
duty-legal s t duty key d sound e = legal-long s t duty key d _ sound (nat_le (length key) 8) refl e

-- and a legal duty is read
short-test : (n : ℕ) → n ≤ 8 → nat_le n 8 ≡ true
short-test n h = grind (arith, nat_tests)

pub duty-read : (s : Settings) (t : Timetable) (duty : ℕ) (d : Duty) → IsSound t → IsDuty s (flights_of t) d → (own : Limits) × (read_duty s t duty d.key ≡ Ok (d, own))
duty-read s t duty d sound (first, others, legal, is) =
    let few : nat_le (length (map leg_of (first ∷ others))) 8 ≡ true = short-test (length (map leg_of (first ∷ others))) (subst (λ (n : ℕ). n ≤ 8) (sym (counted (first ∷ others))) legal.legs) in
    let whole : read_duty s t duty (map leg_of (first ∷ others)) ≡ Ok (duty_of s first others, limits_of first others) =
    ap (λ (b : Bool). cond b (timed_after t duty [] (map leg_of (first ∷ others)) >>= checked s t.turns duty) (Err (record { rule = The.Legs; duty = duty; leg = 0; found = pos (length (map leg_of (first ∷ others))); limit = pos 8 }))) few
    ∙ ap (λ (r : Result (List TimedLeg) Breach). r >>= checked s t.turns duty) (timed-read t duty [] (first ∷ others) sound legal.known)
    ∙ ap (λ (o : Option Breach). unless o (duty_of s first others, limits_of first others)) (unbroken-of s (flights_of t) duty first others legal) in
    (limits_of first others, subst (λ (x : Duty). read_duty s t duty x.key ≡ Ok (x, limits_of first others)) (sym is) whole)

-- the duties of a walk
pub record Walked (s : Settings) (t : Timetable) (duties : List Duty) (keys : List (List Leg)) (out : List Duty) : Type 0 where
  pub more : List Duty
  pub joined : out ≡ duties ++ more
  pub legal : Each (IsDuty s (flights_of t)) more
  pub keyed : map (λ d. d.key) more ≡ keys

pub walked : (s : Settings) (t : Timetable) (duties : List Duty) (limits : List Limits) (keys : List (List Leg)) (out : List Duty × List Limits) → IsSound t → read_after s t duties limits keys ≡ Ok out → Walked s t duties keys out.0
walked s t duties limits [] out sound e = record { more = []; joined = ap (λ (x : List Duty × List Limits). x.0) (sym (ok-same _ out e)) ∙ sym (append-nil duties); legal = tt; keyed = refl }
walked s t duties limits (key ∷ keys) out sound e =
    go (read_duty s t (length duties + 1) key) refl (λ d h. walked s t (duties ++ d.0 ∷ []) (limits ++ d.1 ∷ []) keys out sound h) e
  where
    go : (r : Result (Duty × Limits) Breach) → read_duty s t (length duties + 1) key ≡ r
        → ((d : Duty × Limits) → read_after s t (duties ++ d.0 ∷ []) (limits ++ d.1 ∷ []) keys ≡ Ok out → Walked s t (duties ++ d.0 ∷ []) keys out.0)
        → (r >>= (λ d. read_after s t (duties ++ d.0 ∷ []) (limits ++ d.1 ∷ []) keys)) ≡ Ok out → Walked s t duties (key ∷ keys) out.0
    go (Err b) g on h = no-ok _ _ h
    go (Ok d) g on h =
        let own = duty-legal s t (length duties + 1) key d sound g in
        let k = on d h in
        record {
          more = d.0 ∷ k.more;
          joined = k.joined ∙ append_assoc duties (d.0 ∷ []) k.more;
          legal = (own.0, k.legal);
          keyed = λ i. own.1 i ∷ k.keyed i;
        }

pub walk-read : (s : Settings) (t : Timetable) (duties more : List Duty) (limits : List Limits) → IsSound t → Each (IsDuty s (flights_of t)) more
    → (own : List Limits) × (read_after s t duties limits (map (λ d. d.key) more) ≡ Ok (duties ++ more, own))
walk-read s t duties [] limits sound k = (limits, ap (λ (ds : List Duty). Ok (ds, limits)) (sym (append-nil duties)))
walk-read s t duties (d ∷ more) limits sound k =
    let own = duty-read s t (length duties + 1) d sound k.0 in
    let rest = walk-read s t (duties ++ d ∷ []) more (limits ++ own.0 ∷ []) sound k.1 in (
      rest.0,
      ap (λ (r : Result (Duty × Limits) Breach). r >>= (λ x. read_after s t (duties ++ x.0 ∷ []) (limits ++ x.1 ∷ []) (map (λ (y : Duty). y.key) more))) own.1
          ∙ rest.1 ∙ ap (λ (ds : List Duty). Ok (ds, rest.0)) (append_assoc duties (d ∷ []) more),
    )
