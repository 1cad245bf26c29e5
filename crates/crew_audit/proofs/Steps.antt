-- One step of the tree of partials.
use Rattle.std.proofs.Common.{◌≡◌, ◌≤◌, ◌<◌, ◌+◌, ◌-◌, ◌&&◌, ℕ, suc, ℤ, ◌≤ℤ◌, Bool, true, false, List, [], ◌∷◌, ◌++◌, length, refl, ap, sym, ◌∙◌, arith, append-nil, length-append, filter, inl, inr, if◌then◌else◌}
use Rattle.std.specs.List.{flat_map}
use Rattle.std.proofs.lemmas.Grind.{flat_map-append}
use Rattle.std.proofs.lemmas.Int.{ints}
use Rattle.crew_flights.specs.declared.flight.Flight.{Flight}
use Rattle.crew_rules.specs.declared.settings.Settings.{Settings}
use Rattle.crew_pairing.specs.Flights.{Flights}
use Rattle.crew_pairing.specs.Legality.{AllConnect, IsLegal, duty_of, last_of, may_follow, minutes_flown}
use Rattle.crew_pairing.specs.Machinery.Listing.{all_duties, below, from_flight, is_hopeless, listing, own, timed}
use Rattle.crew_flights.specs.Timetable.{IsFlight, Turns}
use Rattle.crew_resource.specs.Members.{Each, Member}
use Rattle.crew_pairing.specs.Machinery.Beginnings.{AreFlights, IsBeginning}
use Rattle.crew_pairing.specs.declared.duty.Duty.{Duty}
use Rattle.crew_pairing.specs.declared.leg.TimedLeg.{TimedLeg}
use Rattle.crew_pairing.proofs.Complete.{listing-sound}
use Rattle.crew_pairing.proofs.InList.{Member-either}
use Rattle.crew_pairing.proofs.Legal.{AllConnect-after, Each-after, known-sound, last_of-append}
use Rattle.crew_pairing.proofs.Sums.{total-append}
use Rattle.crew_pairing.proofs.Times.{AllSound, ends-later, flown-total, no-earlier}
use Rattle.crew_pairing.proofs.Tree.{Each-push, listing-at}
use Rattle.crew_audit.specs.Machinery.Leaving.{AreAmong}
use Rattle.crew_audit.specs.Machinery.Endings.{keeps_limits}
use Rattle.crew_audit.specs.Machinery.Listing.{after, begun_by, goes_on, keeps_totals, listed, may_join, with_next}
use Rattle.crew_audit.specs.Machinery.Ranges.{IsInRange}
use Rattle.crew_audit.specs.declared.partial.Partial.{Partial}
use Rattle.crew_audit.proofs.Chains.{caps-shorter}
use Rattle.crew_audit.proofs.Flat.{flat-filter, flat-flat, flat-none}
use Rattle.crew_audit.proofs.Leaving.{first-off, flat-among}

pub after-none : (s : Settings) (flights : Flights) (base : List ℕ) (price : ℤ) (before : List Duty) → after 0 s flights base price before ≡ []
unfolding after
after-none s flights base price before = refl

pub after-open : (room : ℕ) (s : Settings) (flights : Flights) (base : List ℕ) (price : ℤ) (before : List Duty)
    → after (suc room) s flights base price before ≡ flat_map (with_next room s flights base price before) (all_duties s flights)
unfolding after
after-open room s flights base price before = refl

-- no duty more
pub after-full : (most n : ℕ) (s : Settings) (flights : Flights) (base : List ℕ) (price : ℤ) (before : List Duty) → most ≤ n → after (most - n) s flights base price before ≡ []
after-full most n s flights base price before h = let none : most - n ≡ 0 = omega arith in rw none (after-none s flights base price before)

-- flight by flight
pub after-flights : (most n : ℕ) (s : Settings) (flights : Flights) (base : List ℕ) (price : ℤ) (before : List Duty) → n < most
    → after (most - n) s flights base price before ≡ flat_map (λ f. flat_map (with_next (most - (n + 1)) s flights base price before) (from_flight s flights f)) flights.list
after-flights most n s flights base price before h =
    let more : most - n ≡ suc (most - (n + 1)) = omega arith in
    rw more (after-open (most - (n + 1)) s flights base price before ∙ flat-flat (with_next (most - (n + 1)) s flights base price before) (from_flight s flights) flights.list)

-- a duty that doesn't go on, and one that does
off : {X : Type 0} (b : Bool) (xs : List X) → b ≡ false → (if b then xs else []) ≡ []
off true xs e = cc
off false xs e = refl

on : {X : Type 0} (b : Bool) (xs : List X) → b ≡ true → (if b then xs else []) ≡ xs
on true xs e = refl
on false xs e = cc

pub next-off : (room : ℕ) (s : Settings) (flights : Flights) (base : List ℕ) (price : ℤ) (before : List Duty) (d : Duty) → goes_on base s before d ≡ false → with_next room s flights base price before d ≡ []
next-off room s flights base price before d e = off (goes_on base s before d) _ e

pub next-on : (room : ℕ) (s : Settings) (flights : Flights) (base : List ℕ) (price : ℤ) (before : List Duty) (d : Duty) → goes_on base s before d ≡ true
    → with_next room s flights base price before d ≡ listed s base price (before ++ d ∷ []) ∷ after room s flights base price (before ++ d ∷ [])
next-on room s flights base price before d e = on (goes_on base s before d) _ e

pub begun-on : (room : ℕ) (s : Settings) (flights : Flights) (base : List ℕ) (price : ℤ) (duties : List Duty) → keeps_limits s duties ≡ true
    → begun_by room s flights base price duties ≡ listed s base price duties ∷ after room s flights base price duties
begun-on room s flights base price duties e = on (keeps_limits s duties) _ e

-- within the caps on totals the limits decide
both-then : (a b c : Bool) → a ≡ true → b ≡ true → (a && (b && c)) ≡ c
both-then true true c e f = refl
both-then false b c e f = cc
both-then true false c e f = cc

next-begun : (room : ℕ) (s : Settings) (flights : Flights) (base : List ℕ) (price : ℤ) (before : List Duty) (d : Duty) → may_join base s before d ≡ true → keeps_totals s (before ++ d ∷ []) ≡ true
    → with_next room s flights base price before d ≡ begun_by room s flights base price (before ++ d ∷ [])
next-begun room s flights base price before d joins caps =
    ap (λ (b : Bool). if b then listed s base price (before ++ d ∷ []) ∷ after room s flights base price (before ++ d ∷ []) else [])
    (both-then (may_join base s before d) (keeps_totals s (before ++ d ∷ [])) (keeps_limits s (before ++ d ∷ [])) joins caps)

-- whether a duty may stand next depends on its first flight alone
pub join-legs : (base : List ℕ) (s : Settings) (before : List Duty) (first : TimedLeg) (xs ys : List TimedLeg) → may_join base s before (duty_of s first xs) ≡ may_join base s before (duty_of s first ys)
join-legs base s [] first xs ys = refl
join-legs base s (d ∷ before) first xs ys = refl

pub join-flight : (base : List ℕ) (s : Settings) (before : List Duty) (a b : Bool) (f : Flight) (xs ys : List TimedLeg)
    → may_join base s before (duty_of s (timed a f) xs) ≡ may_join base s before (duty_of s (timed b f) ys)
join-flight base s [] a b f xs ys = refl
join-flight base s (d ∷ before) a b f xs ys = refl

second-off : (a b : Bool) → b ≡ false → a && b ≡ false
second-off true b e = e
second-off false b e = refl

is-off : (b : Bool) → (b ≡ true → ⊥) → b ≡ false
is-off true h = absurd (h refl)
is-off false h = refl

-- a flight that doesn't leave where and when it must
pub not-joined : (room : ℕ) (s : Settings) (flights : Flights) (base : List ℕ) (price : ℤ) (before : List Duty) (f : Flight) → Member flights.list f
    → may_join base s before (duty_of s (timed false f) []) ≡ false → flat_map (with_next room s flights base price before) (from_flight s flights f) ≡ []
not-joined room s flights base price before f known e =
    flat-none (with_next room s flights base price before) (from_flight s flights f) (λ d m.
    elim (Member-either (listing 8 s flights (timed false f) []) (listing 8 s flights (timed true f) []) d m) [
      | inl h ↦ let on = listing-sound 8 s flights (timed false f) [] d (record { known = (known, tt); connected = tt }) refl h in none d false on.0 on.2
      | inr h ↦ let on = listing-sound 8 s flights (timed true f) [] d (record { known = (known, tt); connected = tt }) refl h in none d true on.0 on.2
    ])
  where
    none : (d : Duty) (dead : Bool) (more : List TimedLeg) → d ≡ duty_of s (timed dead f) more → with_next room s flights base price before d ≡ []
    none d dead more is =
        let joins : may_join base s before d ≡ false = ap (may_join base s before) is ∙ join-flight base s before dead false f more [] ∙ e in
        next-off room s flights base price before d (first-off (may_join base s before d) (keeps_totals s (before ++ d ∷ []) && keeps_limits s (before ++ d ∷ [])) joins)

-- legs that pass a cap already
last-later : (s : Settings) (turns : Turns) (last : TimedLeg) (more : List TimedLeg) → AllSound more → AllConnect s turns last more → last.flight.arr ≤ℤ (last_of last more).flight.arr
last-later s turns last [] sound linked = omega (arith, ints)
last-later s turns last (next ∷ more) sound linked =
    omega (arith, ints, no-earlier s turns last.flight next.flight linked.0, ends-later s turns next more sound linked.1, sound.0.least_block)

shorter : (s : Settings) (flights : Flights) (before : List Duty) (first : TimedLeg) (others more : List TimedLeg) → AreFlights flights → IsLegal s flights first (others ++ more)
    → keeps_totals s (before ++ duty_of s first (others ++ more) ∷ []) ≡ true → keeps_totals s (before ++ duty_of s first others ∷ []) ≡ true
shorter s flights before first others more f legal h =
    let sound = known-sound flights (first ∷ (others ++ more)) f legal.known in
    let later = Each-after (λ (l : TimedLeg). IsFlight l.flight.id l.flight) (first ∷ others) more sound in
    let end = last-later s flights.turns (last_of first others) more later (AllConnect-after s flights.turns first others more legal.connected) in
    let same = ap (λ (l : TimedLeg). l.flight.arr) (last_of-append first others more) in
    let time = total-append minutes_flown (first ∷ others) more in
    let rest = flown-total more later in
    caps-shorter s before (duty_of s first others) (duty_of s first (others ++ more)) (omega (arith, ints, end, same)) (omega (arith, ints, time, rest)) (omega (arith, ints, end, same)) refl h

pub not-within : (room legs : ℕ) (s : Settings) (flights : Flights) (base : List ℕ) (price : ℤ) (before : List Duty) (first : TimedLeg) (others : List TimedLeg) → AreFlights flights
    → IsBeginning s flights first others → legs + length others ≡ 8 → keeps_totals s (before ++ duty_of s first others ∷ []) ≡ false
    → flat_map (with_next room s flights base price before) (listing legs s flights first others) ≡ []
not-within room legs s flights base price before first others f begin fits e =
    flat-none (with_next room s flights base price before) (listing legs s flights first others) (λ d m. let on = listing-sound legs s flights first others d begin fits m in none d on.0 on.1 on.2)
  where
    none : (d : Duty) (more : List TimedLeg) → IsLegal s flights first (others ++ more) → d ≡ duty_of s first (others ++ more) → with_next room s flights base price before d ≡ []
    none d more legal is =
        let caps : keeps_totals s (before ++ duty_of s first (others ++ more) ∷ []) ≡ false =
        is-off _ (λ h. let now = shorter s flights before first others more f legal h in cc) in
        let same : keeps_totals s (before ++ d ∷ []) ≡ false = ap (λ (x : Duty). keeps_totals s (before ++ x ∷ [])) is ∙ caps in
        next-off room s flights base price before d (second-off (may_join base s before d) (keeps_totals s (before ++ d ∷ []) && keeps_limits s (before ++ d ∷ [])) (first-off (keeps_totals s (before ++ d ∷ [])) (keeps_limits s (before ++ d ∷ [])) same))

-- the legs' own duty, where it is one
pub own-on : (room : ℕ) (s : Settings) (flights : Flights) (base : List ℕ) (price : ℤ) (before : List Duty) (first : TimedLeg) (others : List TimedLeg)
    → may_join base s before (duty_of s first others) ≡ true → keeps_totals s (before ++ duty_of s first others ∷ []) ≡ true
    → flat_map (with_next room s flights base price before) (own s first others)
    ≡ (if (last_of first others).deadhead then [] else begun_by room s flights base price (before ++ duty_of s first others ∷ []))
own-on room s flights base price before first others joins caps = by (last_of first others).deadhead
  where
    by : (dead : Bool) → flat_map (with_next room s flights base price before) (if dead then [] else duty_of s first others ∷ [])
        ≡ (if dead then [] else begun_by room s flights base price (before ++ duty_of s first others ∷ []))
    by true = refl
    by false =
        append-nil (with_next room s flights base price before (duty_of s first others))
        ∙ next-begun room s flights base price before (duty_of s first others) joins caps

-- what goes on with a flight, if it may
abbrev pub onward : ℕ → Settings → Flights → List ℕ → ℤ → List Duty → TimedLeg → List TimedLeg → Flight → List Partial
onward room s flights base price before first others g =
    if may_follow s flights.turns (last_of first others).flight g then flat_map (with_next room s flights base price before) (below (7 - length others) s flights first others g) else []

-- leg by leg: the legs' own duty, and then flight by flight
pub legs-open : (room : ℕ) (s : Settings) (flights : Flights) (base : List ℕ) (price : ℤ) (before : List Duty) (first : TimedLeg) (others : List TimedLeg) → length others < 8
    → is_hopeless s first others ≡ false → may_join base s before (duty_of s first others) ≡ true → keeps_totals s (before ++ duty_of s first others ∷ []) ≡ true
    → flat_map (with_next room s flights base price before) (listing (8 - length others) s flights first others)
    ≡ (if (last_of first others).deadhead then [] else begun_by room s flights base price (before ++ duty_of s first others ∷ []))
    ++ flat_map (onward room s flights base price before first others) flights.list
legs-open room s flights base price before first others few hope joins caps =
    let W = with_next room s flights base price before in
    let B = below (7 - length others) s flights first others in
    let p = may_follow s flights.turns (last_of first others).flight in
    ap (flat_map W) (listing-at s flights first others few hope)
    ∙ flat_map-append W (own s first others) (flat_map B (filter p flights.list))
    ∙ ap (λ (t : List Partial). t ++ flat_map W (flat_map B (filter p flights.list))) (own-on room s flights base price before first others joins caps)
    ∙ ap (λ (t : List Partial). (if (last_of first others).deadhead then [] else begun_by room s flights base price (before ++ duty_of s first others ∷ [])) ++ t)
    (flat-flat W B (filter p flights.list) ∙ flat-filter (λ (g : Flight). flat_map W (B g)) p flights.list)

pub onward-on : (room : ℕ) (s : Settings) (flights : Flights) (base : List ℕ) (price : ℤ) (before : List Duty) (first : TimedLeg) (others : List TimedLeg) (g : Flight)
    → may_follow s flights.turns (last_of first others).flight g ≡ true → onward room s flights base price before first others g ≡ flat_map (with_next room s flights base price before) (below (7 - length others) s flights first others g)
onward-on room s flights base price before first others g e = on (may_follow s flights.turns (last_of first others).flight g) _ e

pub onward-off : (room : ℕ) (s : Settings) (flights : Flights) (base : List ℕ) (price : ℤ) (before : List Duty) (first : TimedLeg) (others : List TimedLeg) (g : Flight)
    → may_follow s flights.turns (last_of first others).flight g ≡ false → onward room s flights base price before first others g ≡ []
onward-off room s flights base price before first others g e = off (may_follow s flights.turns (last_of first others).flight g) _ e

-- what is listed of the legs' own duty, as the code has it
pub own-listed : (room : ℕ) (s : Settings) (flights : Flights) (base : List ℕ) (price : ℤ) (before : List Duty) (d : Duty) (longer : List Duty) (last end : TimedLeg) → longer ≡ before ++ d ∷ [] → last ≡ end
    → (if last.deadhead then [] else begun_by (s.max_duties - length longer) s flights base price longer)
    ≡ (if end.deadhead then [] else begun_by (s.max_duties - (length before + 1)) s flights base price (before ++ d ∷ []))
own-listed room s flights base price before d longer last end e l =
    let long : s.max_duties - length (before ++ d ∷ []) ≡ s.max_duties - (length before + 1) = ap (λ (n : ℕ). s.max_duties - n) (length-append before (d ∷ [])) in
    ap (λ (x : TimedLeg). if x.deadhead then [] else begun_by (s.max_duties - length longer) s flights base price longer) l
    ∙ ap (λ (ds : List Duty). if end.deadhead then [] else begun_by (s.max_duties - length ds) s flights base price ds) e
    ∙ ap (λ (n : ℕ). if end.deadhead then [] else begun_by n s flights base price (before ++ d ∷ [])) long

-- more than so many in the first of two lists
pub more-than : (n m : ℕ) (mine own rest : List Partial) → mine ≡ own → n < m + length mine → n < m + length (own ++ rest)
more-than n m mine own rest e h = omega (arith, h, ap length e, length-append own rest)

-- one duty more, as the code has them
pub longer-few : (before longer : List Duty) (d : Duty) (most : ℕ) → longer ≡ before ++ d ∷ [] → length before < most → length longer ≤ most
longer-few before longer d most e h = omega (arith, h, ap length e, length-append before (d ∷ []))

pub longer-ranges : (before longer : List Duty) (d : Duty) → longer ≡ before ++ d ∷ [] → Each IsInRange before → IsInRange d → Each IsInRange longer
longer-ranges before longer d e ranges range = rw e (Each-push IsInRange before d ranges range)

-- flight by flight of those that may begin the next duty
pub after-near : (n : ℕ) (s : Settings) (flights : Flights) (base : List ℕ) (price : ℤ) (before : List Duty) (near : List Flight)
    → AreAmong (λ f. may_join base s before (duty_of s (timed false f) [])) flights.list near
    → flat_map (λ f. flat_map (with_next n s flights base price before) (from_flight s flights f)) near
    ≡ flat_map (λ f. flat_map (with_next n s flights base price before) (from_flight s flights f)) flights.list
after-near n s flights base price before near i =
    flat-among (λ f. may_join base s before (duty_of s (timed false f) [])) (λ f. flat_map (with_next n s flights base price before) (from_flight s flights f)) flights.list near i
    (λ f known e. not-joined n s flights base price before f known e)

-- flight by flight of those that may come next
pub legs-near : (room : ℕ) (s : Settings) (flights : Flights) (base : List ℕ) (price : ℤ) (before : List Duty) (first : TimedLeg) (others : List TimedLeg) (last : TimedLeg) (near : List Flight)
    → last ≡ last_of first others → AreAmong (may_follow s flights.turns last.flight) flights.list near
    → flat_map (onward room s flights base price before first others) near ≡ flat_map (onward room s flights base price before first others) flights.list
legs-near room s flights base price before first others last near is i =
    flat-among (may_follow s flights.turns last.flight) (onward room s flights base price before first others) flights.list near i
    (λ f known e. onward-off room s flights base price before first others f (ap (λ (l : TimedLeg). may_follow s flights.turns l.flight f) (sym is) ∙ e))
