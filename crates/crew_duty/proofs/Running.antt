-- The sums of one leg more, and their bounds.
use Rattle.std.proofs.Common.{not, ◌≡◌, ◌≤◌, ◌+◌, ◌*◌, ℤ, pos, negsuc, ◌-ℤ◌, ◌≤ℤ◌, List, [], ◌∷◌, ◌++◌, Bool, true, false, length, arith, cond, if◌then◌else◌}
use Rattle.std.specs.List.{count_by}
use Rattle.std.proofs.lemmas.Int.{ints}
use Rattle.std.proofs.lemmas.List.Sums.{count_by-le-length, sum_by-cons}
use Rattle.crew_flights.specs.Timetable.{IsFlight}
use Rattle.crew_flights.specs.declared.flight.Flight.{Flight}
use Rattle.crew_pairing.specs.Legality.{price_of, segments, total}
use Rattle.crew_resource.specs.Members.{Each, Member}
use Rattle.crew_duty.specs.Machinery.Running.{AreTotals, StayBounded}
use Rattle.crew_pairing.specs.declared.leg.TimedLeg.{TimedLeg}
use Rattle.crew_duty.specs.declared.totals.Totals.{Totals}
use Rattle.crew_pairing.proofs.Times.{AllSound, flown-total}
use Rattle.crew_pairing.proofs.Tree.{Each-map, Each-member}

-- a count over one element more
count_by-push : {X : Type 0} (p : X → Bool) (xs : List X) (x : X) → count_by p (xs ++ x ∷ []) ≡ count_by p xs + cond (p x) 1 0
count_by-push p [] x = omega (arith, sum_by-cons (λ y. cond (p y) 1 0) x [])
count_by-push p (y ∷ xs) x =
    omega (arith, sum_by-cons (λ z. cond (p z) 1 0) y (xs ++ x ∷ []), sum_by-cons (λ z. cond (p z) 1 0) y xs, count_by-push p xs x)

pub counted : {X : Type 0} (p : X → Bool) (xs : List X) (x : X) → p x ≡ true → count_by p (xs ++ x ∷ []) ≡ count_by p xs + 1
counted p xs x e = rw e at (count_by-push p xs x)

pub not-counted : {X : Type 0} (p : X → Bool) (xs : List X) (x : X) → p x ≡ false → count_by p (xs ++ x ∷ []) ≡ count_by p xs
not-counted p xs x e = omega (arith, rw e at (count_by-push p xs x))

-- prices lie within a billion each
priced-by : (b : Bool) (z : ℤ) → negsuc 999_999_999 ≤ℤ z → z ≤ℤ pos 1_000_000_000
    → (negsuc 999_999_999 ≤ℤ (if b then pos 0 else z)) × ((if b then pos 0 else z) ≤ℤ pos 1_000_000_000)
priced-by true z h k = (omega (arith, ints), omega (arith, ints))
priced-by false z h k = (h, k)

pub priced-total : (legs : List TimedLeg) → AllSound legs → ((pos 0 -ℤ pos (1_000_000_000 * length legs)) ≤ℤ total price_of legs) × (total price_of legs ≤ℤ pos (1_000_000_000 * length legs))
priced-total [] sound = (omega (arith, ints), omega (arith, ints))
priced-total (l ∷ legs) sound =
    let one = priced-by l.deadhead l.flight.price (omega (arith, ints, sound.0.least_price)) sound.0.most_price in
    (omega (arith, ints, one, priced-total legs sound.1), omega (arith, ints, one, priced-total legs sound.1))

-- the sums of up to eight legs leave room for one more
pub bounded : (legs : List TimedLeg) (totals : Totals) → AreTotals legs totals → length legs ≤ 8 → AllSound legs → StayBounded totals
bounded legs totals are few sound =
    let flown = flown-total legs sound in
    let priced = priced-total legs sound in
    record {
      deadheads = omega (arith, are.deadheads, count_by-le-length (λ (l : TimedLeg). l.deadhead) legs);
      segments = omega (arith, are.segments, count_by-le-length (λ (l : TimedLeg). not l.deadhead) legs);
      least_fly = omega (arith, ints, are.fly, flown);
      most_fly = omega (arith, ints, are.fly, flown, few);
      least_price = omega (arith, ints, are.price, priced, few);
      most_price = omega (arith, ints, are.price, priced, few);
    }

-- legs of the flights of a timetable are sound
pub sound-legs : (flights : List Flight) (legs : List TimedLeg) → Each (λ (f : Flight). IsFlight f.id f) flights → Each (λ (l : TimedLeg). Member flights l.flight) legs → AllSound legs
sound-legs flights legs each known =
    Each-map (λ (l : TimedLeg). Member flights l.flight) (λ (l : TimedLeg). IsFlight l.flight.id l.flight) legs (λ l m. Each-member (λ (f : Flight). IsFlight f.id f) flights l.flight each m) known

-- one leg more is no fewer flight segments
pub segments-more : (legs : List TimedLeg) (l : TimedLeg) → segments legs ≤ segments (legs ++ l ∷ [])
segments-more legs l = omega (arith, count_by-push (λ (x : TimedLeg). not x.deadhead) legs l)
