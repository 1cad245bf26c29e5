-- What is known of a path, and of one with a leg more.
use Rattle.std.proofs.Common.{◌≡◌, ◌<◌, ◌+◌, ℕ, Bool, false, List, [], ◌∷◌, ◌++◌, Some, length, length-append, ap, sym, ◌∙◌, arith}
use Rattle.std.specs.Prelude.{slice_get}
use Rattle.std.proofs.lemmas.List.{length-map, map-append}
use Rattle.crew_flights.specs.declared.flight.Flight.{Flight}
use Rattle.crew_rules.specs.declared.settings.Settings.{Settings}
use Rattle.crew_pairing.specs.Flights.{Flights}
use Rattle.crew_pairing.specs.Legality.{leg_of}
use Rattle.crew_pairing.specs.Legs.{Leg}
use Rattle.crew_pairing.specs.Machinery.Beginnings.{AreFlights}
use Rattle.crew_pairing.specs.Machinery.Listing.{is_hopeless, timed}
use Rattle.crew_pairing.specs.declared.leg.TimedLeg.{TimedLeg}
use Rattle.crew_pairing.proofs.Sums.{last_of-push}
use Rattle.crew_pairing.proofs.Times.{AllSound}
use Rattle.crew_pairing.proofs.Tree.{IsBeginning-more, slice_get-Member}
use Rattle.crew_duty.specs.Machinery.Paths.{EndsAt, GoesOn, IsPath}
use Rattle.crew_duty.specs.Machinery.Running.{AreTotals}
use Rattle.crew_duty.specs.declared.totals.Totals.{Totals}
use Rattle.crew_duty.proofs.Running.{sound-legs}

pub path-sound : {s : Settings} {flights : Flights} {first : TimedLeg} {others : List TimedLeg} {key : List Leg} {totals : Totals} → AreFlights flights → IsPath s flights first others key totals → AllSound (first ∷ others)
path-sound {s} {flights} {first} {others} are path = sound-legs flights.list (first ∷ others) are.each path.beginning.known

pub path-length : {s : Settings} {flights : Flights} {first : TimedLeg} {others : List TimedLeg} {key : List Leg} {totals : Totals} → IsPath s flights first others key totals → length key ≡ length others + 1
path-length {s} {flights} {first} {others} path = omega (arith, ap length path.is_key, length-map (first ∷ others) leg_of)

-- the path of a first leg alone
pub path-one : (s : Settings) (flights : Flights) (dead : Bool) (g : Flight) (place : ℕ) (key : List Leg) (totals : Totals) → slice_get flights.list place ≡ Some g → is_hopeless s (timed dead g) [] ≡ false → key ≡ leg_of (timed dead g) ∷ []
    → AreTotals (timed dead g ∷ []) totals → IsPath s flights (timed dead g) [] key totals
path-one s flights dead g place key totals at hope is come = record {
  few = omega arith;
  beginning = record { known = (slice_get-Member flights.list place g at, tt); connected = tt };
  hope = hope;
  is_key = is;
  are_totals = come;
}

-- one leg more
pub path-longer : (s : Settings) (flights : Flights) (first : TimedLeg) (others : List TimedLeg) (key : List Leg) (totals : Totals) (place : ℕ) (g : Flight) (dead : Bool) (more : List Leg) (longer : Totals)
    → IsPath s flights first others key totals → GoesOn s flights first others place g → length others < 7 → is_hopeless s first (others ++ timed dead g ∷ []) ≡ false → more ≡ key ++ leg_of (timed dead g) ∷ []
    → AreTotals (first ∷ (others ++ timed dead g ∷ [])) longer → IsPath s flights first (others ++ timed dead g ∷ []) more longer
path-longer s flights first others key totals place g dead more longer path goes few hope is come = record {
  few = omega (arith, few, length-append others (timed dead g ∷ []));
  beginning = IsBeginning-more s flights first others dead g path.beginning goes.follows (slice_get-Member flights.list place g goes.flight);
  hope = hope;
  is_key = is ∙ ap (λ (k : List Leg). k ++ leg_of (timed dead g) ∷ []) path.is_key ∙ sym (map-append leg_of (first ∷ others) (timed dead g ∷ []));
  are_totals = come;
}

pub ends-longer : (flights : List Flight) (first : TimedLeg) (others : List TimedLeg) (place : ℕ) (g : Flight) (dead : Bool) → slice_get flights place ≡ Some g → EndsAt flights first (others ++ timed dead g ∷ []) place dead
ends-longer flights first others place g dead at =
    let last = last_of-push first others (timed dead g) in record {
      flight = rw last at;
      is_ridden = sym (ap (λ (l : TimedLeg). l.deadhead) last);
    }
