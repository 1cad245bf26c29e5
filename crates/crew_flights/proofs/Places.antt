-- A flight that is held is one where it is placed, too.
use Rattle.std.proofs.Common.{◌≡◌, ◌≢◌, ℕ, true, List, Option, Some, None, refl, sym, ◌∙◌, ap}
use Rattle.std.specs.Prelude.{is_some}
use Rattle.std.specs.FinMap as map
use Rattle.crew_flights.specs.Codes.{is_airport, own_place}
use Rattle.crew_flights.specs.Places.{arrives_at, leaves_from, placed}
use Rattle.crew_flights.specs.Timetable.{IsFlight, IsSound, Timetable}
use Rattle.crew_flights.specs.declared.flight.Flight.{Flight}
use Rattle.crew_flights.proofs.Codes.{own_place_is_no_airport, own_places_apart}

-- an airport isn't the place between two flights
pub airport_is_no_own_place : (airport : List ℕ) (number : ℕ) → is_airport airport ≡ true → airport ≢ own_place number
airport_is_no_own_place airport number is same =
    let no = ap is_airport same ∙ own_place_is_no_airport number in
    cc

some_once : {X : Type 0} (a b : X) → Some a ≡ Some b → a ≡ b
some_once a b e = cc

-- a flight that follows another leaves from elsewhere than it arrives
ends_apart : (lead next : Option ℕ) (number : ℕ) (from to : List ℕ) → from ≢ to → is_airport from ≡ true → is_airport to ≡ true → ((before : ℕ) → lead ≡ Some before → before ≢ number)
    → leaves_from lead from ≢ arrives_at (is_some next) number to
ends_apart None None number from to apart leaves reaches other = apart
ends_apart None (Some after) number from to apart leaves reaches other = airport_is_no_own_place from number leaves
ends_apart (Some before) None number from to apart leaves reaches other = λ same. airport_is_no_own_place to before reaches (sym same)
ends_apart (Some before) (Some after) number from to apart leaves reaches other = λ same. other before refl (own_places_apart before number same)

pub placed_is_flight : (t : Timetable) (number : ℕ) (flight : Flight) → IsSound t → map.get t.flights number ≡ Some flight → IsFlight number (placed t flight)
placed_is_flight t number flight s held =
    let f = s.flights number flight held in
    let joins = s.airports number flight held in
    record {
      own = f.own;
      least_block = f.least_block;
      most_block = f.most_block;
      apart = ends_apart (map.get t.leads flight.id) (map.get t.follows flight.id) flight.id flight.from flight.to f.apart joins.leaves joins.reaches
          (λ before led. (s.follow_ons before flight.id (s.follows flight.id before led)).apart);
      least_price = f.least_price;
      most_price = f.most_price;
    }

-- ---- of a flight that another follows: the place between them is where no other flight arrives or leaves
module _ (t : Timetable) (s : IsSound t) (before after : ℕ) (follows : map.get t.follows before ≡ Some after) where
  reaches_link : (f : Flight) (next : Option ℕ) → is_airport f.to ≡ true → arrives_at (is_some next) f.id f.to ≡ own_place before → f.id ≡ before
  reaches_link f None is same = absurd (airport_is_no_own_place f.to before is same)
  reaches_link f (Some n) is same = own_places_apart f.id before same

  -- it arrives there, and no other does
  pub reaches_own_place : (f : Flight) → map.get t.flights f.id ≡ Some f → (placed t f).to ≡ own_place before → f.id ≡ before
  reaches_own_place f held = reaches_link f (map.get t.follows f.id) (s.airports f.id f held).reaches

  pub own_place_reached : (f : Flight) → f.id ≡ before → (placed t f).to ≡ own_place before
  own_place_reached f is =
      let there : map.get t.follows f.id ≡ Some after = ap (map.get t.follows) is ∙ follows in
      ap (λ next. arrives_at (is_some next) f.id f.to) there ∙ ap own_place is

  leaves_link : (g : Flight) (lead : Option ℕ) → map.get t.leads g.id ≡ lead → is_airport g.from ≡ true → leaves_from lead g.from ≡ own_place before → g.id ≡ after
  leaves_link g None led is same = absurd (airport_is_no_own_place g.from before is same)
  leaves_link g (Some n) led is same =
      let own : n ≡ before = own_places_apart n before same in
      let there : map.get t.follows before ≡ Some g.id = ap (map.get t.follows) (sym own) ∙ s.follows g.id n led in
      some_once g.id after (sym there ∙ follows)

  -- the one that follows leaves there, and no other does
  pub leaves_own_place : (g : Flight) → map.get t.flights g.id ≡ Some g → (placed t g).from ≡ own_place before → g.id ≡ after
  leaves_own_place g held = leaves_link g (map.get t.leads g.id) refl (s.airports g.id g held).leaves

  pub own_place_left : (g : Flight) → g.id ≡ after → (placed t g).from ≡ own_place before
  own_place_left g is =
      let there : map.get t.leads g.id ≡ Some before = ap (map.get t.leads) is ∙ s.leads before after follows in
      ap (λ lead. leaves_from lead g.from) there
