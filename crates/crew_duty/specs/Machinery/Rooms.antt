-- Room for the duties that begin with a flight.
use Rattle.std.specs.Prelude.{◌≡◌, ◌≤◌, ◌<◌, List, length}
use Rattle.crew_rules.specs.declared.settings.Settings.{Settings}
use Rattle.crew_pairing.specs.Flights.{Flights}
use Rattle.crew_pairing.specs.Machinery.Listing.{from_place}
use Rattle.crew_duty.specs.declared.rooms.Room.{Room}

-- a room is for as many duties as begin with its flight, which are no more than may be listed
pub record IsRoom (s : Settings) (flights : Flights) (room : Room) : Type 0 where
  pub place : room.place < length flights.list
  pub count : room.count ≡ length (from_place s flights room.place)
  pub few : room.count ≤ 200_000
