-- What is held of a timetable while its duties are listed.
use Rattle.std.specs.Prelude.{List}
use Rattle.crew_flights.specs.Timetable.{Turns}
use Rattle.crew_flights.specs.declared.flight.Flight.{Flight}
use Rattle.crew_pairing.specs.Flights.{Flights}
use Rattle.crew_duty.specs.declared.plan.Plan.{Plan}

-- flights, with turns between them
abbrev pub over : List Flight → Turns → Flights
over list turns = record { list = list; turns = turns }

-- those that the search works with
abbrev pub held : Plan → Flights
held plan = over plan.flights.now plan.turns.now
