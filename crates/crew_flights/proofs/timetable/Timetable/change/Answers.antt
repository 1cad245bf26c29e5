use Rattle.std.proofs.Common.{rules}
use Rattle.crew_flights.proofs.timetable.Timetable.change.Goals as goal

pub put_flight-requires-in-Some : goal.put_flight-requires-in-Some
put_flight-requires-in-Some c = search rules

pub returns-in-Cancel-clause-ok : goal.returns-in-Cancel-clause-ok
returns-in-Cancel-clause-ok c = search rules

pub returns-in-Some-clause-ok : goal.returns-in-Some-clause-ok
returns-in-Some-clause-ok c = search rules
