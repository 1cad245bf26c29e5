use Rattle.std.proofs.Common.{rules}
use Rattle.crew_flights.proofs.timetable.Timetable.refusal.Goals as goal

pub returns-in-AddFlight-clause-first : goal.returns-in-AddFlight-clause-first
returns-in-AddFlight-clause-first c = search rules
