use Rattle.std.proofs.lemmas.List.{get_or-replicate}
use Rattle.crew_flights.proofs.entries.Folding.new.Goals as goal

pub returns : goal.returns
returns c = record { timetable = c.new.ensures; turns = λ seat below. get_or-replicate 256 seat 0 0 below }
