use Rattle.crew_version.proofs.SameTimetable.{flight-decides}
use Rattle.crew_version.proofs.entry.is_same_flight.Goals as goal

pub returns : goal.returns
returns c = rw (← c.eq.ensures) at (flight-decides c.args.one.now c.args.other.now)
