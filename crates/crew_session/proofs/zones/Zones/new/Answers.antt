use Rattle.crew_flights.specs.Codes.{code_cmp}
use Rattle.crew_flights.proofs.Maps.{seen_empty}
use Rattle.crew_session.proofs.zones.Zones.new.Goals as goal

pub returns : goal.returns
returns c = seen_empty code_cmp c.new.result.entries c.new.ensures.empty
