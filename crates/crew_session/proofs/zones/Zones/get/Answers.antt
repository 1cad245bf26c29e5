use Rattle.std.proofs.Common.{◌∙◌, sym}
use Rattle.crew_flights.specs.Codes.{code_cmp}
use Rattle.crew_flights.proofs.Maps.{get_seen}
use Rattle.crew_session.proofs.zones.Zones.get.Goals as goal

pub returns : goal.returns
returns c = c.get.ensures.value ∙ sym (get_seen code_cmp _ _ c.args.self.now.ordered)
