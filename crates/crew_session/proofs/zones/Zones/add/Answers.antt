use Rattle.std.specs.FinMap as map
use Rattle.crew_flights.specs.Codes.{code_cmp, code_cmp_total}
use Rattle.crew_flights.proofs.Maps.{seen_insert}
use Rattle.crew_session.proofs.zones.Zones.add.Goals as goal

pub returns-clause-ok : goal.returns-clause-ok
returns-clause-ok c =
    seen_insert code_cmp code_cmp_total (map.slice_cmp-IsAntisymmetric map.nat_cmp-IsAntisymmetric) c.args.self.now.by_code.entries c.insert.new.self.entries c.args.code c.args.zone c.args.self.now.ordered c.in_ok-insert.ensures.ordered
    c.in_ok-insert.ensures.updates.0
