use Rattle.std.proofs.Common.{rules}
use Rattle.std.specs.FinMap as map
use Rattle.std.proofs.lemmas.Iterator.{YieldsList-from_map, items_from_collect}
use Rattle.std.proofs.lemmas.Iterator.Consumers.{YieldsList-from_rest, YieldsList-at}
use Rattle.crew_flights.specs.Places.{placed}
use Rattle.crew_flights.proofs.timetable.Timetable.placed_flights.Goals as goal

pub returns-clause-held : goal.returns-clause-held
returns-clause-held c =
    items_from_collect c.collect.result c.collect.ensures.ran
    (YieldsList-from_map _ (placed c.args.self.now) (YieldsList-at c.map.ensures.source (YieldsList-from_rest (map.values c.args.self.now.flights) c.flights.ensures.held)) c.map.ensures.closure (λ x r q k. search rules))
