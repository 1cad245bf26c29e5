use Rattle.crew_publish.proofs.Crossing.{with_viewers}
use Rattle.service_example.proofs.fn.play.scope.Goals as goal

pub spawn-first-requires-send-F : goal.spawn-first-requires-send-F
spawn-first-requires-send-F g c κs within = search with_viewers depth 40 fits 30000

pub spawn-second-requires-send-F : goal.spawn-second-requires-send-F
spawn-second-requires-send-F g c κs within = search with_viewers depth 40 fits 30000
