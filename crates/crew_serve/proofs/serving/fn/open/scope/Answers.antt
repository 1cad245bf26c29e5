use Rattle.crew_serve.proofs.Crossing.{with_booths}
use Rattle.crew_serve.proofs.serving.fn.open.scope.Goals as goal

pub spawn-requires-in-loop-booth-send-F : goal.spawn-requires-in-loop-booth-send-F
spawn-requires-in-loop-booth-send-F g c κs within = search with_booths depth 60 fits 60000
