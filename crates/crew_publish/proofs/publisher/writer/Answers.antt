use Rattle.std.proofs.Common.{refl, true}
use Rattle.std.specs.Arc.{arc_value}
use Rattle.crew_publish.proofs.Moves.{begins}
use Rattle.crew_publish.proofs.publisher.writer.Goals as goal

pub new-requires-clause-rule : goal.new-requires-clause-rule
new-requires-clause-rule g c = begins (arc_value c.args.first) (record { version = c.args.first; opening = true }) refl
