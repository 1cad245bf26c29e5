use Rattle.std.proofs.Common.{length}
use Rattle.crew_round.proofs.Places.{few-nodes}
use Rattle.crew_round.proofs.marking.kept_nodes.Goals as goal

pub returns-clause-few : goal.returns-clause-few
returns-clause-few c = few-nodes (length c.args.net.now.bases) (length c.args.net.now.duties) c.base_count-bases.ensures.few c.duty_count-count.ensures.few
