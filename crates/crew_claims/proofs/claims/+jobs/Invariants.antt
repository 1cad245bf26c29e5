use Rattle.std.proofs.Common.{◌+◌, ◌*◌, length}
use Rattle.crew_claims.proofs.claims.+jobs.Given as goal

abbrev pub decreases-start_each : goal.decreases-start_each
decreases-start_each g l = 2 * length l.jobs.items

abbrev pub decreases-rest : goal.decreases-rest
decreases-rest g l = 2 * length l.jobs.items + 1
