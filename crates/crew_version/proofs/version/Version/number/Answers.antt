use Rattle.std.proofs.Common.{subst}
use Rattle.crew_version.specs.Versions.{IsRight}
use Rattle.crew_version.proofs.SolutionFacts.{best-right}
use Rattle.crew_version.proofs.version.Version.number.Goals as goal

pub returns-clause-right : goal.returns-clause-right
returns-clause-right c = subst IsRight c.self.view_is (record { few = c.self.invariant.few; least = best-right _ _ _ c.self.invariant.solved })
