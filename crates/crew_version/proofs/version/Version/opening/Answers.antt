use Rattle.std.proofs.Common.{refl}
use Rattle.crew_version.proofs.OpeningFacts.{no-duties-at-start}
use Rattle.crew_version.proofs.version.Version.opening.Goals as goal

pub invariant_of-result : goal.invariant_of-result
invariant_of-result c = rw c.blank.ensures (record { checked = c.requires; few = no-duties-at-start c.args.settings.now; solved = refl })
