-- The resource of a base's pairings by their seven sums.
use Rattle.std.specs.Prelude.{ℤ}
use Rattle.crew_anchor.specs.Stages.{anchored_resource}
use Rattle.crew_rules.specs.declared.settings.Settings.{Settings}
use Rattle.crew_sums.specs.declared.resource.SumsResource.{SumsResource}

abbrev pub sums_resource : Settings → ℤ → SumsResource
sums_resource s base_price = record { anchored = anchored_resource s base_price }
