use Rattle.std.proofs.Common.{List, take, ◌++◌}
use Rattle.std.specs.List.{flat_map}
use Rattle.crew_pairing.specs.Legs.{Leg}
use Rattle.crew_pairing.specs.Local.{IsLocalOf}
use Rattle.crew_step.specs.Machinery.Candidates.{extension}
use Rattle.crew_step.proofs.offers.offer_extensions.Given as goal

abbrev pub invariant-loop-entry : goal.invariant-loop-entry
invariant-loop-entry g l =
    (candidates : List (g.row.R-Value.Denot × List (List Leg))) → IsLocalOf g.R.Resource.below candidates l.fn.front
    → IsLocalOf g.R.Resource.below (candidates ++ flat_map (extension (g.R.Resource.extends l.resource) l.last l.next) (take l.entry-index l.entries)) l.front
