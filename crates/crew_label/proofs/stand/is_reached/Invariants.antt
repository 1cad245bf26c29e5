use Rattle.std.proofs.Common.{◌≡◌, false, take}
use Rattle.std.specs.List.{list_any}
use Rattle.crew_label.specs.Machinery.Rules.{same_by}
use Rattle.crew_label.specs.Pools.{stands_label}
use Rattle.crew_label.proofs.stand.is_reached.Given as goal

abbrev pub invariant-loop-held : goal.invariant-loop-held
invariant-loop-held g l =
    list_any (λ s. stands_label g.R.Resource.below (same_by g.R.Resource.below g.R.Forgets.same_sums l.rule) (g.T.Trails.trail l.trails) s.label.now l.label)
    (take l.held-index l.others)
    ≡ false
