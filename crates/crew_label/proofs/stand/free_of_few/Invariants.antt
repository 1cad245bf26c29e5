use Rattle.std.proofs.Common.{◌≡◌, not, take}
use Rattle.std.specs.List.{filter, list_any}
use Rattle.crew_label.specs.Machinery.Rules.{same_by}
use Rattle.crew_label.specs.Pools.{stands_label}
use Rattle.crew_label.proofs.stand.free_of_few.Given as goal

abbrev pub invariant-loop-seen : goal.invariant-loop-seen
invariant-loop-seen g l =
    l.free.items
    ≡ filter (λ m. not (list_any (λ s. stands_label g.R.Resource.below (same_by g.R.Resource.below g.R.Forgets.same_sums l.rule) (g.T.Trails.trail l.trails) s.label.now m.label.now) l.others))
    (take l.seen-index l.list)
