use Rattle.std.proofs.Common.{List, map}
use Rattle.crew_label.specs.declared.label.Label.{Label}
use Rattle.crew_labelling.specs.Labellings.{labelling_of}
use Rattle.crew_resource.specs.Members.{Member}
use Rattle.crew_pass.specs.Machinery.Shelves.{AreKnown}
use Rattle.crew_pass.specs.Machinery.Terms.{labels_table, leaving_of, terms}
use Rattle.crew_pass.proofs.Arriving.{CollectedSo}
use Rattle.crew_pass.proofs.arrivals.gathered_pool.Given as goal

-- the fronts so far are collected
abbrev pub invariant-loop-rank : goal.invariant-loop-rank
invariant-loop-rank g l =
    CollectedSo (terms g.R.Value.Ord.cmp g.R.Lapses g.R.Staged g.R.Forgets g.R.Resource l.ground) (labels_table (terms g.R.Value.Ord.cmp g.R.Lapses g.R.Staged g.R.Forgets g.R.Resource l.ground))
    (labelling_of (terms g.R.Value.Ord.cmp g.R.Lapses g.R.Staged g.R.Forgets g.R.Resource l.ground)).fronts l.rank-items l.rank-index (map (λ p. p.now) l.pools.items)
    × ((labels : List (Label g.row.R-Value.Denot)) → Member (map (λ p. p.now) l.pools.items) labels → AreKnown (leaving_of l.ground) l.seen.departures labels)
