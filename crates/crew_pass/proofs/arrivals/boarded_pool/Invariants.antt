use Rattle.crew_labelling.specs.Held.{HaveArrived}
use Rattle.crew_labelling.specs.Labellings.{labelling_of}
use Rattle.crew_pass.specs.Machinery.Shelves.{AreKnown}
use Rattle.crew_pass.specs.Machinery.Terms.{labels_table, leaving_of, terms}
use Rattle.crew_pass.proofs.Arriving.{GatheredSo}
use Rattle.crew_pass.proofs.arrivals.boarded_pool.Given as goal

-- the room has what the duties so far leave
abbrev pub invariant-loop-rank : goal.invariant-loop-rank
invariant-loop-rank g l =
    GatheredSo (terms g.R.Value.Ord.cmp g.R.Lapses g.R.Staged g.R.Forgets g.R.Resource l.ground) (labels_table (terms g.R.Value.Ord.cmp g.R.Lapses g.R.Staged g.R.Forgets g.R.Resource l.ground))
    (labelling_of (terms g.R.Value.Ord.cmp g.R.Lapses g.R.Staged g.R.Forgets g.R.Resource l.ground)).fronts l.rank-items l.rank-index l.room
    × HaveArrived (terms g.R.Value.Ord.cmp g.R.Lapses g.R.Staged g.R.Forgets g.R.Resource l.ground) (labels_table (terms g.R.Value.Ord.cmp g.R.Lapses g.R.Staged g.R.Forgets g.R.Resource l.ground)) l.room
    × AreKnown (leaving_of l.ground) l.seen.departures l.room
