use Rattle.std.proofs.Common.{List}
use Rattle.crew_label.specs.declared.label.Label.{Label}
use Rattle.crew_labelling.specs.Held.{AreHeld, trail_of}
use Rattle.crew_labelling.specs.Labellings.{labelling_of}
use Rattle.crew_resource.specs.Members.{Member}
use Rattle.crew_pass.specs.Machinery.Passing.{AreCollected, WaitsUpTo}
use Rattle.crew_pass.specs.Machinery.Shelves.{AreKnown}
use Rattle.crew_pass.specs.Machinery.Terms.{labels_table, leaving_of, terms}
use Rattle.crew_pass.proofs.waits.window_pools.Given as goal

-- the arrivals so far have been collected
abbrev pub invariant-loop-place : goal.invariant-loop-place
invariant-loop-place g l =
    AreCollected (terms g.R.Value.Ord.cmp g.R.Lapses g.R.Staged g.R.Forgets g.R.Resource l.ground) (trail_of (labels_table (terms g.R.Value.Ord.cmp g.R.Lapses g.R.Staged g.R.Forgets g.R.Resource l.ground)))
    (WaitsUpTo (terms g.R.Value.Ord.cmp g.R.Lapses g.R.Staged g.R.Forgets g.R.Resource l.ground) (trail_of (labels_table (terms g.R.Value.Ord.cmp g.R.Lapses g.R.Staged g.R.Forgets g.R.Resource l.ground)))
    (labelling_of (terms g.R.Value.Ord.cmp g.R.Lapses g.R.Staged g.R.Forgets g.R.Resource l.ground)).arrivals l.departure l.fn.window.from l.place) l.pools.items
    × ((labels : List (Label g.row.R-Value.Denot)) → Member l.pools.items labels
    → AreHeld (terms g.R.Value.Ord.cmp g.R.Lapses g.R.Staged g.R.Forgets g.R.Resource l.ground) (g.R.Staged.ready l.ground.resource.now) (labels_table (terms g.R.Value.Ord.cmp g.R.Lapses g.R.Staged g.R.Forgets g.R.Resource l.ground)) labels)
    × ((labels : List (Label g.row.R-Value.Denot)) → Member l.pools.items labels
    → AreKnown (leaving_of l.ground) l.seen.departures labels)
