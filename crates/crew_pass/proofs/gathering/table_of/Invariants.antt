use Rattle.std.proofs.Common.{◌≡◌, take}
use Rattle.crew_labelling.specs.Labellings.{labelling_of}
use Rattle.crew_pass.specs.Machinery.Terms.{leaving_of, terms}
use Rattle.crew_pass.proofs.gathering.table_of.Given as goal

-- the pools so far are in the table
abbrev pub invariant-loop-position : goal.invariant-loop-position
invariant-loop-position g l = l.table ≡ record { leaves = leaving_of l.ground; pools = take l.position (labelling_of (terms g.R.Value.Ord.cmp g.R.Lapses g.R.Staged g.R.Forgets g.R.Resource l.ground)).departures }
