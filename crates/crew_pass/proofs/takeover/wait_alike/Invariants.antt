use Rattle.std.proofs.Common.{◌<◌, ◌≤◌, ◌+◌, ℕ}
use Rattle.crew_pass.specs.Machinery.Beside.{IsSameAs}
use Rattle.crew_pass.specs.Machinery.Ended.{passed_terms}
use Rattle.crew_pass.specs.Machinery.Terms.{terms}
use Rattle.crew_pass.proofs.takeover.wait_alike.Given as goal

-- the arrivals so far are the same
abbrev pub invariant-loop-k : goal.invariant-loop-k
invariant-loop-k g l =
    (i : ℕ) → 0 ≤ i → i < l.k
    → IsSameAs (terms g.R.Value.Ord.cmp g.R.Lapses g.R.Staged g.R.Forgets g.R.Resource l.ground) (passed_terms g.R.Value.Ord.cmp g.R.Lapses g.R.Staged g.R.Forgets g.R.Resource l.beside.earlier.now)
    (l.here.from + i) (l.there.from + i)
