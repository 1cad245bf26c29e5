use Rattle.std.proofs.Common.{◌<◌, ◌≤◌, ℕ, get_or}
use Rattle.crew_pass.specs.Machinery.Beside.{IsAlikeThere}
use Rattle.crew_pass.specs.Machinery.Ended.{passed_terms}
use Rattle.crew_pass.specs.Machinery.Terms.{terms}
use Rattle.crew_pass.proofs.takeover.board_alike.Given as goal

-- the duties so far board alike
abbrev pub invariant-loop-rank : goal.invariant-loop-rank
invariant-loop-rank g l =
    (i : ℕ) → 0 ≤ i → i < l.rank-index
    → IsAlikeThere (terms g.R.Value.Ord.cmp g.R.Lapses g.R.Staged g.R.Forgets g.R.Resource l.ground) (passed_terms g.R.Value.Ord.cmp g.R.Lapses g.R.Staged g.R.Forgets g.R.Resource l.beside.earlier.now)
    (get_or l.ground.positions.now (get_or l.rank-items i 0) 0)
