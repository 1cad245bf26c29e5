use Rattle.std.proofs.Common.{◌<◌, ◌≤◌, ◌-◌, ℕ, get_or, length}
use Rattle.crew_resource.specs.Members.{Member}
use Rattle.crew_sweep.specs.Machinery.Boardings.{IsAsGood}
use Rattle.crew_sweep.proofs.boardings.without_worse.Given as goal

-- the last ones so far have one as good among those that are kept, which are of the ranks
abbrev pub invariant-loop-back : goal.invariant-loop-back
invariant-loop-back l =
    ((k : ℕ) → Member l.kept.items k → Member l.ranks k)
    × ((i : ℕ) → i < length l.ranks → length l.ranks - l.back ≤ i → (k : ℕ) × Member l.kept.items k × IsAsGood l.duties l.positions k (get_or l.ranks i 0))
