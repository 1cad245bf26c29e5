use Rattle.std.proofs.Common.{◌≡◌, ◌≤◌, ◌⊎◌, ℕ, get_or, length, take}
use Rattle.crew_resource.specs.Members.{Member}
use Rattle.crew_net.specs.Machinery.Raised.{IsRaised}
use Rattle.crew_net.proofs.layers.raise.Given as goal

-- the places of the ranks so far are raised
abbrev pub invariant-loop-rank : goal.invariant-loop-rank
invariant-loop-rank l =
    (length l.next ≡ length l.fn.next)
    × ((k : ℕ) → get_or l.fn.next k 0 ≤ get_or l.next k 0)
    × ((rank : ℕ) → Member (take l.rank-index l.ranks) rank → l.layer ≤ get_or l.next (get_or l.places rank 0) 0)
    × ((k : ℕ) → (get_or l.next k 0 ≡ get_or l.fn.next k 0) ⊎ IsRaised (take l.rank-index l.ranks) l.places l.layer k (get_or l.next k 0))
