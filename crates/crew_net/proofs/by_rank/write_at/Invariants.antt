use Rattle.std.proofs.Common.{◌≡◌, ℕ, get_or, length, take}
use Rattle.crew_resource.specs.Members.{Member}
use Rattle.crew_net.proofs.by_rank.write_at.Given as goal

-- the ranks so far have the place
abbrev pub invariant-loop-rank : goal.invariant-loop-rank
invariant-loop-rank l =
    (length l.places ≡ length l.fn.places)
    × ((rank : ℕ) → Member (take l.rank-index l.ranks) rank → get_or l.places rank 0 ≡ l.place)
    × ((rank : ℕ) → (Member (take l.rank-index l.ranks) rank → ⊥) → get_or l.places rank 0 ≡ get_or l.fn.places rank 0)
