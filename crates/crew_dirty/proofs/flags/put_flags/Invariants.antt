use Rattle.std.proofs.Common.{◌≡◌, ◌&&◌, ℕ, false, get_or, length, take}
use Rattle.crew_resource.specs.Members.{Member}
use Rattle.crew_dirty.proofs.flags.put_flags.Given as goal

-- the ranks so far have their flags
abbrev pub invariant-loop-rank : goal.invariant-loop-rank
invariant-loop-rank l =
    (length l.flags ≡ length l.fn.flags)
    × ((rank : ℕ) → Member (take l.rank-index l.ranks) rank → get_or l.flags rank false ≡ (l.leave && get_or l.others rank false))
    × ((rank : ℕ) → (Member (take l.rank-index l.ranks) rank → ⊥) → get_or l.flags rank false ≡ get_or l.fn.flags rank false)
