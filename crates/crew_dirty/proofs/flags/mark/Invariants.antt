use Rattle.std.proofs.Common.{◌≡◌, ◌⊎◌, ℕ, true, false, get_or, length, take}
use Rattle.crew_dirty.specs.Machinery.Marks.{IsMarkedBy}
use Rattle.crew_dirty.proofs.flags.mark.Given as goal

-- the places of the ranks so far are marked
abbrev pub invariant-loop-rank : goal.invariant-loop-rank
invariant-loop-rank l =
    (length l.marks ≡ length l.fn.marks)
    × ((k : ℕ) → get_or l.fn.marks k false ≡ true → get_or l.marks k false ≡ true)
    × ((k : ℕ) → IsMarkedBy (take l.rank-index l.ranks) l.places l.flags k → get_or l.marks k false ≡ true)
    × ((k : ℕ) → get_or l.marks k false ≡ true → (get_or l.fn.marks k false ≡ true) ⊎ IsMarkedBy (take l.rank-index l.ranks) l.places l.flags k)
