use Rattle.std.proofs.Common.{◌<◌, ◌≤◌, ℕ}
use Rattle.crew_board.specs.Machinery.Turns.{AreSameIfBefore}
use Rattle.crew_board.proofs.before.are_same_before.Given as goal

-- what comes in at each arrival of the window so far has its flag, if it may stand just before
abbrev pub invariant-loop-arrival : goal.invariant-loop-arrival
invariant-loop-arrival l = (k : ℕ) → l.initial.arrival ≤ k → k < l.arrival → AreSameIfBefore l.marks.same l.net l.duty l.first k
