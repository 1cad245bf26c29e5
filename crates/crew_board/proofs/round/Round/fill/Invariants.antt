use Rattle.std.proofs.Common.{◌-◌, ◌≤◌, length}
use Rattle.crew_board.specs.Machinery.Held.{Marked}
use Rattle.crew_board.specs.Machinery.Turns.{ClaimsEach}
use Rattle.crew_job.specs.Lots.{StandOn}
use Rattle.crew_board.proofs.round.Round.fill.Given as goal

-- the jobs so far are handed out, one after another
abbrev pub invariant-loop-alloc : goal.invariant-loop-alloc
invariant-loop-alloc l = StandOn l.self.ground l.lot
    × (length l.initial.lot ≤ length l.lot)
    × (length l.lot ≤ l.most)
    × ((start : Marked) → ClaimsEach start l.initial.lot l.initial.self → ClaimsEach start l.lot l.self)

abbrev pub decreases-loop-alloc : goal.decreases-loop-alloc
decreases-loop-alloc l = l.most - length l.lot
