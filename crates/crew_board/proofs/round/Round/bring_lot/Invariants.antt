use Rattle.std.proofs.Common.{◌≡◌, List}
use Rattle.crew_board.specs.Lots.{tally_of}
use Rattle.crew_board.specs.Machinery.Turns.{TakesInEach}
use Rattle.crew_machine.specs.declared.rounds.Brought.{Brought}
use Rattle.crew_board.proofs.round.Round.bring_lot.Given as goal

-- the results so far are taken in, and counted
abbrev pub invariant-loop-one : goal.invariant-loop-one
invariant-loop-one l = (l.self.ground ≡ l.initial.self.ground)
    × ((brought : List Brought) × TakesInEach l.initial.self l.yielded brought l.self × (l.tally ≡ tally_of brought))
