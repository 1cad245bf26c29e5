use Rattle.std.proofs.Common.{◌≡◌, length}
use Rattle.crew_board.specs.Machinery.Held.{AllNone}
use Rattle.crew_board.proofs.round.nothing_shown.Given as goal

abbrev pub invariant-loop : goal.invariant-loop
invariant-loop l = (length l.shown.items ≡ l.counter) × AllNone l.shown.items
