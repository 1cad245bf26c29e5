use Rattle.std.proofs.Common.{subst}
use Rattle.crew_board.proofs.Answered as from
use Rattle.crew_board.specs.Boards.{IsBoardOf, ShownBoard}
use Rattle.crew_machine.specs.Crew.{CrewBoard}
use Rattle.crew_board.proofs.board.Board.sealed.Goals as goal

pub returns-clause-stands : goal.returns-clause-stands
returns-clause-stands c = subst (λ (z : ShownBoard). (b : CrewBoard) × IsBoardOf z b) c.self.view_is (from.stands c.self.inside.sealed.value c.self.inside.round c.self.invariant)
