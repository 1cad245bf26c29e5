use Rattle.std.proofs.Common.{◌≡◌, ◌∙◌, Option, Some, IfSome, sym, ap, subst}
use Rattle.crew_board.proofs.Answered as from
use Rattle.crew_board.specs.Boards.{IsBoardOf, ShownBoard}
use Rattle.crew_board.specs.Calls.{HasBrought}
use Rattle.crew_board.specs.Machinery.Held.{Marked}
use Rattle.crew_board.specs.Machinery.Settled.{IsRoundOver, IsSettled, board_of}
use Rattle.crew_job.specs.Jobs.{IsJobOf}
use Rattle.crew_machine.specs.Crew.{CrewBoard, DutyWork, Entries, IsLocalOf}
use Rattle.crew_board.proofs.board.Board.bring.Goals as goal

pub invariant_of-self-2 : goal.invariant_of-self-2
invariant_of-self-2 c =
    let s = c.self.inside.sealed.value in
    let m = c.in-Some.round in
    let k : IsRoundOver s m = subst (λ (o : Option Marked). IfSome o (IsRoundOver s)) c.in-Some.is c.self.invariant.held in
    let was = subst (IsSettled s) c.in-Some.is c.self.invariant in
    from.settled-open s m c.bring.new.self was (from.brought-keeps s m k c.args.done c.bring.ensures.ground c.bring.ensures.placed c.bring.result c.bring.new.self c.bring.ensures.turn)

pub returns-clause-brought : goal.returns-clause-brought
returns-clause-brought c =
    let s = c.self.inside.sealed.value in
    let m = c.in-Some.round in
    let k : IsRoundOver s m = subst (λ (o : Option Marked). IfSome o (IsRoundOver s)) c.in-Some.is c.self.invariant.held in
    let view : board_of s (Some m) ≡ c.args.self.now = ap (board_of s) (sym c.in-Some.is) ∙ c.self.view_is in
    let job = c.args.done in
    subst (λ (z : ShownBoard). (b : CrewBoard) (work : DutyWork) (front : Entries) → IsBoardOf z b → IsJobOf job work → IsLocalOf work front → HasBrought z b work front c.bring.result (board_of s (Some c.bring.new.self))) view
    (from.brought s m k job c.bring.ensures.ground c.bring.result c.bring.new.self c.bring.ensures.turn)
