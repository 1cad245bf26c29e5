use Rattle.std.proofs.Common.{◌≡◌, ◌∙◌, Option, Some, IfSome, sym, ap, subst}
use Rattle.crew_board.proofs.Answered as from
use Rattle.crew_board.specs.Boards.{IsBoardOf, ShownBoard}
use Rattle.crew_board.specs.Calls.{HasGivenBack}
use Rattle.crew_board.specs.Machinery.Held.{Marked}
use Rattle.crew_board.specs.Machinery.Settled.{IsRoundOver, IsSettled, board_of}
use Rattle.crew_job.specs.Jobs.{IsJobOf}
use Rattle.crew_machine.specs.Crew.{CrewBoard, DutyWork}
use Rattle.crew_board.proofs.board.Board.give_back.Goals as goal

pub invariant_of-self-2 : goal.invariant_of-self-2
invariant_of-self-2 c =
    let s = c.self.inside.sealed.value in
    let m = c.in-Some.round in
    let k : IsRoundOver s m = subst (λ (o : Option Marked). IfSome o (IsRoundOver s)) c.in-Some.is c.self.invariant.held in
    let was = subst (IsSettled s) c.in-Some.is c.self.invariant in
    from.settled-open s m c.give_back.new.self was (from.given-back-keeps s m k c.args.job.now c.give_back.result c.give_back.new.self c.give_back.ensures.turn)

pub returns-clause-given_back : goal.returns-clause-given_back
returns-clause-given_back c =
    let s = c.self.inside.sealed.value in
    let m = c.in-Some.round in
    let k : IsRoundOver s m = subst (λ (o : Option Marked). IfSome o (IsRoundOver s)) c.in-Some.is c.self.invariant.held in
    let view : board_of s (Some m) ≡ c.args.self.now = ap (board_of s) (sym c.in-Some.is) ∙ c.self.view_is in
    let job = c.args.job.now in
    subst (λ (z : ShownBoard). (b : CrewBoard) (work : DutyWork) → IsBoardOf z b → IsJobOf job work → HasGivenBack z b work c.give_back.result (board_of s (Some c.give_back.new.self))) view
    (from.given-back s m k job c.give_back.ensures.ground c.give_back.result c.give_back.new.self c.give_back.ensures.turn)
