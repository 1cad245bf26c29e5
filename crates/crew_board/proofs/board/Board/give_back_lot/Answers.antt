use Rattle.std.proofs.Common.{◌≡◌, ◌∙◌, List, Option, Some, None, IfSome, sym, ap, subst}
use Rattle.crew_board.proofs.Answered as from
use Rattle.crew_board.proofs.Each as each
use Rattle.crew_board.specs.Boards.{IsBoardOf, ShownBoard}
use Rattle.crew_board.specs.Lots.{AreWorksOf, HasGivenBackLot}
use Rattle.crew_board.specs.Machinery.Held.{Marked}
use Rattle.crew_board.specs.Machinery.Settled.{IsRoundOver, IsSettled, board_of}
use Rattle.crew_machine.specs.Crew.{CrewBoard, DutyWork}
use Rattle.crew_board.proofs.board.Board.give_back_lot.Goals as goal

pub invariant_of-self-2 : goal.invariant_of-self-2
invariant_of-self-2 c =
    let s = c.self.inside.sealed.value in
    let m = c.in-Some.round in
    let k : IsRoundOver s m = subst (λ (o : Option Marked). IfSome o (IsRoundOver s)) c.in-Some.is c.self.invariant.held in
    let was = subst (IsSettled s) c.in-Some.is c.self.invariant in
    let e = c.give_back_lot.ensures in
    from.settled-open s m c.give_back_lot.new.self was (each.takes-back-keep s m k c.args.lot.now e.0 c.give_back_lot.new.self e.1)

pub returns-clause-given_back : goal.returns-clause-given_back
returns-clause-given_back c =
    let s = c.self.inside.sealed.value in
    let m = c.in-Some.round in
    let k : IsRoundOver s m = subst (λ (o : Option Marked). IfSome o (IsRoundOver s)) c.in-Some.is c.self.invariant.held in
    let view : board_of s (Some m) ≡ c.args.self.now = ap (board_of s) (sym c.in-Some.is) ∙ c.self.view_is in
    let e = c.give_back_lot.ensures in
    let new = c.give_back_lot.new.self in
    let all : (b : CrewBoard) (works : List DutyWork) → IsBoardOf (board_of s (Some m)) b → AreWorksOf c.args.lot.now works → HasGivenBackLot (board_of s (Some m)) b works c.give_back_lot.result (board_of s (Some new)) = λ b works is of.
    (
    let h = each.given-back-each s m k c.args.lot.now e.0 new e.1 b works is of in
    record { after = h.0; freed = e.0; each = h.1; shows = h.2; counts = e.2 }) in
    subst (λ (z : ShownBoard). (b : CrewBoard) (works : List DutyWork) → IsBoardOf z b → AreWorksOf c.args.lot.now works → HasGivenBackLot z b works c.give_back_lot.result (board_of s (Some new))) view all

pub returns-in_default-clause-given_back : goal.returns-in_default-clause-given_back
returns-in_default-clause-given_back c =
    let s = c.self.inside.sealed.value in
    let none : c.self.inside.round ≡ None = c.in_default.is in
    let view : board_of s None ≡ c.args.self.now = ap (board_of s) (sym none) ∙ c.self.view_is in
    λ b works is of.
    (
    let was = subst (λ (z : ShownBoard). IsBoardOf z b) (sym view) is in
    let left = each.none-given-back-lot s c.args.lot.now b works was of in
    let here = subst (λ (z : ShownBoard). HasGivenBackLot z b works 0 (board_of s None)) view left in
    subst (λ (o : Option Marked). HasGivenBackLot c.args.self.now b works 0 (board_of s o)) (sym none) here)
