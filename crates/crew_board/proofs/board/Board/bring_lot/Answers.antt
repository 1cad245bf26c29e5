use Rattle.std.proofs.Common.{◌≡◌, ◌∙◌, List, Option, Some, None, IfSome, sym, ap, subst}
use Rattle.crew_board.proofs.Answered as from
use Rattle.crew_board.proofs.Each as each
use Rattle.crew_board.specs.Boards.{IsBoardOf, ShownBoard}
use Rattle.crew_board.specs.Lots.{AreResultsOf, HasBroughtLot}
use Rattle.crew_board.specs.Machinery.Held.{Marked}
use Rattle.crew_board.specs.Machinery.Settled.{IsRoundOver, IsSettled, board_of}
use Rattle.crew_board.specs.declared.tally.Tally.{Tally}
use Rattle.crew_machine.specs.Crew.{CrewBoard, DutyWork, Entries}
use Rattle.crew_board.proofs.board.Board.bring_lot.Goals as goal

pub invariant_of-self-2 : goal.invariant_of-self-2
invariant_of-self-2 c =
    let s = c.self.inside.sealed.value in
    let m = c.in-Some.round in
    let k : IsRoundOver s m = subst (λ (o : Option Marked). IfSome o (IsRoundOver s)) c.in-Some.is c.self.invariant.held in
    let was = subst (IsSettled s) c.in-Some.is c.self.invariant in
    let e = c.bring_lot.ensures in
    from.settled-open s m c.bring_lot.new.self was (each.takes-keep s m k c.args.done e.0 c.bring_lot.new.self e.1)

pub returns-clause-brought : goal.returns-clause-brought
returns-clause-brought c =
    let s = c.self.inside.sealed.value in
    let m = c.in-Some.round in
    let k : IsRoundOver s m = subst (λ (o : Option Marked). IfSome o (IsRoundOver s)) c.in-Some.is c.self.invariant.held in
    let view : board_of s (Some m) ≡ c.args.self.now = ap (board_of s) (sym c.in-Some.is) ∙ c.self.view_is in
    let e = c.bring_lot.ensures in
    let new = c.bring_lot.new.self in
    let all : (b : CrewBoard) (results : List (DutyWork × Entries)) → IsBoardOf (board_of s (Some m)) b → AreResultsOf c.args.done results → HasBroughtLot (board_of s (Some m)) b results c.bring_lot.result (board_of s (Some new)) = λ b results is of.
    (
    let h = each.brought-each s m k c.args.done e.0 new e.1 b results is of in
    record { after = h.0; brought = e.0; each = h.1; shows = h.2; counts = e.2 }) in
    subst (λ (z : ShownBoard). (b : CrewBoard) (results : List (DutyWork × Entries)) → IsBoardOf z b → AreResultsOf c.args.done results → HasBroughtLot z b results c.bring_lot.result (board_of s (Some new))) view all

pub returns-in_default-clause-brought : goal.returns-in_default-clause-brought
returns-in_default-clause-brought c =
    let s = c.self.inside.sealed.value in
    let none : c.self.inside.round ≡ None = c.in_default.is in
    let view : board_of s None ≡ c.args.self.now = ap (board_of s) (sym none) ∙ c.self.view_is in
    λ b results is of.
    (
    let was = subst (λ (z : ShownBoard). IsBoardOf z b) (sym view) is in
    let stale = each.none-brought-lot s c.args.done b results was of in
    let told = subst (λ (t : Tally). HasBroughtLot (board_of s None) b results t (board_of s None)) (sym c.all_stale.ensures) stale in
    let here = subst (λ (z : ShownBoard). HasBroughtLot z b results c.all_stale.result (board_of s None)) view told in
    subst (λ (o : Option Marked). HasBroughtLot c.args.self.now b results c.all_stale.result (board_of s o)) (sym none) here)
