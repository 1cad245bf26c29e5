use Rattle.std.proofs.Common.{◌≡◌, ◌∙◌, Option, Some, None, IfSome, sym, ap, subst}
use Rattle.std.specs.Arc.{arc_value}
use Rattle.crew_board.proofs.Answered as from
use Rattle.crew_board.specs.Boards.{IsBoardOf, ShownBoard}
use Rattle.crew_board.specs.Calls.{HasSealed, IsSealFault}
use Rattle.crew_board.specs.Machinery.Held.{Marked}
use Rattle.crew_board.specs.Machinery.Settled.{IsRoundOver, board_of}
use Rattle.crew_machine.specs.Crew.{CrewBoard}
use Rattle.crew_job.specs.crew_version.Versions.{Snapshot}
use Rattle.crew_board.specs.declared.fault.SealFault.TheVariants as Seal
use Rattle.crew_board.proofs.board.Board.seal.Goals as goal

pub returns-in-Some-first_undone-clause-fault : goal.returns-in-Some-first_undone-clause-fault
returns-in-Some-first_undone-clause-fault c =
    let s = c.self.inside.sealed.value in
    let m = c.in-Some.round in
    let k : IsRoundOver s m = subst (λ (o : Option Marked). IfSome o (IsRoundOver s)) c.in-Some.is c.self.invariant.held in
    let view : board_of s (Some m) ≡ c.args.self.now = ap (board_of s) (sym c.in-Some.is) ∙ c.self.view_is in
    let node = c.in-Some-first_undone.node in
    subst (λ (z : ShownBoard). (b : CrewBoard) → IsBoardOf z b → IsSealFault z b (Seal.NotDone node)) view (from.not-done s m k node c.in-Some-first_undone.ensures)

pub returns-clause-ok : goal.returns-clause-ok
returns-clause-ok c =
    let s = c.self.inside.sealed.value in
    let m = c.in-Some.round in
    let k : IsRoundOver s m = subst (λ (o : Option Marked). IfSome o (IsRoundOver s)) c.in-Some.is c.self.invariant.held in
    let view : board_of s (Some m) ≡ c.args.self.now = ap (board_of s) (sym c.in-Some.is) ∙ c.self.view_is in
    let v = arc_value c.in_ok-version.version in
    let e = c.in_ok-version.ensures in
    let answers = from.sealed-as s m k c.in_default-first_undone.ensures v e.number e.settings e.entries e.right in
    subst (λ (z : ShownBoard). (b : CrewBoard) → IsBoardOf z b → HasSealed z b v (board_of (arc_value c.in_ok-self-inside.field-0) None)) view
    (subst (λ (x : Snapshot). (b : CrewBoard) → IsBoardOf (board_of s (Some m)) b → HasSealed (board_of s (Some m)) b v (board_of x None)) (sym c.in_ok-self-inside.ensures) answers)

pub returns-in_err-version-clause-fault : goal.returns-in_err-version-clause-fault
returns-in_err-version-clause-fault c =
    let s = c.self.inside.sealed.value in
    let m = c.in-Some.round in
    let k : IsRoundOver s m = subst (λ (o : Option Marked). IfSome o (IsRoundOver s)) c.in-Some.is c.self.invariant.held in
    let view : board_of s (Some m) ≡ c.args.self.now = ap (board_of s) (sym c.in-Some.is) ∙ c.self.view_is in
    let none = subst (λ (z : ShownBoard). (b : CrewBoard) → IsBoardOf z b → IsSealFault z b Seal.Memory) view (from.no-memory s m k c.in_default-first_undone.ensures) in
    from.refused-as (λ f. (b : CrewBoard) → IsBoardOf c.args.self.now b → IsSealFault c.args.self.now b f) c.from_residual.result Seal.Memory c.from_residual.ensures.1 none

pub returns-in_err-self-inside-clause-fault : goal.returns-in_err-self-inside-clause-fault
returns-in_err-self-inside-clause-fault c =
    let s = c.self.inside.sealed.value in
    let m = c.in-Some.round in
    let k : IsRoundOver s m = subst (λ (o : Option Marked). IfSome o (IsRoundOver s)) c.in-Some.is c.self.invariant.held in
    let view : board_of s (Some m) ≡ c.args.self.now = ap (board_of s) (sym c.in-Some.is) ∙ c.self.view_is in
    let none = subst (λ (z : ShownBoard). (b : CrewBoard) → IsBoardOf z b → IsSealFault z b Seal.Memory) view (from.no-memory s m k c.in_default-first_undone.ensures) in
    from.refused-as (λ f. (b : CrewBoard) → IsBoardOf c.args.self.now b → IsSealFault c.args.self.now b f) c.from_residual-in_err-self-inside.result Seal.Memory c.from_residual-in_err-self-inside.ensures.1 none
