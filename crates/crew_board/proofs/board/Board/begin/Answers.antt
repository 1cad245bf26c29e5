use Rattle.std.proofs.Common.{◌≡◌, ◌∙◌, Some, None, sym, ap, subst}
use Rattle.crew_board.proofs.Answered as from
use Rattle.crew_board.specs.Boards.{IsBoardOf, ShownBoard}
use Rattle.crew_board.specs.Calls.{HasBegun, IsBeginFault}
use Rattle.crew_board.specs.Machinery.Settled.{board_of}
use Rattle.crew_machine.specs.Crew.{CrewBoard}
use Rattle.crew_board.specs.declared.fault.BeginFault.TheVariants as Begin
use Rattle.crew_board.proofs.board.Board.begin.Goals as goal

pub returns-in_err-ground-clause-fault : goal.returns-in_err-ground-clause-fault
returns-in_err-ground-clause-fault g c =
    let s = c.self.inside.sealed.value in
    let none = from.none-of c.self.inside.round c.is_some.result c.is_some.ensures c.if-is_some.false in
    let view : board_of s None ≡ c.args.self.now = ap (board_of s) (sym none) ∙ c.self.view_is in
    let fault = c.in_err-ground.field-0.0 in
    let answers = subst (λ (z : ShownBoard). (b : CrewBoard) → IsBoardOf z b → IsBeginFault z b c.args.entries.now (Begin.Ground fault)) view (from.ground-refused s c.args.entries.now fault c.in_err-ground.ensures.fault) in
    from.refused-as (λ f. (b : CrewBoard) → IsBoardOf c.args.self.now b → IsBeginFault c.args.self.now b c.args.entries.now f) c.from_residual.result (Begin.Ground fault) c.from_residual.ensures.1 answers

pub returns-clause-ok : goal.returns-clause-ok
returns-clause-ok g c =
    let s = c.self.inside.sealed.value in
    let none = from.none-of c.self.inside.round c.is_some.result c.is_some.ensures c.if-is_some.false in
    let view : board_of s None ≡ c.args.self.now = ap (board_of s) (sym none) ∙ c.self.view_is in
    let r = c.in_ok-round.round in
    let ground = c.in_ok-round.ensures.ground in
    let same : r.ground.sealed ≡ s = ap (λ g. g.sealed) ground ∙ c.in_ok-ground.ensures.sealed in
    let over : r.ground.entries ≡ c.args.entries.now = ap (λ g. g.entries) ground ∙ c.in_ok-ground.ensures.entries in
    subst (λ (z : ShownBoard). (b : CrewBoard) → IsBoardOf z b → HasBegun z b c.args.entries.now (board_of s (Some r))) view
    (from.begun-as s r c.in_ok-round.ensures.begun same c.args.entries.now over)
