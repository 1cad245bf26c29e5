use Rattle.std.proofs.Common.{◌≡◌, ◌∙◌, Option, Some, IfOk, IfSome, OnErr, sym, ap, subst}
use Rattle.crew_board.proofs.Answered as from
use Rattle.crew_board.proofs.Each as each
use Rattle.crew_board.specs.Boards.{IsBoardOf, ShownBoard}
use Rattle.crew_board.specs.Lots.{HasClaimedLot}
use Rattle.crew_board.specs.Machinery.Held.{Marked}
use Rattle.crew_board.specs.Machinery.Settled.{IsRoundOver, IsSettled, board_of}
use Rattle.crew_machine.specs.Crew.{CrewBoard, crew}
use Rattle.crew_machine.specs.Rounds.{NoneReady}
use Rattle.crew_board.proofs.board.Board.claim_lot.Goals as goal

pub invariant_of-self-2 : goal.invariant_of-self-2
invariant_of-self-2 c =
    let s = c.self.inside.sealed.value in
    let m = c.in-Some.round in
    let k : IsRoundOver s m = subst (λ (o : Option Marked). IfSome o (IsRoundOver s)) c.in-Some.is c.self.invariant.held in
    let was = subst (IsSettled s) c.in-Some.is c.self.invariant in
    from.settled-open s m c.claim_lot.new.self was (each.claimed-lot-over s m k c.claim_lot.result c.claim_lot.new.self c.claim_lot.ensures.each c.claim_lot.ensures.err)

pub returns-clause-ok : goal.returns-clause-ok
returns-clause-ok c =
    let s = c.self.inside.sealed.value in
    let m = c.in-Some.round in
    let k : IsRoundOver s m = subst (λ (o : Option Marked). IfSome o (IsRoundOver s)) c.in-Some.is c.self.invariant.held in
    let view : board_of s (Some m) ≡ c.args.self.now = ap (board_of s) (sym c.in-Some.is) ∙ c.self.view_is in
    let most = c.args.most in
    subst (λ (z : ShownBoard). IfOk c.claim_lot.result (λ lot. (b : CrewBoard) → IsBoardOf z b → HasClaimedLot z b most lot (board_of s (Some c.claim_lot.new.self)))) view
    (each.claimed-lot-answers s m k c.claim_lot.result most c.claim_lot.new.self c.claim_lot.ensures.each c.claim_lot.ensures.most c.claim_lot.ensures.some)

pub returns-clause-some : goal.returns-clause-some
returns-clause-some c =
    let s = c.self.inside.sealed.value in
    let m = c.in-Some.round in
    let k : IsRoundOver s m = subst (λ (o : Option Marked). IfSome o (IsRoundOver s)) c.in-Some.is c.self.invariant.held in
    let view : board_of s (Some m) ≡ c.args.self.now = ap (board_of s) (sym c.in-Some.is) ∙ c.self.view_is in
    subst (λ (z : ShownBoard). OnErr c.claim_lot.result ((b : CrewBoard) → IsBoardOf z b → NoneReady (crew z.sealed.settings) b → ⊥)) view
    (from.some-ready s m k c.claim_lot.result c.claim_lot.ensures.ready)
