use Rattle.std.proofs.Common.{◌∷◌, [], None, length, length-append, sym, ap, subst, arith}
use Rattle.crew_board.proofs.Nothing.{none-push}
use Rattle.crew_board.specs.Machinery.Held.{AllNone}
use Rattle.crew_board.proofs.round.nothing_noted.Goals as goal

pub loop-init : goal.loop-init
loop-init c =
    let e = c.in_ok-noted.ensures.items in
    (ap length e, subst AllNone (sym e) tt)

pub loop-preserved : goal.loop-preserved
loop-preserved c =
    let e = c.in_ok-push.ensures.items in
    let h = c.loop.invariant in
    let long = length-append c.loop.noted.items (None ∷ []) in
    let all = ap length e in
    let before = h.0 in
    (omega (arith, long, all, before), subst AllNone (sym e) (none-push c.loop.noted.items h.1))

pub returns : goal.returns
returns c =
    let h = c.loop.invariant in
    let before = h.0 in
    let end = c.loop-test.false in
    let most = c.loop.auto.counter-end in
    record { long = omega (arith, before, end, most); none = h.1 }
