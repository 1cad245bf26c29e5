use Rattle.crew_session.proofs.BeginFacts.{begins-after, on-err}
use Rattle.std.proofs.Common.{◌++◌, List, ℕ, sym, ap, ◌∙◌, append_assoc}
use Rattle.std.specs.Prelude.{codes}
use Rattle.crew_session.specs.Lines.{pairing_line}
use Rattle.crew_session.proofs.LineFacts.{appends-both, each-more}
use Rattle.crew_session.proofs.pairings.write_each.Goals as goal

pub loop-pairing-preserved : goal.loop-pairing-preserved
loop-pairing-preserved g c =
    let so_far = c.loop-pairing.invariant in
    let more = rw (← c.pairing-item.is) at (each-more (pairing_line (codes "pairing")) c.args.pairings.now c.loop-pairing.pairing-index c.pairing-item.result c.loop-pairing-test.true) in
    (so_far.0 ++ _, appends-both _ _ _ so_far.0 _ so_far.1 (rw (c.deref.ensures.value, c.in_ok-pairing_line.ensures) at c.in_ok-write_line.ensures.written), append_assoc so_far.0 _ _ ∙ ap (λ (t : List ℕ). so_far.0 ++ t) (sym more) ∙ so_far.2)

pub returns-in_err-write_line-clause-begun : goal.returns-in_err-write_line-clause-begun
returns-in_err-write_line-clause-begun g c =
    let so_far = c.loop-pairing.invariant in
    let more = rw (← c.pairing-item.is) at (each-more (pairing_line (codes "pairing")) c.args.pairings.now c.loop-pairing.pairing-index c.pairing-item.result c.loop-pairing-test.true) in
    on-err c.from_residual-in_err-write_line.result _ (begins-after _ _ _ so_far.0 _ _ _ so_far.1 (rw (c.deref.ensures.value, c.in_ok-pairing_line.ensures) at c.in_err-write_line.ensures.begun) (ap (λ (t : List ℕ). so_far.0 ++ t) (sym more) ∙ so_far.2))
