use Rattle.crew_session.proofs.BeginFacts.{begins-after, on-err}
use Rattle.std.proofs.Common.{◌++◌, List, ℕ, sym, ap, ◌∙◌, append_assoc, arith}
use Rattle.crew_session.proofs.LineFacts.{appends-both, refused-more}
use Rattle.crew_session.proofs.lines.write_refusals.Goals as goal

pub loop-i-preserved : goal.loop-i-preserved
loop-i-preserved g c =
    let so_far = c.loop-i.invariant in
    let more = refused-more c.args.numbers.now _ c.args.first c.loop-i.i (omega arith) in
    (so_far.0 ++ _, appends-both _ _ _ so_far.0 _ so_far.1 (rw c.verdict.ensures at c.in_ok-write_verdict.ensures.written), append_assoc so_far.0 _ _ ∙ ap (λ (t : List ℕ). so_far.0 ++ t) (sym more) ∙ so_far.2)

pub returns-in_err-write_verdict-clause-begun : goal.returns-in_err-write_verdict-clause-begun
returns-in_err-write_verdict-clause-begun g c =
    let so_far = c.loop-i.invariant in
    let more = refused-more c.args.numbers.now _ c.args.first c.loop-i.i (omega arith) in
    on-err c.from_residual.result _ (begins-after _ _ _ so_far.0 _ _ _ so_far.1 (rw c.verdict.ensures at c.in_err-write_verdict.ensures.begun) (ap (λ (t : List ℕ). so_far.0 ++ t) (sym more) ∙ so_far.2))
