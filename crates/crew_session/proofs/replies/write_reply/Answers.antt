use Rattle.std.proofs.Common.{◌++◌, List, ℕ, ap, ◌∙◌}
use Rattle.crew_session.specs.Machinery.Told.{told_line, told_refusals}
use Rattle.crew_session.proofs.BeginFacts.{begins-longer, begun-then, on-err}
use Rattle.crew_session.proofs.replies.write_reply.Goals as goal

pub returns-in_err-write_refusals-clause-begun : goal.returns-in_err-write_refusals-clause-begun
returns-in_err-write_refusals-clause-begun g c =
    on-err _ _ (begins-longer _ _ _ (told_line c.args.reply.now) c.in_err-write_refusals.ensures.begun)

pub returns-clause-begun : goal.returns-clause-begun
returns-clause-begun g c =
    begun-then c.write_line.result _ _ _ (told_refusals c.args.reply.now) _ _ c.in_ok-write_refusals.ensures.written
    (ap (λ (t : List ℕ). told_refusals c.args.reply.now ++ t) (c.deref.ensures.value ∙ c.in_ok-line.ensures)) c.write_line.ensures.begun
