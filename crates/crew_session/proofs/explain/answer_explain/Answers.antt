use Rattle.std.proofs.Common.{◌∙◌}
use Rattle.std.proofs.lemmas.Result.{on_ok_weaker}
use Rattle.crew_session.specs.Explanations.{ShowsExplained}
use Rattle.crew_session.proofs.BeginFacts.{begins-none-of, begun-one, on-err}
use Rattle.crew_session.proofs.explain.answer_explain.Goals as goal

pub returns-in_err-explained_lines-clause-begun : goal.returns-in_err-explained_lines-clause-begun
returns-in_err-explained_lines-clause-begun g c =
    on-err c.from_residual-in_err-explained_lines.result _ (begins-none-of (g.W.Write.contents c.args.writer.now) (ShowsExplained c.args.base c.args.walk.now c.args.version.now))

pub returns-clause-answered : goal.returns-clause-answered
returns-clause-answered g c =
    let exact = rw (c.settings.ensures.value, c.timetable.ensures, c.keys.ensures.value) at c.in_ok-told.ensures in
    on_ok_weaker c.write_line.result
    (λ w. (_, w, record { told = c.in_ok-told.told; exact = exact; written = c.deref.ensures.value ∙ c.in_ok-explained_lines.ensures }))
    c.write_line.ensures.written

pub returns-clause-begun : goal.returns-clause-begun
returns-clause-begun g c =
    let exact = rw (c.settings.ensures.value, c.timetable.ensures, c.keys.ensures.value) at c.in_ok-told.ensures in
    begun-one c.write_line.result _ _ _ _ (record { told = c.in_ok-told.told; exact = exact; written = c.deref.ensures.value ∙ c.in_ok-explained_lines.ensures }) c.write_line.ensures.begun
