use Rattle.crew_session.proofs.BeginFacts.{begun-one}
use Rattle.std.proofs.Common.{◌∙◌, ap, inr, sym, Err}
use Rattle.crew_session.specs.Lines.{refused_line}
use Rattle.crew_session.proofs.AuditFacts.{over-limit}
use Rattle.std.proofs.Common.{refl, inl}
use Rattle.std.proofs.lemmas.Result.{on_ok_weaker}
use Rattle.crew_session.specs.Lines.{audit_line}
use Rattle.crew_session.proofs.audit.answer_audit.Goals as goal

pub returns-in-Ok-clause-answered : goal.returns-in-Ok-clause-answered
returns-in-Ok-clause-answered g c =
    let all = rw (c.settings.ensures.value, c.timetable.ensures) at c.in-Ok.ensures.counted in
    on_ok_weaker c.write_audit.result
    (λ w. (audit_line c.in-Ok.tally, w, inl (record { partials = all.0; tally = c.in-Ok.tally; all = all.1; few = all.3; counted = all.2; written = refl })))
    c.write_audit.ensures.written

pub returns-in-Ok-clause-begun : goal.returns-in-Ok-clause-begun
returns-in-Ok-clause-begun g c =
    let all = rw (c.settings.ensures.value, c.timetable.ensures) at c.in-Ok.ensures.counted in
    begun-one c.write_audit.result _ _ _ _ (inl (record { partials = all.0; tally = c.in-Ok.tally; all = all.1; few = all.3; counted = all.2; written = refl })) c.write_audit.ensures.begun

pub returns-in-Some-clause-begun : goal.returns-in-Some-clause-begun
returns-in-Some-clause-begun g c =
    let told = over-limit c.in-Err.fault c.in-Some.why (sym c.number.ensures ∙ c.in-Some.is) in
    let more = rw (c.settings.ensures.value, c.timetable.ensures) at (c.tally_all.ensures.over (c.in-Err.is ∙ ap (λ f. Err f) told.0)) in
    begun-one c.write_refused.result _ _ _ _ (inr (record { more = more; written = ap (refused_line c.args.number) told.1 })) c.write_refused.ensures.begun
