use Rattle.std.proofs.Common.{◌≡◌, ◌+◌, ◌∙◌, sym, ap, take, ◌++◌, ◌∷◌, [], append_assoc, List}
use Rattle.std.proofs.lemmas.List.{take_more, take_all}
use Rattle.crew_flights.specs.declared.entries.Entry.{Entry}
use Rattle.crew_flights.specs.declared.edit.Verdict.{Verdict}
use Rattle.crew_version.specs.Versions.{verdicts_of}
use Rattle.crew_version.proofs.draft.fold_on.Goals as goal

pub loop-entry-preserved : goal.loop-entry-preserved
loop-entry-preserved c = λ earlier h.
    let before = c.loop-entry.invariant earlier h in
    let more = c.in_ok-take.ensures.ok (earlier ++ take c.loop-entry.entry-index c.args.entries.now) before.0 in
    let upto : earlier ++ take (c.loop-entry.entry-index + 1) c.args.entries.now ≡ earlier ++ take c.loop-entry.entry-index c.args.entries.now ++ c.entry-item.result ∷ [] =
    ap (λ (es : List Entry). earlier ++ es) (rw (← c.entry-item.is) at (take_more c.args.entries.now c.loop-entry.entry-index c.entry-item.result c.loop-entry-test.true)) ∙ sym (append_assoc earlier _ _) in
    rw upto (more.0, more.1 ∙ ap (λ (vs : List Verdict). vs ++ c.in_ok-take.field-0 ∷ []) before.1 ∙ append_assoc (verdicts_of earlier) c.loop-entry.verdicts.items (c.in_ok-take.field-0 ∷ []) ∙ ap (λ (vs : List Verdict). verdicts_of earlier ++ vs) (sym c.in_ok-push.ensures.items))

pub returns : goal.returns
returns c = λ earlier h.
    let whole = take_all c.loop-entry.entry-index c.args.entries.now c.loop-entry-test.false in
    rw whole at (c.loop-entry.invariant earlier h)
