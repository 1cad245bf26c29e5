use Rattle.std.proofs.Common.{◌++◌, [], List, ℕ, refl, sym, ap, ◌∙◌, append_assoc, arith, subst}
use Rattle.std.proofs.lemmas.List.{append-nil}
use Rattle.std.specs.Io.KnownBytes.{Appends}
use Rattle.crew_version.specs.Versions.{verdicts_of}
use Rattle.crew_session.proofs.BeginFacts.{begins-after, on-err}
use Rattle.crew_session.proofs.LineFacts.{appends-both, appends-none}
use Rattle.crew_session.proofs.ReplyFacts.{places-more, places-over}
use Rattle.crew_session.proofs.replies.write_verdicts.Goals as goal

pub loop-place-init : goal.loop-place-init
loop-place-init g c = ([], appends-none _, refl)

pub loop-place-preserved : goal.loop-place-preserved
loop-place-preserved g c =
    let so_far = c.loop-place.invariant in
    let more = places-more (verdicts_of c.args.version.now.entries) c.loop-place.place in
    (so_far.0 ++ _, appends-both _ _ _ so_far.0 _ so_far.1 (rw c.verdict.ensures at c.in_ok-write_verdict.ensures.written), append_assoc so_far.0 _ _ ∙ ap (λ (t : List ℕ). so_far.0 ++ t) (sym more) ∙ so_far.2)

pub returns-in_err-write_verdict-clause-begun : goal.returns-in_err-write_verdict-clause-begun
returns-in_err-write_verdict-clause-begun g c =
    let so_far = c.loop-place.invariant in
    let more = places-more (verdicts_of c.args.version.now.entries) c.loop-place.place in
    on-err c.from_residual.result _ (begins-after _ _ _ so_far.0 _ _ _ so_far.1 (rw c.verdict.ensures at c.in_err-write_verdict.ensures.begun) (ap (λ (t : List ℕ). so_far.0 ++ t) (sym more) ∙ so_far.2))

pub returns-clause-written : goal.returns-clause-written
returns-clause-written g c =
    let so_far = c.loop-place.invariant in
    let none = places-over c.args.version.now.entries c.loop-place.place (omega arith) in
    let whole = sym (append-nil so_far.0) ∙ ap (λ (t : List ℕ). so_far.0 ++ t) (sym none) ∙ so_far.2 in
    subst (Appends _ _) whole so_far.1
