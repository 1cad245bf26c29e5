use Rattle.crew_session.proofs.BeginFacts.{begins-after, on-err}
use Rattle.std.proofs.Common.{◌≡◌, ◌++◌, List, ℕ, sym, ap, ◌∙◌, append_assoc}
use Rattle.std.specs.List.{flat_map}
use Rattle.std.proofs.lemmas.List.Concat.{flat_map-cons}
use Rattle.crew_session.specs.Lines.{entry_line}
use Rattle.crew_session.proofs.LineFacts.{appends-both}
use Rattle.crew_session.proofs.front.write_entries.Goals as goal

pub loop-vector-preserved : goal.loop-vector-preserved
loop-vector-preserved g c =
    let so_far = c.loop-vector.invariant in
    let more : flat_map (entry_line c.args.settings.now) c.loop-vector.vector-iterator ≡ entry_line c.args.settings.now (c.in-Some.vector, c.in-Some.walk) ++ flat_map (entry_line c.args.settings.now) c.next.new.self = ap (λ es. flat_map (entry_line c.args.settings.now) es) c.in-Some.ensures.steps ∙ flat_map-cons (entry_line c.args.settings.now) (c.in-Some.vector, c.in-Some.walk) c.next.new.self in
    (so_far.0 ++ _, appends-both _ _ _ so_far.0 _ so_far.1 (rw (c.deref.ensures.value, c.in_ok-entry_line.ensures) at c.in_ok-write_line.ensures.written), append_assoc so_far.0 _ _ ∙ ap (λ (t : List ℕ). so_far.0 ++ t) (sym more) ∙ so_far.2)

pub returns-in_err-write_line-clause-begun : goal.returns-in_err-write_line-clause-begun
returns-in_err-write_line-clause-begun g c =
    let so_far = c.loop-vector.invariant in
    let more : flat_map (entry_line c.args.settings.now) c.loop-vector.vector-iterator ≡ entry_line c.args.settings.now (c.in-Some.vector, c.in-Some.walk) ++ flat_map (entry_line c.args.settings.now) c.next.new.self = ap (λ es. flat_map (entry_line c.args.settings.now) es) c.in-Some.ensures.steps ∙ flat_map-cons (entry_line c.args.settings.now) (c.in-Some.vector, c.in-Some.walk) c.next.new.self in
    on-err c.from_residual-in_err-write_line.result _ (begins-after _ _ _ so_far.0 _ _ _ so_far.1 (rw (c.deref.ensures.value, c.in_ok-entry_line.ensures) at c.in_err-write_line.ensures.begun) (ap (λ (t : List ℕ). so_far.0 ++ t) (sym more) ∙ so_far.2))
