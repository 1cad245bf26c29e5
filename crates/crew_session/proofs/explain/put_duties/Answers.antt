use Rattle.std.proofs.Common.{◌∙◌, ◌+◌, List, ◌++◌, Some, ℕ, ap, drop, sym}
use Rattle.std.specs.Option.{option_map}
use Rattle.std.proofs.lemmas.List.{append-nil}
use Rattle.crew_session.specs.Explanations.{duties_after, duties_text, duty_line}
use Rattle.crew_session.proofs.ExplainFacts.{no-limits, one-duty, one-less}
use Rattle.crew_session.proofs.explain.put_duties.Goals as goal

pub returns-in_default-get : goal.returns-in_default-get
returns-in_default-get c =
    let done = no-limits c.in-Some.first.now.report (option_map (λ d. d.now) c.loop-place.before) (drop c.loop-place.place c.args.duties.now) c.args.limits.now c.loop-place.place c.get.result c.in_default-get.is c.get.ensures.lookup in
    sym (append-nil c.loop-place.line.items) ∙ ap (λ (t : List ℕ). c.loop-place.line.items ++ t) (sym done) ∙ c.loop-place.invariant

pub loop-place-preserved : goal.loop-place-preserved
loop-place-preserved c =
    let start = c.in-Some.first.now.report in
    let before = option_map (λ d. d.now) c.loop-place.before in
    let duty = c.index-duties-place.result in
    let place = c.loop-place.place in
    let more = one-duty start before c.args.duties.now c.args.limits.now place duty c.in-Some-get.own c.loop-place-test.true c.index-duties-place.is c.in-Some-get.ensures.lookup in
    let piece = duty_line start before duty c.in-Some-get.own.now in
    let rest = duties_after start (Some duty) (drop (place + 1) c.args.duties.now) (drop (place + 1) c.args.limits.now) in
    let left = duties_after start before (drop place c.args.duties.now) (drop place c.args.limits.now) in
    one-less c.loop-place.line.items piece rest left c.put_duty.new.line.items (c.args.line.now.items ++ duties_text c.args.duties.now c.args.limits.now) c.in_ok-put_duty.ensures more c.loop-place.invariant
