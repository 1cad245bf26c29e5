use Rattle.std.proofs.Common.{◌∙◌, refl, sym, true≢false}
use Rattle.std.specs.Slice.Iter.{iter_rest}
use Rattle.crew_solve.proofs.Found.{in-first, in-others, may-first, may-others, not-first}
use Rattle.crew_solve.proofs.lookup.pass_labels.Goals as goal

pub is_shown-requires : goal.is_shown-requires
is_shown-requires c = may-first c.args.sweep.now c.args.duty.now c.args.rank (iter_rest c.loop-label.labels) (iter_rest c.next.new.self) c.in-Some.label.now c.in-Some.ensures.steps c.loop-label.invariant.may

pub returns-then-is_shown-clause-found : goal.returns-then-is_shown-clause-found
returns-then-is_shown-clause-found c =
    let wanted = c.args.wanted.now in
    let first = in-first c.args.sweep.now c.args.duty.now c.args.rank (iter_rest c.loop-label.labels) (iter_rest c.next.new.self) c.in-Some.label.now wanted c.in-Some.ensures.steps (c.is_shown.ensures.0 c.if-is_shown.true) in
    (λ _. c.loop-label.invariant.among wanted first, λ _. refl)

pub returns-then-is_shown-clause-left : goal.returns-then-is_shown-clause-left
returns-then-is_shown-clause-left c = λ e m.
    c.loop-label.invariant.among e (in-others c.args.sweep.now c.args.duty.now c.args.rank (iter_rest c.loop-label.labels) (iter_rest c.next.new.self) c.in-Some.label.now e c.in-Some.ensures.steps m)

pub returns-then-is_shown-clause-may : goal.returns-then-is_shown-clause-may
returns-then-is_shown-clause-may c = may-others c.args.sweep.now c.args.duty.now c.args.rank (iter_rest c.loop-label.labels) (iter_rest c.next.new.self) c.in-Some.label.now c.in-Some.ensures.steps c.loop-label.invariant.may

pub loop-label-preserved : goal.loop-label-preserved
loop-label-preserved c =
    let b = c.args.sweep.now in
    let d = c.args.duty.now in
    let rank = c.args.rank in
    let all = iter_rest c.loop-label.labels in
    let others = iter_rest c.next.new.self in
    let label = c.in-Some.label.now in
    let split = c.in-Some.ensures.steps in
    record {
      left = λ m. not-first b d rank all others label c.args.wanted.now split (λ i. true≢false (sym (c.is_shown.ensures.1 i) ∙ c.if-is_shown.false)) (c.loop-label.invariant.left m);
      among = λ e m. c.loop-label.invariant.among e (in-others b d rank all others label e split m);
      may = may-others b d rank all others label split c.loop-label.invariant.may;
    }
