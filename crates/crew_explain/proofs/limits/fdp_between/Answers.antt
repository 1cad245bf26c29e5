use Rattle.std.proofs.Common.{◌≡◌, ◌-ℤ◌, ◌∙◌, arith, pos}
use Rattle.std.specs.Int.{int_max, int_min}
use Rattle.std.proofs.lemmas.Int.{ints, clamps}
use Rattle.crew_explain.proofs.ReadWindows.{read-clamps}
use Rattle.crew_explain.proofs.limits.fdp_between.Goals as goal

pub overflow_sub-min : goal.overflow_sub-min
overflow_sub-min c =
    let a = c.arrival.ensures.bound in
    let r = c.requires in
    let b = c.min.ensures.value in
    let d = c.max.ensures.value in
    let e = c.from.ensures in
    omega (arith, ints, clamps, a, b, d, e, r.from, r.to, r.range.report, r.range.report_most)

pub returns-clause-value : goal.returns-clause-value
returns-clause-value c =
    let a = c.arrival.ensures in
    let r = c.requires in
    let d = c.args.duty.now in
    let report : c.from.result ≡ d.report = omega (arith, ints, c.from.ensures, r.range.report, r.range.report_most) in
    read-clamps c.arrival.result c.from.result c.args.from c.args.to c.min.result c.max.result c.max-2.result
    (omega (arith, ints, a.bound)) (omega (arith, ints, a.bound)) (omega (arith, ints, report, r.range.report)) (omega (arith, ints, report, r.range.report_most))
    r.from.0 r.from.1 r.to.0 r.to.1 c.min.ensures.value c.max.ensures.value c.max-2.ensures.value
    ∙ λ i. int_max (pos 0) (int_min (a.value i) c.args.to -ℤ int_max (report i) c.args.from)

pub returns-clause-bound : goal.returns-clause-bound
returns-clause-bound c =
    let a = c.arrival.ensures.bound in
    let r = c.requires in
    let b = c.min.ensures.value in
    let d = c.max.ensures.value in
    let e = c.from.ensures in
    let f = c.max-2.ensures.value in (
      omega (arith, ints, clamps, a, b, d, e, f, r.from, r.to, r.range.report, r.range.report_most),
      omega (arith, ints, clamps, a, b, d, e, f, r.from, r.to, r.range.report, r.range.report_most),
    )
