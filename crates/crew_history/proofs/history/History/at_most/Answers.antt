use Rattle.std.proofs.Common.{rules, pos, ◌≤ℤ◌, ◌<ℤ◌, get_or, w32, FitsSigned, refl, sym, ◌∙◌, ap, subst, arith}
use Rattle.std.proofs.lemmas.Int.{ints, to_z-of_z}
use Rattle.crew_history.specs.Histories.{minutes_after, IsNoMore}
use Rattle.crew_history.specs.HistoryValues.{periods_of}
use Rattle.crew_history.proofs.HistoryTests.{test_fails, test_goes_on, test_ends}
use Rattle.crew_history.proofs.FixedHistories.{at_most_is}
use Rattle.crew_history.proofs.history.History.at_most.Goals as goal

pub returns-then-minutes_after-clause-test : goal.returns-then-minutes_after-clause-test
returns-then-minutes_after-clause-test c =
    let h = periods_of c.args.self.now in
    let k = periods_of c.args.other.now in
    let xs = c.args.self.now.periods in
    let x = get_or xs c.loop-i.i (pos 0, pos 0) in
    let f0 : FitsSigned w32 x.0 = search rules in
    let e = to_z-of_z w32 x.0 f0 in
    let a = c.if-minutes_after.true in
    let l : c.minutes_after-in-loop-i.result <ℤ c.minutes_after.result = grind (arith, ints) in
    let less : minutes_after k x.0 <ℤ minutes_after h x.0 =
    subst (λ z. minutes_after k x.0 <ℤ z) (c.minutes_after.ensures ∙ ap (minutes_after h) e)
    (subst (λ z. z <ℤ c.minutes_after.result) (c.minutes_after-in-loop-i.ensures ∙ ap (minutes_after k) e) l) in
    let long = c.args.self.now.kept.1 in
    let v = c.args.self.now.kept.0 in
    sym (test_fails h k xs c.args.self.now.len c.loop-i.i c.loop-i-test.true (omega arith) refl less)

pub loop-i-preserved : goal.loop-i-preserved
loop-i-preserved c =
    let h = periods_of c.args.self.now in
    let k = periods_of c.args.other.now in
    let xs = c.args.self.now.periods in
    let x = get_or xs c.loop-i.i (pos 0, pos 0) in
    let f0 : FitsSigned w32 x.0 = search rules in
    let e = to_z-of_z w32 x.0 f0 in
    let a = c.if-minutes_after.false in
    let l : c.minutes_after.result ≤ℤ c.minutes_after-in-loop-i.result = grind (arith, ints) in
    let less : minutes_after h x.0 ≤ℤ minutes_after k x.0 =
    subst (λ z. z ≤ℤ minutes_after k x.0) (c.minutes_after.ensures ∙ ap (minutes_after h) e)
    (subst (λ z. c.minutes_after.result ≤ℤ z) (c.minutes_after-in-loop-i.ensures ∙ ap (minutes_after k) e) l) in
    let long = c.args.self.now.kept.1 in
    let v = c.args.self.now.kept.0 in
    let t = c.loop-i-test.true in
    test_goes_on h k xs c.loop-i.i (omega arith) c.loop-i.invariant less

pub returns-clause-order : goal.returns-clause-order
returns-clause-order c =
    let h = periods_of c.args.self.now in
    let k = periods_of c.args.other.now in
    let t = test_ends h k c.args.self.now.periods c.args.self.now.len c.loop-i.i c.loop-i.auto.i-end c.loop-i-test.false refl c.loop-i.invariant in
    let n : IsNoMore h k = at_most_is c.args.self.now c.args.other.now t in
    (λ _. n, λ _. search rules)
