use Rattle.std.proofs.Common.{◌∙◌, ◌<◌, ap, arith, length, subst, sym, take}
use Rattle.std.specs.List.{flat_map}
use Rattle.crew_net.specs.Nets.{Net}
use Rattle.crew_plan.proofs.Among.{duty-more}
use Rattle.crew_plan.specs.Machinery.Homes.{home_at}
use Rattle.crew_fronts.proofs.crew_solve_lemmas.Departing.{there}
use Rattle.crew_fronts.proofs.crew_solve_lemmas.Keeping.{keep-append}
use Rattle.crew_fronts.specs.crew_solve.Machinery.Keeps.{CheapestSoFar, keep_all}
use Rattle.crew_plan.proofs.homes.keep_of_base.Goals as goal

pub loop-rank-preserved : goal.loop-rank-preserved
loop-rank-preserved c =
    let b = c.args.base.now in
    let f = home_at c.args.trip_rig b in
    let i = c.loop-rank.rank in
    let many = c.duty_count-rank-end.ensures.count in
    let low : i < length c.net.result.now.duties = omega (arith, many, c.loop-rank-test.true) in
    let d = there b.net.duties i (subst (λ (n : Net). i < length n.duties) c.net.ensures.net low) in
    c.in_ok-keep_of_rank.ensures d.0 d.1
    ∙ (ap (λ (k : CheapestSoFar). keep_all k (f d.0)) c.loop-rank.invariant
    ∙ (sym (keep-append c.args.kept.now (flat_map f (take i b.net.duties)) (f d.0)) ∙ ap (keep_all c.args.kept.now) (sym (duty-more f b.net.duties i d.0 d.1))))
