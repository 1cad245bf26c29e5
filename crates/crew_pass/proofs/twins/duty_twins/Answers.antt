use Rattle.std.proofs.Common.{arith}
use Rattle.crew_pass.specs.Machinery.Twins.{IsTwinByNumber}
use Rattle.crew_pass.proofs.Twinned.{none-so-far, one-so-far, told-twin}
use Rattle.crew_pass.proofs.twins.duty_twins.Goals as goal

pub loop-rank-init : goal.loop-rank-init
loop-rank-init c =
    none-so-far (IsTwinByNumber c.args.net.now.duties c.args.earlier.now.duties c.args.numbers.now c.args.ranks.now) _ c.in_ok-twins.ensures.items

pub loop-rank-preserved : goal.loop-rank-preserved
loop-rank-preserved c =
    let here = c.args.net.now.duties in
    let there = c.args.earlier.now.duties in
    let numbers = c.args.numbers.now in
    let ranks = c.args.ranks.now in
    let rank = c.loop-rank.rank in
    let told = c.told_rank-other.result in
    one-so-far (IsTwinByNumber here there numbers ranks) rank c.loop-rank.twins.items c.push.new.self.items c.duty_twin.result c.in_ok-push.ensures.items
    (told-twin here there numbers ranks rank told c.duty_twin.result c.told_rank-other.ensures c.duty_twin.ensures.twin c.duty_twin.ensures.there)
    c.loop-rank.invariant

pub returns-clause-long : goal.returns-clause-long
returns-clause-long c =
    let long = c.loop-rank.invariant.long in
    omega (arith, c.loop-rank-test.false, long)

pub returns-clause-twins : goal.returns-clause-twins
returns-clause-twins c = c.loop-rank.invariant.each
