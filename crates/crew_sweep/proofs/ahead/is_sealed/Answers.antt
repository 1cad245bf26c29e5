use Rattle.std.proofs.Common.{◌<◌, List, ℕ, arith, get_or, subst, sym}
use borrow.Author.Count.{below_more}
use Rattle.crew_net.specs.Events.{arrives_at}
use Rattle.crew_net.proofs.Numbers.{get-within}
use Rattle.crew_net.proofs.Slices.{get-at, member-place, stands}
use Rattle.crew_resource.specs.Members.{Member}
use Rattle.crew_resource.proofs.Members.{Member-get}
use Rattle.crew_sweep.proofs.MadeAhead.{rank-within, sealed-by}
use Rattle.crew_sweep.proofs.ahead.is_sealed.Goals as goal

pub bounds-ground-rank : goal.bounds-ground-rank
bounds-ground-rank c =
    let net = c.args.ground.now.net.now in
    let a = stands net.arrivals c.args.place c.requires.place in
    let listed = Member-get c.arriving-rank-items.result.now c.loop-rank.rank-index 0 c.loop-rank-test.true in
    rank-within net c.args.ground.now.positions.now c.requires.ground.passable (arrives_at a.0) _ (subst (λ (rs : List ℕ). Member rs (get_or c.arriving-rank-items.result.now c.loop-rank.rank-index 0)) (c.arriving-rank-items.ensures a.0 a.1) listed)

pub loop-rank-preserved : goal.loop-rank-preserved
loop-rank-preserved c = below_more (λ k. get_or c.args.ground.now.positions.now (get_or c.arriving-rank-items.result.now k 0) 0 < c.args.passed) c.loop-rank.rank-index c.loop-rank.invariant c.if-ground-rank.false

pub returns : goal.returns
returns c _ =
    let net = c.args.ground.now.net.now in
    let ranks = c.arriving-rank-items.result.now in
    let a = stands net.arrivals c.args.place c.requires.place in
    sealed-by net c.args.ground.now.positions.now c.requires.ground.passable c.args.place a.0 a.1 c.args.passed (λ rank m.
    let k = member-place ranks rank (subst (λ (rs : List ℕ). Member rs rank) (sym (c.arriving-rank-items.ensures a.0 a.1)) m) in
    let within = get-within ranks k.0 rank k.1 in
    subst (λ n. get_or c.args.ground.now.positions.now n 0 < c.args.passed) (get-at ranks k.0 rank 0 k.1) (c.loop-rank.invariant k.0 (omega (arith, within, c.loop-rank-test.false))))
