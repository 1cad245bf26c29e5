use Rattle.std.proofs.Common.{List, ℕ, get_or, subst}
use Rattle.crew_net.specs.Events.{arrives_at}
use Rattle.crew_net.proofs.Slices.{stands}
use Rattle.crew_resource.specs.Members.{Member}
use Rattle.crew_resource.proofs.Members.{Member-get}
use Rattle.crew_sweep.proofs.MadeAhead.{rank-within}
use Rattle.crew_sweep.proofs.ahead.label_count.Goals as goal

pub bounds-ground-rank : goal.bounds-ground-rank
bounds-ground-rank c =
    let net = c.args.ground.now.net.now in
    let a = stands net.arrivals c.args.place c.requires.place in
    let listed = Member-get c.arriving-ranks.result.now c.loop-rank.rank-index 0 c.loop-rank-test.true in
    rank-within net c.args.ground.now.positions.now c.requires.ground.passable (arrives_at a.0) _ (subst (λ (rs : List ℕ). Member rs (get_or c.arriving-ranks.result.now c.loop-rank.rank-index 0)) (c.arriving-ranks.ensures a.0 a.1) listed)
