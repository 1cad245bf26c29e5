use Rattle.std.proofs.Common.{arith}
use Rattle.crew_resource.proofs.Members.{Member-get}
use Rattle.crew_sweep.proofs.renewal.is_open.Goals as goal

pub bounds-places-rank : goal.bounds-places-rank
bounds-places-rank c = c.requires.ranks _ (Member-get c.args.ranks.now c.loop-rank.rank-index 0 c.loop-rank-test.true)

pub bounds-changed-place : goal.bounds-changed-place
bounds-changed-place c = c.requires.places _ (Member-get c.args.ranks.now c.loop-rank.rank-index 0 c.loop-rank-test.true)

pub arrival-requires : goal.arrival-requires
arrival-requires c =
    let there = c.requires.places _ (Member-get c.args.ranks.now c.loop-rank.rank-index 0 c.loop-rank-test.true) in
    let long = c.requires.twins in
    omega (arith, there, long)
