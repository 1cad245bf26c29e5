use Rattle.std.proofs.Common.{◌<◌, ◌∙◌, arith, get_or, length}
use Rattle.std.proofs.lemmas.List.{length-set}
use Rattle.crew_resource.proofs.Members.{Member-get}
use Rattle.crew_net.proofs.ArrivalPlaces.{put-elsewhere, put-there}
use Rattle.crew_net.proofs.by_rank.write_at.Goals as goal

pub bounds-places-rank : goal.bounds-places-rank
bounds-places-rank c =
    let within = c.requires (get_or c.args.ranks.now c.loop-rank.rank-index 0) (Member-get c.args.ranks.now c.loop-rank.rank-index 0 c.loop-rank-test.true) in
    let long = c.loop-rank.invariant.0 in
    omega (arith, within, long)

pub loop-rank-preserved : goal.loop-rank-preserved
loop-rank-preserved c =
    let ranks = c.args.ranks.now in
    let i = c.loop-rank.rank-index in
    let places = c.loop-rank.places in
    let within = c.requires (get_or ranks i 0) (Member-get ranks i 0 c.loop-rank-test.true) in
    let long = c.loop-rank.invariant.0 in
    let bound : get_or ranks i 0 < length places = omega (arith, within, long) in
    let same = length-set places (get_or ranks i 0) c.args.place in (
      same ∙ long,
      put-there c.args.places.now places ranks i c.args.place c.loop-rank-test.true bound c.loop-rank.invariant.1,
      put-elsewhere c.args.places.now places ranks i c.args.place c.loop-rank-test.true bound c.loop-rank.invariant.2,
    )
