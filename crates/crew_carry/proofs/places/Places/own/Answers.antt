use Rattle.crew_carry.proofs.Standing.{own-carried}
use Rattle.crew_carry.proofs.places.Places.own.Goals as goal

pub returns : goal.returns
returns c =
    own-carried c.args.twins.now c.args.from.now c.in_ok-missing.missing.items c.new-told.result.items c.count.result c.count.ensures c.new-told.ensures.items c.in_ok-missing.ensures.others
