use Rattle.crew_label.proofs.Listed.{numbers_more}
use Rattle.crew_label.proofs.index.places_of.Goals as goal

pub loop-place-preserved : goal.loop-place-preserved
loop-place-preserved g c =
    numbers_more c.loop-place.places.items c.push.new.self.items c.loop-place.place c.in_ok-push.ensures.items c.loop-place.invariant
