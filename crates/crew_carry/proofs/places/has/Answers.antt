use Rattle.crew_carry.proofs.Standing.{has-at, has-none}
use Rattle.crew_carry.proofs.places.has.Goals as goal

pub returns-then-place-numbers : goal.returns-then-place-numbers
returns-then-place-numbers c =
    has-at c.args.numbers.now c.args.number c.below-place.result c.requires c.if-place-numbers.true c.below-place.ensures.before c.below-place.ensures.after

pub returns-else-place-numbers : goal.returns-else-place-numbers
returns-else-place-numbers c =
    has-none c.args.numbers.now c.args.number c.below-place.result c.if-place-numbers.false c.below-place.ensures.before
