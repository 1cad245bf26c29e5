use Rattle.std.proofs.Common.{not, ◌∙◌}
use Rattle.crew_label.specs.Machinery.Indexes.{is_low}
use Rattle.crew_label.proofs.Listed.{filter_all}
use Rattle.crew_label.proofs.parts.sides.Goals as goal

pub returns-clause-low : goal.returns-clause-low
returns-clause-low g c = c.loop-place.invariant.0 ∙ filter_all (λ k. is_low c.args.list.now c.args.cut k) c.args.places.now c.loop-place.place-index c.loop-place-test.false

pub returns-clause-high : goal.returns-clause-high
returns-clause-high g c = c.loop-place.invariant.1 ∙ filter_all (λ k. not (is_low c.args.list.now c.args.cut k)) c.args.places.now c.loop-place.place-index c.loop-place-test.false
