use Rattle.std.proofs.Common.{ℕ, ◌<◌}
use Rattle.crew_resource.specs.Members.{Member}
use Rattle.crew_label.proofs.index.places_of.Given as goal

abbrev pub invariant-loop-place : goal.invariant-loop-place
invariant-loop-place g l = (k : ℕ) → k < l.place → Member l.places.items k
