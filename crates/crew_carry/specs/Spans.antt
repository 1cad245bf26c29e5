-- Places of walks, side by side.
use Rattle.std.specs.Prelude.{◌≡◌, ◌≤◌, ◌⊎◌, ℕ, List}
use Rattle.crew_carry.specs.declared.span.Span.{Span}
use Rattle.crew_pool.specs.declared.label_walk.LabelWalk.{LabelWalk}
use Rattle.crew_resource.specs.Members.{Member}

-- a place lies within the span, or is the first of all, at which the empty walk stands
abbrev pub StandsWithin : Span → ℕ → Type 0
StandsWithin span walk = (walk ≡ 0) ⊎ ((span.first ≤ walk) × (walk ≤ span.last))

-- the walks of labels do
abbrev pub AreWithin : {V : Type 0} → Span → List (V × LabelWalk) → Type 0
AreWithin {V} span labels = (l : V × LabelWalk) → Member labels l → StandsWithin span l.1.walk
