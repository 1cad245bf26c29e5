use Rattle.std.proofs.Common.{◌≡◌, ◌+◌, [], length}
use Rattle.crew_resource.specs.Members.{Member}
use Rattle.crew_sweep.specs.declared.lanes.Lane.{Lane}
use Rattle.crew_sweep.specs.declared.slide.Slide.{Slide}
use Rattle.crew_sweep.proofs.lanes.lanes_of.Given as goal

-- the slides so far are lanes, and the others are left
abbrev pub invariant-loop-slide : goal.invariant-loop-slide
invariant-loop-slide l =
    (length l.lanes.items + length l.slide-iterator.rest.items ≡ length l.fn.slides.items)
    × ((slide : Slide) → Member l.slide-iterator.rest.items slide → Member l.fn.slides.items slide)
    × ((lane : Lane) → Member l.lanes.items lane → Member l.fn.slides.items lane.slide × (lane.positions.items ≡ []) × (lane.waiting.items ≡ []))
