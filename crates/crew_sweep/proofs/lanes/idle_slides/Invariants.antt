use Rattle.std.proofs.Common.{◌≡◌, length}
use Rattle.crew_sweep.specs.Machinery.Slides.{AreIdle}
use Rattle.crew_sweep.proofs.lanes.idle_slides.Given as goal

abbrev pub invariant-loop : goal.invariant-loop
invariant-loop l = (length l.slides.items ≡ l.counter) × AreIdle l.slides.items
