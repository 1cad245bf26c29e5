use Rattle.std.proofs.Common.{◌≡◌, ◌≤◌, ◌<◌, ◌⊎◌, ℕ, length}
use Rattle.crew_resource.specs.Members.{Member}
use Rattle.crew_sweep.specs.Machinery.Slides.{AreIdle}
use Rattle.crew_sweep.proofs.slides.Slides.new.Given as goal

-- the departures so far have their numbers
abbrev pub invariant-loop-place : goal.invariant-loop-place
invariant-loop-place l =
    (length l.airports.items ≡ l.place)
    × ((l.place ≡ 0) ⊎ (1 ≤ length l.slides.items))
    × ((n : ℕ) → Member l.airports.items n → n < length l.slides.items)
    × AreIdle l.slides.items
