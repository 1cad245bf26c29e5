use Rattle.std.proofs.Common.{◌≡◌, ◌<◌, ℕ, Some}
use Rattle.std.specs.Prelude.{slice_get}
use Rattle.crew_sweep.specs.Machinery.Sliding.{Covers}
use Rattle.crew_sweep.specs.declared.slide.Slide.{Slide}
use Rattle.crew_sweep.proofs.slides.Slides.cover.Given as goal

-- none of the slides so far has merged it
abbrev pub invariant-loop-slide : goal.invariant-loop-slide
invariant-loop-slide l = (n : ℕ) (s : Slide) → n < l.slide-index → slice_get l.self.slides.items n ≡ Some s → Covers s l.place → ⊥
