use Rattle.std.proofs.Common.{◌≡◌, ℕ, Some, slice_get}
use borrow.Author.Count.{below_more}
use Rattle.crew_solve.proofs.alike.have_twins.Goals as goal

pub loop-place-preserved : goal.loop-place-preserved
loop-place-preserved c = below_more (λ k. (twin : ℕ) × (slice_get c.args.twins.now.arrivals k ≡ Some (Some twin))) c.loop-place.place c.loop-place.invariant (c.in-Some._twin, c.in-Some.ensures)
