use Rattle.std.proofs.Common.{◌≡◌, map}
use Rattle.std.specs.Prelude.{slice_get}
use Rattle.crew_solve.specs.Machinery.Lent.{after, by_vector, entry_of}
use Rattle.crew_solve.proofs.front_view.least_after.Given as goal

-- the least after the vector of the labels so far
abbrev pub invariant-loop-value : goal.invariant-loop-value
invariant-loop-value l = l.least ≡ slice_get (after l.last (by_vector (map (entry_of l.sweep l.duty.release) l.yielded))) 0
