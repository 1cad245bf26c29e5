-- What is left of the list, and room for one item more.
use Rattle.std.proofs.Common.{◌≡◌, ℕ, suc, ◌≤◌, Some, pos, ◌∷◌, drop}
use Rattle.crew_vector.specs.Machinery.Along.{GoesOn, extended}
use Rattle.crew_vector.proofs.value.along.Given as goal

abbrev pub invariant-loop-next : goal.invariant-loop-next
invariant-loop-next g l = record {
  value : extended (g.R.Resource.extends l.resource) l.value l.last (drop l.next-index l.others) ≡ g.R.Resource.value_of l.resource (l.first ∷ l.others);
  goes_on : GoesOn g.P.Placed.is_sound g.P.Placed.may_follow g.P.Placed.arrives g.P.Placed.leaves l.last (drop l.next-index l.others);
  room : (m : ℕ) × (n : ℕ) × (g.R.Staged.most l.resource ≡ Some m) × (g.R.Staged.count_of l.resource l.value ≡ pos n) × (n ≤ m) × g.R.Staged.fits l.resource (suc m) × g.R.Staged.arrived l.resource n l.value;
}
