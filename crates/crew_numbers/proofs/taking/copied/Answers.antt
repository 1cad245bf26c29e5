use Rattle.std.proofs.Common.{◌≡◌, List, Option, None, Result, Ok, Err, ap, get_or}
use Rattle.std.specs.Prelude.{IfOk, MatchResult}
use Rattle.slab.specs.Slab.{IsSlabClone, SameValues, Slab}
use Rattle.crew_numbers.proofs.Gets.{same-slots}
use Rattle.crew_numbers.proofs.taking.copied.Goals as goal

same-values : {E : Type 0} (Q : E → Type 0) (keys : Slab Unit) (r : Result (Slab Unit) E) → MatchResult r (IsSlabClone (λ (x y : Unit {0}). y ≡ x) keys) Q → IfOk r (λ copy. SameValues keys copy)
same-values Q keys (Ok copy) is = λ key. ap (λ (l : List (Option Unit)). get_or l key None) (same-slots keys.slots copy.slots is.slots)
same-values Q keys (Err e) is = tt

pub returns : goal.returns
returns c = same-values _ c.args.keys.now c.clone.result c.clone.ensures.cases
