-- What takes partials one by one, seen by how many it has taken and by the lists that it may have
-- taken.
use Rattle.std.specs.Prelude.{◌≡◌, ℕ, ◌+◌, List, ◌++◌, length}
use Rattle.crew_audit.specs.declared.partial.Partial.{Partial}

-- from one state to another it took these: as many more, and behind whatever it held before
pub record Took {S : Type 0} (count : S → ℕ) (holds : S → List Partial → Type 0) (old new : S)
    (taken : List Partial) : Type 0 where
  pub more : count new ≡ count old + length taken
  pub behind : (ps : List Partial) → holds old ps → holds new (ps ++ taken)
