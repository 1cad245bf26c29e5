-- Sets of places, as a list of flags: which is the least.
use Rattle.std.specs.Prelude.{◌≡◌, ℕ, ◌<◌, Bool, true, false, List, get_or, length}

-- the least place whose flag is set
pub record IsFirst (flags : List Bool) (place : ℕ) : Type 0 where
  pub within : place < length flags
  pub set : get_or flags place false ≡ true
  pub least : (k : ℕ) → k < place → get_or flags k false ≡ false

-- no flag is set
abbrev pub NoneSet : List Bool → Type 0
NoneSet flags = (k : ℕ) → get_or flags k false ≡ false
