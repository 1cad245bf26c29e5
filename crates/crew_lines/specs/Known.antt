-- Known bytes, of those that are held and those that a reader has.
use Rattle.std.specs.Prelude.{◌≡◌, ℕ, List, Option, Some, None, ⊤}
use Rattle.std.specs.Io.BufRead.{drop_through}
use Rattle.std.specs.Io.KnownBytes.{prepend_known}

-- those that are held, and then those that a reader has
abbrev pub ahead : {R : Type 0} → (R → Option (List ℕ)) → List ℕ → R → Option (List ℕ)
ahead remaining held reader = prepend_known held (remaining reader)

-- they lose what stands before the first LF, and it
abbrev pub Passes : Option (List ℕ) → Option (List ℕ) → Type 0
Passes None after = ⊤
Passes (Some xs) None = ⊥
Passes (Some xs) (Some ys) = ys ≡ drop_through 10 xs

-- they lose at most some of what stands before the first LF, or all where there is none
abbrev pub PassesWithin : Option (List ℕ) → Option (List ℕ) → Type 0
PassesWithin None after = ⊤
PassesWithin (Some xs) None = ⊥
PassesWithin (Some xs) (Some ys) = drop_through 10 ys ≡ drop_through 10 xs
