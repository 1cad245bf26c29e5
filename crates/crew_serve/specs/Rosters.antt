-- Which client sits at which desk.
use Rattle.std.specs.Prelude.{◌≡◌, ◌≤◌, ℕ, List, Option, Some, None, slice_get}
use Rattle.crew_lines.specs.Names.{bytes_of_name}
use Rattle.crew_lines.specs.declared.name.Name.{Name}

-- a name is these bytes
abbrev pub IsNamed : Option Name → List ℕ → Type 0
IsNamed None bytes = ⊥
IsNamed (Some name) bytes = bytes_of_name name ≡ bytes

-- a client whose name is these bytes sits at a desk
abbrev pub HasAt : List (Option Name) → ℕ → List ℕ → Type 0
HasAt names desk bytes =
    (at : Option Name) × (slice_get names desk ≡ Some at) × IsNamed at bytes

-- at none
abbrev pub Lacks : List (Option Name) → List ℕ → Type 0
Lacks names bytes = (desk : ℕ) → ¬ (HasAt names desk bytes)

-- no desk from one on is free
abbrev pub HasNoneFree : ℕ → List (Option Name) → Type 0
HasNoneFree first names = (desk : ℕ) → first ≤ desk → ¬ (slice_get names desk ≡ Some None)
