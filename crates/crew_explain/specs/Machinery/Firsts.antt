-- The first of several breaches.
use Rattle.std.specs.Prelude.{List, [], ◌∷◌, Option, Some, None}
use Rattle.crew_explain.specs.declared.breach.Breach.{Breach}

abbrev pub or_else : Option Breach → Option Breach → Option Breach
or_else None other = other
or_else (Some breach) other = Some breach

abbrev pub earliest : List (Option Breach) → Option Breach
earliest [] = None
earliest (b ∷ bs) = or_else b (earliest bs)
