-- Items that stand in chunks.
use Rattle.std.specs.Prelude.{List, Vec}
use Rattle.std.specs.Global.{Global}
use Rattle.std.specs.List.{flat_map}

-- the items of all chunks, one chunk after another
abbrev pub all_of : {X : Type 0} → List (Vec X Global) → List X
all_of chunks = flat_map (λ c. c.items) chunks
