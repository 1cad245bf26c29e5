-- Labels that join others.
use Rattle.std.specs.Prelude.{Bool, List, ◌++◌, not}
use Rattle.std.specs.List.{filter, list_any}

-- those of a list for which none of others may stand
abbrev pub free_of : {X : Type 0} → (X → X → Bool) → List X → List X → List X
free_of stands others list = filter (λ m. not (list_any (λ l. stands l m) others)) list

-- those of the first list for which no free one of the second may stand, and these free ones
abbrev pub joined : {X : Type 0} → (X → X → Bool) → List X → List X → List X
joined stands one two = free_of stands (free_of stands one two) one ++ free_of stands one two
