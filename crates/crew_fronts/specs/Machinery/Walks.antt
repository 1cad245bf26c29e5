-- Walks that fronts lend.
use Rattle.std.specs.Prelude.{List}
use Rattle.crew_fronts.specs.declared.walk_view.WalkKind.{WalkKind}
use Rattle.crew_fronts.specs.declared.walk_view.WalkKind.TheVariants.{Passed, Swept}
use Rattle.crew_pairing.specs.Legs.{Leg}

-- the keys of a walk
abbrev pub keys_of : WalkKind → List (List Leg)
keys_of (Swept walk) = walk
keys_of (Passed walk) = walk
