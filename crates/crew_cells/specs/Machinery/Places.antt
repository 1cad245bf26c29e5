-- A value, wherever it lies.
use Rattle.crew_cells.specs.declared.value.Place.{Place}
use Rattle.crew_cells.specs.declared.value.Place.TheVariants.{There, Own}

abbrev pub value_of : {T : Type 0} → Place T → T
value_of (There value) = value.now
value_of (Own value) = value
