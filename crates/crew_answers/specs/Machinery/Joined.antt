-- The three parts of a value by name, and in pairs, as resources side by side keep them.
use Rattle.crew_long.specs.declared.recent.Recent.{Recent}
use Rattle.crew_long.specs.declared.rest_end.RestEnd.{RestEnd}
use Rattle.crew_long.specs.declared.since_rest.SinceRest.{SinceRest}
use Rattle.crew_long.specs.declared.window.Window.{Window}
use Rattle.crew_pairing.specs.declared.vector.PairingVector.{PairingVector}
use Rattle.crew_resource.specs.declared.both.Both.{Both}
use Rattle.crew_vector.specs.declared.resource.VectorResource.{VectorResource}
use Rattle.crew_answers.specs.declared.resource.LongResource.{LongResource}
use Rattle.crew_answers.specs.declared.value.LongValue.{LongValue}

abbrev pub Parts : Type 0
Parts = PairingVector × (RestEnd × Recent)

abbrev pub parts_of : LongValue → Parts
parts_of v = (v.sums, (v.rest_end, v.recent))

abbrev pub joined : Parts → LongValue
joined p = record { sums = p.0; rest_end = p.1.0; recent = p.1.1 }

abbrev pub past_of : LongResource → Both SinceRest Window
past_of r = record { first = r.rest; second = r.window }

abbrev pub sides_of : LongResource → Both VectorResource (Both SinceRest Window)
sides_of r = record { first = r.sums; second = past_of r }
