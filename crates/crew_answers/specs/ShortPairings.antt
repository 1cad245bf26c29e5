-- Pairings of at most 138 hours among those of up to 240: their vectors have no past.
use Rattle.std.specs.Prelude.{pos, List, [], map}
use Rattle.crew_pairing.specs.Legs.{Leg}
use Rattle.crew_pairing.specs.declared.vector.PairingVector.{PairingVector}
use Rattle.crew_vector.specs.Locals as Plain
use Rattle.crew_answers.specs.Locals as Long
use Rattle.crew_answers.specs.LongVectors.{LongVector}

abbrev pub with_no_past : PairingVector → LongVector
with_no_past v = record { sums = v; since_rest = pos 0; history = [] }

-- entries of a front of the one kind as entries of the other
abbrev pub with_no_pasts : List (PairingVector × List (List Leg)) → List (LongVector × List (List Leg))
with_no_pasts entries = map (λ e. (with_no_past e.0, e.1)) entries

abbrev pub sums_of : List (LongVector × List (List Leg)) → List (PairingVector × List (List Leg))
sums_of entries = map (λ e. (e.0.sums, e.1)) entries

-- duties with such entries
abbrev pub fed_with_no_past : Plain.Feed → Long.Feed
fed_with_no_past feed = map (λ f. (f.0, with_no_pasts f.1)) feed
