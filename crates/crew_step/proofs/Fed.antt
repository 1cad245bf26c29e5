-- The opening of a duty, and the extensions of the entries of a feed.
use Rattle.std.proofs.Common.{◌≡◌, List, Option, map}
use Rattle.std.specs.List.{flat_map}
use Rattle.std.specs.Option.{option_map}
use Rattle.crew_pairing.specs.Legs.{Leg}
use Rattle.crew_pairing.specs.declared.duty.Duty.{Duty}
use Rattle.crew_pairing.specs.declared.vector.PairingVector.{PairingVector}
use Rattle.crew_vector.specs.Machinery.Numbers.{named, numbers_of}
use Rattle.crew_vector.specs.Machinery.Sides.{opened, stepped}
use Rattle.crew_vector.specs.declared.resource.VectorResource.{VectorResource}
use Rattle.crew_step.specs.Machinery.Candidates.{all_extensions, extensions}
use Rattle.crew_step.specs.declared.feed.Predecessor.{Predecessor}
use Rattle.crew_step.proofs.Loops.{flat-mapped}

abbrev pub by_opening : VectorResource → Duty → Option PairingVector
by_opening r d = option_map named (opened r d)

abbrev pub by_step : VectorResource → PairingVector → Duty → Duty → Option PairingVector
by_step r v last next = option_map named (stepped r (numbers_of v) last next)

abbrev pub fed : Predecessor → Duty × List (PairingVector × List (List Leg))
fed p = (p.duty, p.front.value)

abbrev pub fed-extensions : VectorResource → Duty → Predecessor → List (PairingVector × List (List Leg))
fed-extensions r next p = extensions (by_step r) next (fed p)

pub fed-whole : (r : VectorResource) (next : Duty) (ps : List Predecessor) → all_extensions (by_step r) next (map fed ps) ≡ flat_map (fed-extensions r next) ps
fed-whole r next ps = flat-mapped (extensions (by_step r) next) fed ps
