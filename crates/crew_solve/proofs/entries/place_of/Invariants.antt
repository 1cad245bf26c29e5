use Rattle.std.proofs.Common.{◌≡◌, take}
use Rattle.crew_pairing.specs.Events.{departure_of}
use Rattle.crew_net.specs.Machinery.Numbered.{departure_place}
use Rattle.crew_net.specs.Positions.{in_order}
use Rattle.crew_solve.proofs.entries.place_of.Given as goal

abbrev pub invariant-loop-index : goal.invariant-loop-index
invariant-loop-index l = departure_place (take l.index (in_order l.net)) (departure_of l.duty) ≡ l.index
