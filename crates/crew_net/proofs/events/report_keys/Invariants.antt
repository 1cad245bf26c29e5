use Rattle.std.proofs.Common.{◌≡◌, map, take}
use Rattle.crew_net.specs.Machinery.Moments.{keyed_slot, slots_from}
use Rattle.crew_pairing.specs.declared.events.Departure.{Departure}
use Rattle.crew_net.proofs.events.report_keys.Given as goal

abbrev pub invariant-loop-place : goal.invariant-loop-place
invariant-loop-place l = map keyed_slot l.keys.items ≡ slots_from 0 (map (λ (g : Departure). g.report) (take l.place l.departures))
