-- Where a duty's departure stands.
use Rattle.std.proofs.Common.{◌≡◌, Some, subst, length, arith}
use Rattle.std.specs.Prelude.{slice_get}
use Rattle.std.specs.List.{range_with_len}
use Rattle.std.proofs.lemmas.List.FromFn.{get_or-range_with_len, length-range_with_len}
use Rattle.crew_pairing.proofs.Shuffled.{Member-shuffled}
use Rattle.crew_net.specs.Events.{AreEvents, departure_cmp}
use Rattle.crew_net.specs.Nets.{AreByReport, Net}
use Rattle.crew_pairing.specs.Events.{departure_of}
use Rattle.crew_pairing.specs.declared.duty.Duty.{Duty}
use Rattle.crew_resource.proofs.Members.{Member-get_or, Member-map_in}
use Rattle.crew_resource.specs.Members.{Member}
use Rattle.crew_solve.proofs.Departing.{get-by, member-at}
use Rattle.crew_net.proofs.Numbers.{at-departure, get-within}
use Rattle.crew_net.specs.Machinery.Numbered.{departure_place}
use Rattle.crew_net.specs.Positions.{departure_at, in_order}

-- a duty's departure stands at its place
pub stands : (net : Net) (d : Duty) → AreEvents departure_of departure_cmp net.duties net.departures → AreByReport net.departures net.by_report → Member net.duties d
    → slice_get (in_order net) (departure_place (in_order net) (departure_of d)) ≡ Some (departure_of d)
stands net d events order m =
    let g = departure_of d in
    let all = range_with_len 0 (length net.departures) in
    let k = member-at net.departures g (events.every d m) in
    let low = get-within net.departures k.0 g k.1 in
    let long = length-range_with_len 0 (length net.departures) in
    let at = get_or-range_with_len 0 (length net.departures) k.0 k.0 low in
    let among = Member-get_or all k.0 k.0 (omega (arith, low, long)) (omega (arith, at)) in
    let placed = Member-shuffled all net.by_report k.0 order.all among in
    let held = Member-map_in (departure_at net.departures) net.by_report k.0 placed in
    at-departure (in_order net) g (subst (Member (in_order net)) (get-by net.departures k.0 _ g k.1) held)
