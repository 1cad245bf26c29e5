use Rattle.std.proofs.Common.{get_or, arith}
use Rattle.std.proofs.lemmas.Result.{on_ok_weaker}
use Rattle.crew_net.specs.Positions.{in_order}
use Rattle.crew_net.proofs.Numbers.{get-within}
use Rattle.crew_net.proofs.Orders.{in-order-long}
use Rattle.crew_net.proofs.Slices.{stands}
use Rattle.crew_pairing.specs.Events.{departure_of}
use Rattle.crew_pass.proofs.More.{stay-then}
use Rattle.crew_pass.proofs.seeing.see_front.Goals as goal

pub see_departure-requires-clause-position : goal.see_departure-requires-clause-position
see_departure-requires-clause-position g c =
    let net = c.args.ground.now.net.now in
    let p = c.requires.may.terms.passable in
    let rank = c.args.rank in
    let position = get_or c.args.ground.now.positions.now rank 0 in
    let d = stands net.duties rank c.requires.rank in
    let inside = get-within (in_order net) position (departure_of d.0) (p.are_positions.exact rank d.0 d.1) in
    let long = in-order-long net p.departs p.ordered in
    omega (arith, inside, long)

pub returns-clause-stays : goal.returns-clause-stays
returns-clause-stays g c =
    on_ok_weaker c.take_front.result (λ more. stay-then c.args.seen.now c.see_departure.new.seen c.take_front.new.seen c.in_ok-see_departure.ensures.stays more) c.take_front.ensures.stays
