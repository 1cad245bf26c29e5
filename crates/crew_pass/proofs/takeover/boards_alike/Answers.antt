use Rattle.std.proofs.Common.{get_or, arith}
use Rattle.crew_net.specs.Positions.{in_order}
use Rattle.crew_net.proofs.Numbers.{get-within}
use Rattle.crew_net.proofs.Orders.{in-order-long}
use Rattle.crew_net.proofs.Slices.{stands}
use Rattle.crew_pairing.specs.Events.{departure_of}
use Rattle.crew_pass.proofs.takeover.boards_alike.Goals as goal

pub is_alike-requires-clause-position : goal.is_alike-requires-clause-position
is_alike-requires-clause-position g c =
    let net = c.args.ground.now.net.now in
    let p = c.requires.may.terms.passable in
    let rank = c.args.rank in
    let position = get_or c.args.ground.now.positions.now rank 0 in
    let d = stands net.duties rank c.requires.rank in
    let inside = get-within (in_order net) position (departure_of d.0) (p.are_positions.exact rank d.0 d.1) in
    let long = in-order-long net p.departs p.ordered in
    omega (arith, inside, long)
