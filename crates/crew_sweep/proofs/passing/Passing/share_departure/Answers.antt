use Rattle.std.proofs.Common.{◌∙◌, ◌<◌, ◌++◌, ◌∷◌, [], List, ap, arith, length, subst, sym}
use Rattle.crew_net.proofs.Orders.{place-within}
use Rattle.crew_pairing.specs.declared.vector.PairingVector.{PairingVector}
use Rattle.crew_pool.specs.declared.label_walk.LabelWalk.{LabelWalk}
use Rattle.crew_sweep.specs.Machinery.Passing.{IsPassing}
use Rattle.crew_sweep.proofs.SamePools.{passing-shared}
use Rattle.crew_sweep.proofs.passing.Passing.share_departure.Goals as goal

abbrev Labels : Type 0
Labels = List (PairingVector × LabelWalk)

pub same_position-requires-clause-place : goal.same_position-requires-clause-place
same_position-requires-clause-place c =
    let p = c.requires.ground.passable in
    place-within c.args.ground.now.net.now p.departs p.ordered _ c.args.place c.requires.place

pub returns-clause-stands : goal.returns-clause-stands
returns-clause-stands c =
    let g = c.args.ground.now in
    let was = c.args.self.now in
    let pools = was.passed.pools in
    let position = c.in-Some.position in
    let here = c.if-position-len.false in
    let long = c.len.ensures in
    let short : position < length pools = omega (arith, here, long) in
    let all = c.in_ok-push_with.ensures.added ∙ ap (λ (p : Labels). pools ++ p ∷ []) (c.in_ok-pool.ensures ∙ c.shared.ensures) in
    let shared = passing-shared g.net.now g.positions.now c.requires.ground.passable g.base g.resource was.passed.walks pools was.arrivals.made.items was.arrivals.pools.items c.requires.stands.pools c.args.place c.requires.place position short c.in-Some.ensures in
    record {
      pools = subst (λ (ps : List Labels). IsPassing g.net.now g.base g.resource was.passed.walks ps was.arrivals.made.items was.arrivals.pools.items) (sym all) shared;
      slides = c.requires.stands.slides;
    }
