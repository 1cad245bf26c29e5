use Rattle.std.proofs.Common.{[], ℕ, List, Option, arith, get_or, subst}
use Rattle.crew_net.proofs.Slices.{stands}
use Rattle.crew_pairing.specs.declared.vector.PairingVector.{PairingVector}
use Rattle.crew_pool.specs.declared.label_walk.LabelWalk.{LabelWalk}
use Rattle.crew_resource.specs.Members.{Member}
use Rattle.crew_sweep.proofs.KeptSteps.{AreAlike, alike-is, laid-of}
use Rattle.crew_sweep.proofs.Marks.{leaving-within}
use Rattle.crew_sweep.proofs.renewal.is_as_before.Goals as goal

pub returns : goal.returns
returns c = λ same.
    let Labels = List (PairingVector × LabelWalk) in
    let old = c.args.earlier.now.sweep.now in
    let net = c.args.ground.now.net.now in
    let t = c.args.earlier.now.twins.now in
    let now = c.args.pool.now in
    let walks = c.args.walks.now in
    let given : AreAlike c.ranks-ranks.result.now c.walks.result.now c.pool-old.result.now walks now = c.are_alike.ensures.alike same in
    let by-ranks : AreAlike t.ranks c.walks.result.now c.pool-old.result.now walks now = subst (λ (rs : List (Option ℕ)). AreAlike rs c.walks.result.now c.pool-old.result.now walks now) c.ranks-ranks.ensures given in
    let by-walks : AreAlike t.ranks old.walks c.pool-old.result.now walks now = subst (λ (ws : List (List ℕ)). AreAlike t.ranks ws c.pool-old.result.now walks now) c.walks.ensures by-ranks in
    let alike : AreAlike t.ranks old.walks (get_or old.pools c.in-Some.position []) walks now = subst (λ (ls : Labels). AreAlike t.ranks old.walks ls walks now) c.pool-old.ensures.same by-walks in
    alike-is old net t c.requires.beside.earlier.twins c.requires.beside.earlier.laid walks c.args.place c.in-Some.position c.in-Some.ensures now alike

pub is_open-open-requires-clause-ranks : goal.is_open-open-requires-clause-ranks
is_open-open-requires-clause-ranks c rank m =
    let net = c.args.ground.now.net.now in
    let laid = laid-of net c.args.ground.now.positions.now c.requires.ground.passable in
    let g = stands net.departures c.args.place c.requires.place in
    (leaving-within net laid c.args.earlier.now.places.now c.requires.beside.places g.0 rank (subst (λ (rs : List ℕ). Member rs rank) (c.leaving.ensures g.0 g.1) m)).0

pub is_open-open-requires-clause-places : goal.is_open-open-requires-clause-places
is_open-open-requires-clause-places c rank m =
    let net = c.args.ground.now.net.now in
    let laid = laid-of net c.args.ground.now.positions.now c.requires.ground.passable in
    let g = stands net.departures c.args.place c.requires.place in
    let within = (leaving-within net laid c.args.earlier.now.places.now c.requires.beside.places g.0 rank (subst (λ (rs : List ℕ). Member rs rank) (c.leaving.ensures g.0 g.1) m)).1 in
    let long = c.requires.marks in
    omega (arith, within, long)
