use Rattle.std.proofs.Common.{◌≡◌, ◌<◌, [], List, Ok, get_or, length, refl, subst, sym, ap}
use Rattle.crew_carry.specs.Carried.{IsCarried}
use Rattle.crew_net.proofs.Slices.{get-at, item-in, member-got}
use Rattle.crew_pairing.specs.declared.vector.PairingVector.{PairingVector}
use Rattle.crew_pool.specs.declared.label_walk.LabelWalk.{LabelWalk}
use Rattle.crew_sweep.specs.Machinery.Passing.{IsSealed}
use Rattle.crew_sweep.specs.Machinery.Renewing.{IsRenewing}
use Rattle.crew_sweep.specs.declared.passed.Passed.{Passed}
use Rattle.crew_sweep.proofs.Besides.{stands-beside}
use Rattle.crew_sweep.proofs.Renewed.{renewing-seen}
use Rattle.crew_sweep.proofs.SeenOnes as seen
use Rattle.crew_sweep.proofs.renewal.Renewal.see.Goals as goal

abbrev Labels : Type 0
Labels = List (PairingVector × LabelWalk)

pub showed-requires-clause-counts : goal.showed-requires-clause-counts
showed-requires-clause-counts c =
    let stands = c.in_ok-make_arrival.ensures.stands in
    let held = c.make_arrival.new.self.arrivals.pools.items in
    let pool = c.index-pool.result.now in
    let within = subst (λ n. c.args.place < n) (sym stands.pools.long) c.requires.place in
    stands.pools.pending pool (member-got held c.args.place pool (item-in held held c.args.place pool within refl c.index-pool.ensures))

pub returns-else-same-clause-stands : goal.returns-else-same-clause-stands
returns-else-same-clause-stands c =
    let e = c.args.earlier.now in
    let g = c.args.ground.now in
    let old = e.sweep.now in
    let was = c.args.self.now in
    let stands = c.requires.stands in
    let same = sym c.make_arrival.ensures.passed in
    let stood = c.in_ok-make_arrival.ensures.stands in
    stands-beside e g (record { pools = stood.pools; slides = stood.slides })
    (subst (λ (p : Passed). IsRenewing old g.net.now p.walks p.pools was.changed.items was.alike.items) same stands.marks)
    (subst (λ (p : Passed). IsCarried e.twins.now.ranks old.walks p.walks was.carrier) same stands.carried)

pub returns-then-same-clause-stands : goal.returns-then-same-clause-stands
returns-then-same-clause-stands c =
    let e = c.args.earlier.now in
    let g = c.args.ground.now in
    let old = e.sweep.now in
    let was = c.args.self.now in
    let now = c.make_arrival.new.self in
    let stood = c.requires.stands in
    let same = sym c.make_arrival.ensures.passed in
    let stands = c.in_ok-make_arrival.ensures.stands in
    let marks = subst (λ (p : Passed). IsRenewing old g.net.now p.walks p.pools was.changed.items was.alike.items) same stood.marks in
    let shut = subst (λ (p : Passed). IsSealed g.net.now (length p.pools) c.args.place) same c.requires.sealed in
    let held = now.arrivals.pools.items in
    let pool = c.index-pool.result.now in
    let within = subst (λ n. c.args.place < n) (sym stands.pools.long) c.requires.place in
    let here : pool ≡ get_or held c.args.place [] = sym (get-at held c.args.place pool [] (item-in held held c.args.place pool within refl c.index-pool.ensures)) in
    let found = c.in_ok-same.ensures (ap Ok c.if-same.true) in
    let shows = seen.shows-same e g c.requires.beside now.passed.walks now.passed.pools now.arrivals.made.items held stands.pools c.args.place c.args.old c.requires.place shut (c.has_event.ensures c.if-not-has_event.false) c.in_ok-make_arrival.ensures.made pool here found.0 found.1 found.2 in
    stands-beside e g (record { pools = stands.pools; slides = stands.slides }) (renewing-seen old g.net.now now.passed.walks now.passed.pools was.changed.items was.alike.items marks c.args.place c.args.old shows)
    (subst (λ (p : Passed). IsCarried e.twins.now.ranks old.walks p.walks was.carrier) same stood.carried)
