use Rattle.std.proofs.Common.{List, Ok, ap, subst, true}
use Rattle.crew_net.proofs.Orders.{place-within}
use Rattle.crew_pairing.specs.declared.vector.PairingVector.{PairingVector}
use Rattle.crew_pool.specs.Counted.{AreCounted}
use Rattle.crew_pool.specs.declared.label_walk.LabelWalk.{LabelWalk}
use Rattle.crew_resource.specs.Members.{Member}
use Rattle.crew_sweep.proofs.Redone.{on-ok-of}
use Rattle.crew_sweep.proofs.Renewed.{renewing-grown}
use Rattle.crew_sweep.proofs.renewal.Renewal.make_departure.Goals as goal

abbrev Labels : Type 0
Labels = List (PairingVector × LabelWalk)

pub returns-clause-marks : goal.returns-clause-marks
returns-clause-marks c =
    let was = c.args.self.now.passing.passed.pools in
    let mid = c.mend_departure.new.self in
    let walks = mid.passing.passed.walks in
    let same = c.in_ok-mend_departure.ensures.not_mended (ap Ok c.if-branch.false) in
    let whole = subst (λ (ps : List Labels). (labels : Labels) → Member ps labels → AreCounted (λ (v : PairingVector). v.duties) walks true labels) same c.in_ok-mend_departure.ensures.stands.pools.whole in
    on-ok-of c.go_on.result (renewing-grown c.args.earlier.now.sweep.now c.args.ground.now.net.now walks c.go_on.new.self.passed.walks was mid.changed.items mid.alike.items c.go_on.ensures.grown whole c.in_ok-mend_departure.ensures.marks)

pub can_share-requires-clause-place : goal.can_share-requires-clause-place
can_share-requires-clause-place c =
    let p = c.requires.ground.passable in
    place-within c.args.ground.now.net.now p.departs p.ordered _ c.args.place c.requires.place

pub returns-then-can_share-clause-marks : goal.returns-then-can_share-clause-marks
returns-then-can_share-clause-marks c =
    let was = c.args.self.now in
    on-ok-of c.go_on_alike.result (renewing-grown c.args.earlier.now.sweep.now c.args.ground.now.net.now was.passing.passed.walks c.go_on_alike.new.self.passed.walks was.passing.passed.pools was.changed.items was.alike.items c.go_on_alike.ensures.grown c.requires.stands.passing.pools.whole c.requires.stands.marks)
