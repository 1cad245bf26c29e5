use Rattle.std.specs.Arc.{arc_value}
use Rattle.std.specs.Global.{Global}
use Rattle.std.specs.declared.sync.Arc.{Arc}
use Rattle.std.proofs.Common.{◌≡◌, ◌<◌, Bool, List, Some, arith, get_or, length, subst, sym}
use Rattle.std.specs.Prelude.{IfSome, slice_get}
use Rattle.crew_net.proofs.Orders.{place-within}
use Rattle.crew_pairing.specs.declared.vector.PairingVector.{PairingVector}
use Rattle.crew_pool.specs.LabelWalks.{shown}
use Rattle.crew_pool.specs.declared.label_walk.LabelWalk.{LabelWalk}
use Rattle.crew_resource.specs.Members.{Member}
use Rattle.crew_resource.proofs.Members.{Member-map_in}
use Rattle.crew_carry.proofs.crew_step_lemmas.Grown.{grown-through}
use Rattle.crew_sweep.specs.Machinery.Mending.{AreSound, IsFresh, IsMended, IsOldPool}
use Rattle.crew_sweep.specs.Machinery.Renewing.{IsRenewing}
use Rattle.crew_sweep.proofs.Besides as besides
use Rattle.crew_sweep.proofs.Mendings as mendings
use Rattle.crew_sweep.proofs.Mends.{ranked-within}
use Rattle.crew_sweep.proofs.Passable as passable-proofs
use Rattle.crew_sweep.proofs.Redone.{carried-grown}
use Rattle.crew_sweep.proofs.Renewed.{renewing-grown}
use Rattle.crew_sweep.proofs.renewal.Renewal.mended_pool.Goals as goal

abbrev Labels : Type 0
Labels = List (PairingVector × LabelWalk)

pub old_pool-requires-clause-place : goal.old_pool-requires-clause-place
old_pool-requires-clause-place c =
    let p = c.requires.ground.passable in
    place-within c.args.ground.now.net.now p.departs p.ordered _ c.args.place c.requires.place

pub returns-in_default-clause-stands : goal.returns-in_default-clause-stands
returns-in_default-clause-stands c =
    let e = c.args.earlier.now in
    let g = c.args.ground.now in
    let was = c.args.self.now in
    let stands = c.requires.stands in
    let after = c.old_pool.new.walks in
    let grown = c.old_pool.ensures.grown in
    besides.stands-beside e g (record {
      pools = besides.pools-still e g c.requires.ground c.requires.beside was.passing stands.passing was.changed.items was.alike.items stands.marks after grown;
      slides = besides.slides-still e g c.requires.ground c.requires.beside was.passing stands.passing was.changed.items was.alike.items stands.marks after grown;
    }) (besides.marks-still e g c.requires.ground c.requires.beside was.passing stands.passing was.changed.items was.alike.items stands.marks after grown) c.in_ok-old.ensures.carried

pub fresh_labels-requires-clause-stands : goal.fresh_labels-requires-clause-stands
fresh_labels-requires-clause-stands c =
    let e = c.args.earlier.now in
    let g = c.args.ground.now in
    let was = c.args.self.now in
    let stands = c.requires.stands in
    let after = c.old_pool.new.walks in
    let grown = c.old_pool.ensures.grown in
    record {
      pools = besides.pools-still e g c.requires.ground c.requires.beside was.passing stands.passing was.changed.items was.alike.items stands.marks after grown;
      slides = besides.slides-still e g c.requires.ground c.requires.beside was.passing stands.passing was.changed.items was.alike.items stands.marks after grown;
    }

pub fresh_labels-requires-clause-ordered : goal.fresh_labels-requires-clause-ordered
fresh_labels-requires-clause-ordered c =
    let g = c.args.ground.now in
    let d = passable-proofs.departs-at g.net.now g.positions.now c.requires.ground.passable (length c.args.self.now.passing.passed.pools) c.args.place c.requires.place in
    (c.requires.window d.0 d.1).ordered

pub fresh_labels-requires-clause-within : goal.fresh_labels-requires-clause-within
fresh_labels-requires-clause-within c =
    let g = c.args.ground.now in
    let d = passable-proofs.departs-at g.net.now g.positions.now c.requires.ground.passable (length c.args.self.now.passing.passed.pools) c.args.place c.requires.place in
    (c.requires.window d.0 d.1).within

pub fresh_labels-requires-clause-sealed : goal.fresh_labels-requires-clause-sealed
fresh_labels-requires-clause-sealed c place from end =
    let g = c.args.ground.now in
    let count = length c.args.self.now.passing.passed.pools in
    let d = passable-proofs.departs-at g.net.now g.positions.now c.requires.ground.passable count c.args.place c.requires.place in
    passable-proofs.window-sealed g.net.now g.positions.now c.requires.ground.passable count d.0 d.2 c.args.window (c.requires.window d.0 d.1) place from end

pub are_reached-requires-clause-there : goal.are_reached-requires-clause-there
are_reached-requires-clause-there c l m =
    let had = subst (λ o. IfSome o (λ (p : Arc Labels Global). IsOldPool c.args.earlier.now.sweep.now c.args.ground.now.net.now c.old_pool.new.walks c.args.place (arc_value p))) c.in-Some.is c.in_ok-old.ensures.old in
    let short = (had.has.counts l (subst (λ (ls : Labels). Member ls l) c.deref-3.ensures m)).there in
    let longer = c.in_ok-fresh.ensures.grown.longer in
    omega (arith, short, longer)

pub are_reached-requires-clause-ranks : goal.are_reached-requires-clause-ranks
are_reached-requires-clause-ranks c l m rank k =
    let e = c.args.earlier.now in
    let net = c.args.ground.now.net.now in
    let now = c.fresh_labels.new.self in
    let had = subst (λ o. IfSome o (λ (p : Arc Labels Global). IsOldPool e.sweep.now net c.old_pool.new.walks c.args.place (arc_value p))) c.in-Some.is c.in_ok-old.ensures.old in
    let before = mendings.old-pool-grown e.sweep.now net c.old_pool.new.walks now.passed.walks c.in_ok-fresh.ensures.grown c.args.place (arc_value c.in-Some.old) had in
    let own = subst (λ (ls : Labels). Member ls l) c.deref-3.ensures m in
    let found = ranked-within net e.places.now c.requires.beside.places c.args.self.now.changed.items c.requires.stands.marks.long now.passed.walks l (before.has.ranked (shown now.passed.walks l) (Member-map_in (shown now.passed.walks) (arc_value c.in-Some.old) l own)) rank k in
    (found.0, subst (λ (bs : List Bool). get_or e.places.now rank 0 < length bs) (sym c.deref-2.ensures.value) found.1)

pub are_sound-requires-clause-ranks : goal.are_sound-requires-clause-ranks
are_sound-requires-clause-ranks c =
    let e = c.args.earlier.now in
    let g = c.args.ground.now in
    let old = e.sweep.now in
    let net = g.net.now in
    let was = c.args.self.now in
    let now = c.fresh_labels.new.self in
    let grown = grown-through was.passing.passed.walks c.old_pool.new.walks now.passed.walks c.old_pool.ensures.grown c.in_ok-fresh.ensures.grown in
    let same = c.in_ok-fresh.ensures.pools in
    let marks = subst (λ (ps : List Labels). IsRenewing old net now.passed.walks ps was.changed.items was.alike.items) (sym same)
    (renewing-grown old net was.passing.passed.walks now.passed.walks was.passing.passed.pools was.changed.items was.alike.items grown c.requires.stands.passing.pools.whole c.requires.stands.marks) in
    let at = subst (λ (ps : List Labels). slice_get net.by_report (length ps) ≡ Some c.args.place) (sym same) c.requires.place in
    let had = subst (λ o. IfSome o (λ (p : Arc Labels Global). IsOldPool old net c.old_pool.new.walks c.args.place (arc_value p))) c.in-Some.is c.in_ok-old.ensures.old in
    let before = mendings.old-pool-grown old net c.old_pool.new.walks now.passed.walks c.in_ok-fresh.ensures.grown c.args.place (arc_value c.in-Some.old) had in
    let newly = subst (λ (bs : List Bool). IsFresh e.twins.now bs now.passed.walks now.arrivals.made.items now.arrivals.pools.items c.args.window c.in_ok-fresh.fresh) c.deref.ensures.value c.in_ok-fresh.ensures.fresh in
    let within = mendings.walks-within e g c.requires.ground c.requires.beside now c.in_ok-fresh.ensures.stands was.changed.items was.alike.items marks c.args.place at c.args.window c.requires.window (arc_value c.in-Some.old) before c.in_ok-fresh.fresh newly c.in_ok-pool.pool (subst (λ (ls : Labels). IsMended now.passed.walks c.in_ok-fresh.fresh ls c.in_ok-pool.pool) c.deref-4.ensures c.in_ok-pool.ensures) in
    λ l m rank k.
    let found = within l (subst (λ (ls : Labels). Member ls l) c.as_slice.ensures.all m) rank k in
    (found.0, subst (λ (bs : List Bool). get_or e.places.now rank 0 < length bs) (sym c.deref-5.ensures.value) found.1)

pub returns-then-not-are_reached-clause-stands : goal.returns-then-not-are_reached-clause-stands
returns-then-not-are_reached-clause-stands c =
    let e = c.args.earlier.now in
    let g = c.args.ground.now in
    let old = e.sweep.now in
    let net = g.net.now in
    let was = c.args.self.now in
    let now = c.fresh_labels.new.self in
    let grown = grown-through was.passing.passed.walks c.old_pool.new.walks now.passed.walks c.old_pool.ensures.grown c.in_ok-fresh.ensures.grown in
    let marks = subst (λ (ps : List Labels). IsRenewing old net now.passed.walks ps was.changed.items was.alike.items) (sym c.in_ok-fresh.ensures.pools)
    (renewing-grown old net was.passing.passed.walks now.passed.walks was.passing.passed.pools was.changed.items was.alike.items grown c.requires.stands.passing.pools.whole c.requires.stands.marks) in
    let stands = c.in_ok-fresh.ensures.stands in
    besides.stands-beside e g (record { pools = stands.pools; slides = stands.slides }) marks (carried-grown e.twins.now.ranks old.walks c.old_pool.new.walks now.passed.walks c.old_pool.new.carrier c.in_ok-fresh.ensures.grown c.in_ok-old.ensures.carried)

pub returns-then-are_sound-clause-stands : goal.returns-then-are_sound-clause-stands
returns-then-are_sound-clause-stands c =
    let e = c.args.earlier.now in
    let g = c.args.ground.now in
    let old = e.sweep.now in
    let net = g.net.now in
    let was = c.args.self.now in
    let now = c.fresh_labels.new.self in
    let grown = grown-through was.passing.passed.walks c.old_pool.new.walks now.passed.walks c.old_pool.ensures.grown c.in_ok-fresh.ensures.grown in
    let marks = subst (λ (ps : List Labels). IsRenewing old net now.passed.walks ps was.changed.items was.alike.items) (sym c.in_ok-fresh.ensures.pools)
    (renewing-grown old net was.passing.passed.walks now.passed.walks was.passing.passed.pools was.changed.items was.alike.items grown c.requires.stands.passing.pools.whole c.requires.stands.marks) in
    let stands = c.in_ok-fresh.ensures.stands in
    besides.stands-beside e g (record { pools = stands.pools; slides = stands.slides }) marks (carried-grown e.twins.now.ranks old.walks c.old_pool.new.walks now.passed.walks c.old_pool.new.carrier c.in_ok-fresh.ensures.grown c.in_ok-old.ensures.carried)

pub returns-then-are_sound-clause-next : goal.returns-then-are_sound-clause-next
returns-then-are_sound-clause-next c =
    let e = c.args.earlier.now in
    let g = c.args.ground.now in
    let old = e.sweep.now in
    let net = g.net.now in
    let was = c.args.self.now in
    let now = c.fresh_labels.new.self in
    let walks = now.passed.walks in
    let grown = grown-through was.passing.passed.walks c.old_pool.new.walks walks c.old_pool.ensures.grown c.in_ok-fresh.ensures.grown in
    let same = c.in_ok-fresh.ensures.pools in
    let marks = subst (λ (ps : List Labels). IsRenewing old net walks ps was.changed.items was.alike.items) (sym same)
    (renewing-grown old net was.passing.passed.walks walks was.passing.passed.pools was.changed.items was.alike.items grown c.requires.stands.passing.pools.whole c.requires.stands.marks) in
    let at = subst (λ (ps : List Labels). slice_get net.by_report (length ps) ≡ Some c.args.place) (sym same) c.requires.place in
    let had = subst (λ o. IfSome o (λ (p : Arc Labels Global). IsOldPool old net c.old_pool.new.walks c.args.place (arc_value p))) c.in-Some.is c.in_ok-old.ensures.old in
    let before = mendings.old-pool-grown old net c.old_pool.new.walks walks c.in_ok-fresh.ensures.grown c.args.place (arc_value c.in-Some.old) had in
    let newly = subst (λ (bs : List Bool). IsFresh e.twins.now bs walks now.arrivals.made.items now.arrivals.pools.items c.args.window c.in_ok-fresh.fresh) c.deref.ensures.value c.in_ok-fresh.ensures.fresh in
    let told = c.are_sound.ensures c.if-are_sound.true in
    let marked = subst (λ (bs : List Bool). AreSound e.twins.now bs e.places.now walks c.count-added.result c.as_slice.result.now) c.deref-5.ensures.value told in
    let sound = subst (AreSound e.twins.now was.changed.items e.places.now walks c.count-added.result) c.as_slice.ensures.all marked in
    mendings.next-pool e g c.requires.ground c.requires.beside now c.in_ok-fresh.ensures.stands was.changed.items was.alike.items marks c.args.place at c.args.window c.requires.window (arc_value c.in-Some.old) before c.in_ok-fresh.fresh newly c.in_ok-pool.pool (subst (λ (ls : Labels). IsMended walks c.in_ok-fresh.fresh ls c.in_ok-pool.pool) c.deref-4.ensures c.in_ok-pool.ensures)
    c.count-added.result (λ l m. subst (λ n. l.1.walk < n) (sym c.count-added.ensures) (had.has.counts l m).there) sound

pub returns-clause-stands : goal.returns-clause-stands
returns-clause-stands c =
    let e = c.args.earlier.now in
    let g = c.args.ground.now in
    let old = e.sweep.now in
    let net = g.net.now in
    let was = c.args.self.now in
    let now = c.fresh_labels.new.self in
    let grown = grown-through was.passing.passed.walks c.old_pool.new.walks now.passed.walks c.old_pool.ensures.grown c.in_ok-fresh.ensures.grown in
    let marks = subst (λ (ps : List Labels). IsRenewing old net now.passed.walks ps was.changed.items was.alike.items) (sym c.in_ok-fresh.ensures.pools)
    (renewing-grown old net was.passing.passed.walks now.passed.walks was.passing.passed.pools was.changed.items was.alike.items grown c.requires.stands.passing.pools.whole c.requires.stands.marks) in
    let stands = c.in_ok-fresh.ensures.stands in
    besides.stands-beside e g (record { pools = stands.pools; slides = stands.slides }) marks (carried-grown e.twins.now.ranks old.walks c.old_pool.new.walks now.passed.walks c.old_pool.new.carrier c.in_ok-fresh.ensures.grown c.in_ok-old.ensures.carried)
