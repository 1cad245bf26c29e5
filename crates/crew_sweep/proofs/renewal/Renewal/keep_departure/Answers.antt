use Rattle.std.specs.Arc.{arc_value}
use Rattle.std.proofs.Common.{Bool, List, Option, subst, sym, ℕ}
use Rattle.std.specs.Prelude.{IfSome}
use Rattle.crew_net.proofs.Orders.{place-within}
use Rattle.crew_pairing.specs.declared.vector.PairingVector.{PairingVector}
use Rattle.crew_pool.specs.declared.label_walk.LabelWalk.{LabelWalk}
use Rattle.crew_sweep.specs.Machinery.Passing.{IsPassing}
use Rattle.crew_sweep.specs.Machinery.Renewing.{IsKeptPool, IsRenewing}
use Rattle.crew_sweep.specs.declared.earlier.Kept.{Kept}
use Rattle.crew_sweep.proofs.Besides as besides
use Rattle.crew_sweep.proofs.renewal.Renewal.keep_departure.Goals as goal

abbrev Labels : Type 0
Labels = List (PairingVector × LabelWalk)

pub kept_pool-requires-clause-place : goal.kept_pool-requires-clause-place
kept_pool-requires-clause-place c =
    let p = c.requires.ground.passable in
    place-within c.args.ground.now.net.now p.departs p.ordered _ c.args.place c.requires.place

pub returns-in_default-clause-stands : goal.returns-in_default-clause-stands
returns-in_default-clause-stands c =
    let e = c.args.earlier.now in
    let g = c.args.ground.now in
    let was = c.args.self.now in
    let stands = c.requires.stands in
    let after = c.kept_pool.new.walks in
    let grown = c.kept_pool.ensures.grown in
    besides.stands-beside e g (record {
      pools = besides.pools-still e g c.requires.ground c.requires.beside was.passing stands.passing was.changed.items was.alike.items stands.marks after grown;
      slides = besides.slides-still e g c.requires.ground c.requires.beside was.passing stands.passing was.changed.items was.alike.items stands.marks after grown;
    }) (besides.marks-still e g c.requires.ground c.requires.beside was.passing stands.passing was.changed.items was.alike.items stands.marks after grown) c.in_ok-kept.ensures.carried

pub returns-clause-stands : goal.returns-clause-stands
returns-clause-stands c =
    let e = c.args.earlier.now in
    let g = c.args.ground.now in
    let net = g.net.now in
    let old = e.sweep.now in
    let was = c.args.self.now in
    let stands = c.requires.stands in
    let after = c.kept_pool.new.walks in
    let grown = c.kept_pool.ensures.grown in
    let made = was.passing.arrivals.made.items in
    let held = was.passing.arrivals.pools.items in
    let found = c.in_ok-kept.kept in
    let changed = c.deref.result.now in
    let noted = subst (λ (qs : List (Option ℕ)). IfSome found (λ (k : Kept). IsKeptPool old net e.twins.now changed qs after c.args.place (arc_value k.pool))) c.deref-2.ensures.value c.in_ok-kept.ensures.kept in
    let marked = subst (λ (bs : List Bool). IfSome found (λ (k : Kept). IsKeptPool old net e.twins.now bs was.alike.items after c.args.place (arc_value k.pool))) c.deref.ensures.value noted in
    let kept = subst (λ (o : Option Kept). IfSome o (λ (k : Kept). IsKeptPool old net e.twins.now was.changed.items was.alike.items after c.args.place (arc_value k.pool))) c.in-Some.is marked in
    let pools = besides.pools-more e g c.requires.ground c.requires.beside was.passing stands.passing was.changed.items was.alike.items stands.marks after grown c.args.place c.requires.place (arc_value c.in-Some.kept.pool) kept in
    let marks = besides.marks-more e g c.requires.ground c.requires.beside was.passing stands.passing was.changed.items was.alike.items stands.marks after grown c.args.place c.requires.place (arc_value c.in-Some.kept.pool) kept in
    besides.stands-beside e g (record {
      pools = subst (λ (ps : List Labels). IsPassing net g.base g.resource after ps made held) (sym c.in_ok-push_with.ensures.added) pools;
      slides = besides.slides-still e g c.requires.ground c.requires.beside was.passing stands.passing was.changed.items was.alike.items stands.marks after grown;
    }) (subst (λ (ps : List Labels). IsRenewing old net after ps was.changed.items was.alike.items) (sym c.in_ok-push_with.ensures.added) marks) c.in_ok-kept.ensures.carried
