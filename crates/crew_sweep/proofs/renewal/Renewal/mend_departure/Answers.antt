use Rattle.std.proofs.Common.{◌∙◌, ◌++◌, ◌∷◌, [], List, ap, arith, length, subst, sym}
use Rattle.std.specs.Prelude.{IfSome}
use Rattle.crew_pairing.specs.declared.vector.PairingVector.{PairingVector}
use Rattle.crew_pool.specs.declared.label_walk.LabelWalk.{LabelWalk}
use Rattle.crew_carry.proofs.crew_step_lemmas.Grown.{grown-itself}
use Rattle.crew_sweep.specs.Machinery.Mending.{IsNextPool}
use Rattle.crew_sweep.specs.Machinery.Passing.{IsPassing}
use Rattle.crew_sweep.proofs.Keepings as keepings
use Rattle.crew_sweep.proofs.Passable as passable-proofs
use Rattle.crew_sweep.proofs.renewal.Renewal.mend_departure.Goals as goal

abbrev Labels : Type 0
Labels = List (PairingVector × LabelWalk)

pub window-window-requires : goal.window-window-requires
window-window-requires c =
    let g = c.args.ground.now in
    passable-proofs.within g.net.now g.positions.now c.requires.ground.passable (length c.args.self.now.passing.passed.pools) c.args.place c.requires.place

pub is_worth_it-requires-clause-marks : goal.is_worth_it-requires-clause-marks
is_worth_it-requires-clause-marks c =
    let g = c.args.ground.now in
    let d = passable-proofs.departs-at g.net.now g.positions.now c.requires.ground.passable (length c.args.self.now.passing.passed.pools) c.args.place c.requires.place in
    let within = (c.window-window.ensures d.0 d.1).within in
    let long = c.requires.stands.marks.long in
    let deref = c.deref.ensures.value in
    omega (arith, within, long, ap length deref)

pub returns-clause-stands : goal.returns-clause-stands
returns-clause-stands c =
    let g = c.args.ground.now in
    let net = g.net.now in
    let now = c.mended_pool.new.self.passing in
    let stands = c.in_ok-mended.ensures.stands.passing in
    let walks = now.passed.walks in
    let next = subst (λ o. IfSome o (IsNextPool net g.base g.resource walks now.passed.pools)) c.in-Some.is c.in_ok-mended.ensures.next in
    let more = keepings.passing-with net g.positions.now c.requires.ground.passable g.base g.resource walks walks (grown-itself walks) now.passed.pools now.arrivals.made.items now.arrivals.pools.items stands.pools c.in-Some.pool next.local next.counts next.labels in
    let all = c.in_ok-push.ensures.added ∙ ap (λ (p : Labels). now.passed.pools ++ p ∷ []) c.in_ok-new.ensures.ok in
    record {
      pools = subst (λ (ps : List Labels). IsPassing net g.base g.resource walks ps now.arrivals.made.items now.arrivals.pools.items) (sym all) more;
      slides = stands.slides;
    }
