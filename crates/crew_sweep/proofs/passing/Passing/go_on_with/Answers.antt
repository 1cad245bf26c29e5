use Rattle.std.specs.Arc.{arc_value}
use Rattle.std.proofs.Common.{◌≡◌, ◌∙◌, ◌++◌, ◌∷◌, [], List, ap, length, subst, sym}
use Rattle.crew_pairing.specs.declared.vector.PairingVector.{PairingVector}
use Rattle.crew_pool.specs.declared.label_walk.LabelWalk.{LabelWalk}
use Rattle.crew_sweep.specs.Machinery.Passing.{IsPassing}
use Rattle.crew_sweep.proofs.Aheads.{pooled-by}
use Rattle.crew_sweep.proofs.Passable as passable
use Rattle.crew_sweep.proofs.Slidings.{under-way-grown}
use Rattle.crew_sweep.proofs.passing.Passing.go_on_with.Goals as goal

abbrev Labels : Type 0
Labels = List (PairingVector × LabelWalk)

pub pool_over-requires-clause-place : goal.pool_over-requires-clause-place
pool_over-requires-clause-place c =
    let g = c.args.ground.now in
    passable.within g.net.now g.positions.now c.requires.ground.passable (length c.args.self.now.passed.pools) c.args.place c.requires.place

pub returns-clause-stands : goal.returns-clause-stands
returns-clause-stands c =
    let g = c.args.ground.now in
    let net = g.net.now in
    let was = c.args.self.now.passed in
    let made = c.args.self.now.arrivals.made.items in
    let held = c.args.self.now.arrivals.pools.items in
    let place = c.args.place in
    let window = c.args.window in
    let after = c.pool_over.new.walks in
    let grown = c.pool_over.ensures.grown in
    let pool = c.in_ok-pool.pool in
    let put : Labels = arc_value c.in_ok-new.field-0 in
    let all : c.push.new.self ≡ was.pools ++ pool ∷ [] = c.in_ok-push.ensures.added ∙ ap (λ (p : Labels). was.pools ++ p ∷ []) c.in_ok-new.ensures.ok in
    let d = passable.departs-at net g.positions.now c.requires.ground.passable (length was.pools) place c.requires.place in
    let pooled = pooled-by net g.base g.resource was.walks after place window held c.args.waiting pool (c.requires.window d.0 d.1).ordered c.requires.part c.in_ok-pool.ensures.pooled in
    let passing = passable.passed net g.positions.now c.requires.ground.passable g.base g.resource was.walks after grown was.pools made held c.requires.stands.pools place c.requires.place window c.requires.window c.requires.made pool pooled c.in_ok-pool.ensures.counts in
    record {
      pools = subst (λ (ps : List Labels). IsPassing net g.base g.resource after ps made held) (sym all) passing;
      slides = under-way-grown net was.walks after grown made held c.requires.stands.pools.pending c.args.self.now.slides c.requires.stands.slides;
    }
