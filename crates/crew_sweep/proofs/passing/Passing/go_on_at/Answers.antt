use Rattle.std.specs.Arc.{arc_value}
use Rattle.std.proofs.Common.{◌≡◌, ◌∙◌, ◌++◌, ◌∷◌, [], List, ap, length, subst, sym}
use Rattle.crew_pairing.specs.declared.vector.PairingVector.{PairingVector}
use Rattle.crew_pool.specs.declared.label_walk.LabelWalk.{LabelWalk}
use Rattle.crew_sweep.specs.Machinery.Passing.{IsPassing}
use Rattle.crew_sweep.specs.declared.arrivals.Arrivals.{Arrivals}
use Rattle.crew_sweep.proofs.Passable as passable
use Rattle.crew_sweep.proofs.passing.Passing.go_on_at.Goals as goal

abbrev Labels : Type 0
Labels = List (PairingVector × LabelWalk)

pub pool_at-requires-clause-place : goal.pool_at-requires-clause-place
pool_at-requires-clause-place c =
    let g = c.args.ground.now in
    passable.within g.net.now g.positions.now c.requires.ground.passable (length c.args.self.now.passed.pools) c.args.place c.requires.place

pub returns-clause-stands : goal.returns-clause-stands
returns-clause-stands c =
    let g = c.args.ground.now in
    let was = c.args.self.now in
    let now = c.pool_at.new.self in
    let pool = c.in_ok-pool.pool in
    let put : Labels = arc_value c.in_ok-new.field-0 in
    let all : c.push.new.self ≡ was.passed.pools ++ pool ∷ [] = c.in_ok-push.ensures.added ∙ (ap (λ (ps : List Labels). ps ++ put ∷ []) c.pool_at.ensures.pools ∙ ap (λ (p : Labels). was.passed.pools ++ p ∷ []) c.in_ok-new.ensures.ok) in
    let passing = passable.passed g.net.now g.positions.now c.requires.ground.passable g.base g.resource was.passed.walks now.passed.walks c.pool_at.ensures.grown was.passed.pools was.arrivals.made.items was.arrivals.pools.items c.requires.stands.pools
    c.args.place c.requires.place c.args.window c.requires.window c.requires.made pool c.in_ok-pool.ensures.pooled c.in_ok-pool.ensures.counts in
    record {
      pools = subst (λ (ps : List Labels). IsPassing g.net.now g.base g.resource now.passed.walks ps now.arrivals.made.items now.arrivals.pools.items) (sym all)
          (subst (λ (a : Arrivals). IsPassing g.net.now g.base g.resource now.passed.walks (was.passed.pools ++ pool ∷ []) a.made.items a.pools.items) (sym c.pool_at.ensures.arrivals) passing);
      slides = c.in_ok-pool.ensures.stands.slides;
    }
