use Rattle.std.specs.Arc.{arc_value}
use Rattle.std.proofs.Common.{◌≡◌, ◌∙◌, ◌++◌, ◌∷◌, [], List, ap, length, subst, sym}
use Rattle.crew_pairing.specs.declared.vector.PairingVector.{PairingVector}
use Rattle.crew_pool.specs.declared.label_walk.LabelWalk.{LabelWalk}
use Rattle.crew_sweep.specs.Machinery.Passing.{HaveStayed, IsPassing}
use Rattle.crew_sweep.specs.declared.arrivals.Arrivals.{Arrivals}
use Rattle.crew_sweep.proofs.MadeAhead.{under-way-stayed}
use Rattle.crew_sweep.proofs.Passable as passable
use Rattle.crew_sweep.proofs.passing.Passing.go_on.Goals as goal

abbrev Labels : Type 0
Labels = List (PairingVector × LabelWalk)

pub window-window-requires : goal.window-window-requires
window-window-requires c =
    let g = c.args.ground.now in
    passable.within g.net.now g.positions.now c.requires.ground.passable (length c.args.self.now.passed.pools) c.args.place c.requires.place

pub make_window-requires-clause-pools : goal.make_window-requires-clause-pools
make_window-requires-clause-pools c = c.requires.stands.pools

pub make_window-requires-clause-within : goal.make_window-requires-clause-within
make_window-requires-clause-within c =
    let g = c.args.ground.now in
    let d = passable.departs-at g.net.now g.positions.now c.requires.ground.passable (length c.args.self.now.passed.pools) c.args.place c.requires.place in
    (c.window-window.ensures d.0 d.1).within

pub make_window-requires-clause-sealed : goal.make_window-requires-clause-sealed
make_window-requires-clause-sealed c place from end =
    let g = c.args.ground.now in
    let d = passable.departs-at g.net.now g.positions.now c.requires.ground.passable (length c.args.self.now.passed.pools) c.args.place c.requires.place in
    passable.window-sealed g.net.now g.positions.now c.requires.ground.passable (length c.args.self.now.passed.pools) d.0 d.2 c.window-window.result (c.window-window.ensures d.0 d.1) place from end

pub pool_at-requires-clause-stands : goal.pool_at-requires-clause-stands
pool_at-requires-clause-stands c =
    let was = c.args.self.now.arrivals in
    let now = c.make_window.new.self in
    record {
      pools = c.in_ok-make_window.ensures.pools;
      slides = under-way-stayed c.args.ground.now.net.now c.args.self.now.passed.walks was.made.items was.pools.items now.made.items now.pools.items c.in_ok-make_window.ensures.stayed c.args.self.now.slides c.requires.stands.slides;
    }

pub pool_at-requires-clause-place : goal.pool_at-requires-clause-place
pool_at-requires-clause-place c =
    let g = c.args.ground.now in
    passable.within g.net.now g.positions.now c.requires.ground.passable (length c.args.self.now.passed.pools) c.args.place c.requires.place

pub returns-clause-stands : goal.returns-clause-stands
returns-clause-stands c =
    let g = c.args.ground.now in
    let was = c.args.self.now.passed in
    let window = c.make_window.new.self in
    let now = c.pool_at.new.self in
    let pool = c.in_ok-pool.pool in
    let put : Labels = arc_value c.in_ok-new.field-0 in
    let all : c.push.new.self ≡ was.pools ++ pool ∷ [] = c.in_ok-push.ensures.added ∙ (ap (λ (ps : List Labels). ps ++ put ∷ []) c.pool_at.ensures.pools ∙ ap (λ (p : Labels). was.pools ++ p ∷ []) c.in_ok-new.ensures.ok) in
    let passing = passable.passed g.net.now g.positions.now c.requires.ground.passable g.base g.resource was.walks now.passed.walks c.pool_at.ensures.grown was.pools window.made.items window.pools.items c.in_ok-make_window.ensures.pools
    c.args.place c.requires.place c.window-window.result c.window-window.ensures c.in_ok-make_window.ensures.window pool c.in_ok-pool.ensures.pooled c.in_ok-pool.ensures.counts in
    record {
      pools = subst (λ (ps : List Labels). IsPassing g.net.now g.base g.resource now.passed.walks ps now.arrivals.made.items now.arrivals.pools.items) (sym all)
          (subst (λ (a : Arrivals). IsPassing g.net.now g.base g.resource now.passed.walks (was.pools ++ pool ∷ []) a.made.items a.pools.items) (sym c.pool_at.ensures.arrivals) passing);
      slides = c.in_ok-pool.ensures.stands.slides;
    }

pub returns-clause-stayed : goal.returns-clause-stayed
returns-clause-stayed c = subst (λ (a : Arrivals). HaveStayed c.args.self.now.arrivals.made.items c.args.self.now.arrivals.pools.items a.made.items a.pools.items) (sym c.pool_at.ensures.arrivals) c.in_ok-make_window.ensures.stayed
