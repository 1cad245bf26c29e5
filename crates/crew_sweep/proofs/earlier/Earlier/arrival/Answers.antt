use Rattle.std.proofs.Common.{◌<◌, Err, IfOk, List, Ok, length, subst, sym, ℕ}
use Rattle.std.specs.declared.result.Result.{Result}
use Rattle.crew_net.specs.Nets.{Net}
use Rattle.crew_sweep.specs.Machinery.Passing.{IsArrivalPool, IsPassing, IsSealed}
use Rattle.crew_sweep.proofs.SeenOnes as seen
use Rattle.crew_sweep.proofs.earlier.Earlier.arrival.Goals as goal

pub arrival_from-requires-clause-pools : goal.arrival_from-requires-clause-pools
arrival_from-requires-clause-pools c =
    let e = c.args.self.now in
    let g = c.args.ground.now in
    let made = seen.made e g c.requires.beside in
    let held = seen.held e g c.requires.beside in (
      made,
      held,
      subst (λ (ps : List seen.Labels). IsPassing e.ground.net.now e.ground.base e.ground.resource c.walks-walks.result.now ps made held) (sym c.pools-pools.ensures.all)
          (subst (λ (ws : List (List ℕ)). IsPassing e.ground.net.now e.ground.base e.ground.resource ws e.sweep.now.pools made held) (sym c.walks-walks.ensures) (seen.own-passing e g c.requires.beside)),
    )

pub arrival_from-requires-clause-place : goal.arrival_from-requires-clause-place
arrival_from-requires-clause-place c = subst (λ (n : Net). c.args.place < length n.arrivals) (sym c.requires.beside.own_net) c.requires.place

pub arrival_from-requires-clause-sealed : goal.arrival_from-requires-clause-sealed
arrival_from-requires-clause-sealed c =
    let e = c.args.self.now in
    subst (λ (ps : List seen.Labels). IsSealed e.ground.net.now (length ps) c.args.place) (sym c.pools-pools.ensures.all) (seen.own-sealed e c.args.ground.now c.requires.beside c.args.place)

pub returns : goal.returns
returns c =
    let e = c.args.self.now in
    let g = c.args.ground.now in
    let place = c.args.place in
    if-ok c.arrival_from.result (λ pool is.
    seen.shows-old e g c.requires.beside place c.requires.place pool
    (subst (λ (ps : List seen.Labels). IsArrivalPool e.ground.net.now e.ground.positions.now e.ground.resource e.sweep.now.walks ps place pool) c.pools-pools.ensures.all
    (subst (λ (ws : List (List ℕ)). IsArrivalPool e.ground.net.now e.ground.positions.now e.ground.resource ws c.pools-pools.result.now place pool) c.walks-walks.ensures is))) c.arrival_from.ensures
  where
    if-ok : {X E : Type 0} {P Q : X → Type 0} (r : Result X E) → ((x : X) → P x → Q x) → IfOk r P → IfOk r Q
    if-ok (Ok x) f p = f x p
    if-ok (Err e) f p = tt
