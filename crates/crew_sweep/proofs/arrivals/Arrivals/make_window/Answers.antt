use Rattle.std.proofs.Common.{◌≡◌, ◌<◌, ◌+◌, ◌⊎◌, ℕ, subst, sym, arith, ⊎_elim}
use Rattle.crew_sweep.specs.Machinery.Passing.{IsMade}
use Rattle.crew_sweep.proofs.Slidings.{stayed-itself, stayed-through}
use Rattle.crew_sweep.proofs.arrivals.Arrivals.make_window.Goals as goal

pub loop-place-init : goal.loop-place-init
loop-place-init c = (
  c.requires.pools,
  stayed-itself c.args.self.now.made.items c.args.self.now.pools.items,
  λ place from end. absurd (omega (arith, from, end)),
)

pub make-requires-clause-pools : goal.make-requires-clause-pools
make-requires-clause-pools c = c.loop-place.invariant.0

pub make-requires-clause-sealed : goal.make-requires-clause-sealed
make-requires-clause-sealed c = (let from = c.loop-place.auto.place in let end = c.loop-place-test.true in c.requires.sealed c.loop-place.place (omega (arith, from)) (omega (arith, end)))

pub loop-place-preserved : goal.loop-place-preserved
loop-place-preserved c =
    let first = c.args.self.now in
    let was = c.loop-place.self in
    let now = c.make.new.self in
    let stayed = c.in_ok-make.ensures.stayed in (
      c.in_ok-make.ensures.pools,
      stayed-through first.made.items first.pools.items was.made.items was.pools.items now.made.items now.pools.items c.loop-place.invariant.1 stayed,
      λ place from end. ⊎_elim {C = IsMade now.made.items place} (λ l. (stayed place (c.loop-place.invariant.2 place from l)).0) (λ e. subst (IsMade now.made.items) (sym e) c.in_ok-make.ensures.made) (below-or-at place c.loop-place.place end),
    )
  where
    below-or-at : (p k : ℕ) → p < k + 1 → (p < k) ⊎ (p ≡ k)
    below-or-at p k h = grind arith

pub returns-clause-window : goal.returns-clause-window
returns-clause-window c = λ place from end. c.loop-place.invariant.2 place from (omega (arith, end, c.loop-place-test.false))
