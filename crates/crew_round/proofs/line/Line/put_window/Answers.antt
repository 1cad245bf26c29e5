use Rattle.std.proofs.Common.{◌+◌, Bool, arith, subst, ℕ}
use Rattle.crew_round.proofs.Due.{window-more}
use Rattle.crew_round.proofs.Grown.{grows-none, stays-same, stays-then}
use Rattle.crew_round.proofs.Lined.{counted-same, shaped-same}
use Rattle.crew_round.specs.Machinery.Lines.{Grows, IsDue, IsDueIn}
use Rattle.crew_round.proofs.line.Line.put_window.Goals as goal

pub loop-departure-init : goal.loop-departure-init
loop-departure-init c = record {
  stays = stays-same c.args.self.now;
  grows = λ flag counted.
      grows-none (IsDueIn c.args.net.now c.args.cells.now c.args.carried.now c.args.self.now.any flag c.args.base c.args.window.from c.args.window.from) (IsDue c.args.net.now c.args.cells.now c.args.carried.now c.args.self.now.any flag c.args.base) c.args.self.now.set
      (λ k x. (let a = x.low in let b = x.high in omega (arith, a, b)));
}

pub put_departure-requires-clause-departure : goal.put_departure-requires-clause-departure
put_departure-requires-clause-departure c =
    let h = c.loop-departure-test.true in
    let within = c.requires.within in
    omega (arith, h, within)

pub put_departure-requires-clause-shape : goal.put_departure-requires-clause-shape
put_departure-requires-clause-shape c =
    let s = c.loop-departure.invariant.stays in
    shaped-same c.args.net.now c.args.self.now c.loop-departure.self s.counts s.long c.requires.shape

pub loop-departure-preserved : goal.loop-departure-preserved
loop-departure-preserved c =
    let s = c.loop-departure.invariant.stays in
    let t = c.put_departure.ensures.stays in
    record {
      stays = stays-then c.args.self.now c.loop-departure.self c.put_departure.new.self s t;
      grows = λ flag counted.
          let net = c.args.net.now in
          let i = c.loop-departure.departure in
          let g = c.put_departure.ensures.grows flag (counted-same net flag c.args.self.now c.loop-departure.self s.counts counted) in
          window-more net c.args.cells.now c.args.carried.now c.args.self.now.any flag c.args.base c.args.window.from i c.args.self.now.set c.loop-departure.self.set c.put_departure.new.self.set
          (c.loop-departure.invariant.grows flag counted)
          (subst (λ (a : Bool). Grows (IsDueIn net c.args.cells.now c.args.carried.now a flag c.args.base i (i + 1)) (IsDue net c.args.cells.now c.args.carried.now a flag c.args.base) c.loop-departure.self.set c.put_departure.new.self.set) s.any g)
          t.kept;
    }

pub returns-clause-grows : goal.returns-clause-grows
returns-clause-grows c = λ flag counted.
    let end = c.loop-departure.auto.departure-end c.requires.ordered in
    let past = c.loop-departure-test.false in
    subst (λ (z : ℕ). Grows (IsDueIn c.args.net.now c.args.cells.now c.args.carried.now c.args.self.now.any flag c.args.base c.args.window.from z) (IsDue c.args.net.now c.args.cells.now c.args.carried.now c.args.self.now.any flag c.args.base) c.args.self.now.set c.loop-departure.self.set)
    (omega (arith, end, past)) (c.loop-departure.invariant.grows flag counted)
