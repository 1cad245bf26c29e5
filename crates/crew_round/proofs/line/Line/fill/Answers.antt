use Rattle.std.proofs.Common.{◌≡◌, Bool, ap, arith, length, subst, ℕ}
use Rattle.crew_round.proofs.Due.{base-more}
use Rattle.crew_round.proofs.Grown.{grows-none, stays-same, stays-then}
use Rattle.crew_round.proofs.Lined.{counted-same, shaped-same}
use Rattle.crew_round.specs.Machinery.Lines.{Grows, IsDue, IsDueIn, IsDueOf}
use Rattle.crew_round.proofs.line.Line.fill.Goals as goal

pub loop-base-init : goal.loop-base-init
loop-base-init c = record {
  stays = stays-same c.args.self.now;
  grows = λ flag counted.
      grows-none (IsDueOf c.args.net.now c.args.cells.now c.args.carried.now c.args.self.now.any flag 0) (IsDueOf c.args.net.now c.args.cells.now c.args.carried.now c.args.self.now.any flag (length c.args.net.now.bases)) c.args.self.now.set
      (λ k x. (let h = x.high in omega (arith, h)));
}

pub put_window-requires-clause-shape : goal.put_window-requires-clause-shape
put_window-requires-clause-shape c =
    let s = c.loop-base.invariant.stays in
    shaped-same c.args.net.now c.args.self.now c.loop-base.self s.counts s.long c.requires

pub loop-base-preserved : goal.loop-base-preserved
loop-base-preserved c =
    let s = c.loop-base.invariant.stays in
    let t = c.put_window.ensures.stays in
    record {
      stays = stays-then c.args.self.now c.loop-base.self c.put_window.new.self s t;
      grows = λ flag counted.
          let net = c.args.net.now in
          let i = c.loop-base.base in
          let g = c.put_window.ensures.grows flag (counted-same net flag c.args.self.now c.loop-base.self s.counts counted) in
          let low = c.loop-base-test.true in
          let bases = c.base_count-base-end.ensures.count in
          base-more net c.args.cells.now c.args.carried.now c.args.self.now.any flag i c.args.self.now.set c.loop-base.self.set c.put_window.new.self.set
          c.departures.ensures.exact (omega (arith, low, bases))
          (c.loop-base.invariant.grows flag counted)
          (subst (λ (a : Bool). Grows (IsDueIn net c.args.cells.now c.args.carried.now a flag i 0 (length net.departures)) (IsDue net c.args.cells.now c.args.carried.now a flag i) c.loop-base.self.set c.put_window.new.self.set) s.any
          (subst (λ (n : ℕ). Grows (IsDueIn net c.args.cells.now c.args.carried.now c.loop-base.self.any flag i 0 n) (IsDue net c.args.cells.now c.args.carried.now c.loop-base.self.any flag i) c.loop-base.self.set c.put_window.new.self.set) (ap length c.departures.ensures.events) g))
          t.kept;
    }

pub returns-clause-grows : goal.returns-clause-grows
returns-clause-grows c = λ flag counted.
    let end = c.loop-base.auto.base-end in
    let past = c.loop-base-test.false in
    let bases = c.base_count-base-end.ensures.count in
    let net = c.args.net.now in
    let is : c.loop-base.base ≡ length net.bases = omega (arith, end, past, bases) in
    subst (λ (z : ℕ). Grows (IsDueOf net c.args.cells.now c.args.carried.now c.args.self.now.any flag z) (IsDueOf net c.args.cells.now c.args.carried.now c.args.self.now.any flag (length net.bases)) c.args.self.now.set c.loop-base.self.set)
    is (c.loop-base.invariant.grows flag counted)
