use Rattle.std.proofs.Common.{◌≡◌, IfOk, sym, subst, to_z, of_z, w64, arith}
use Rattle.std.proofs.lemmas.Int.{ints}
use Rattle.std.specs.Arc.{arc_value}
use Rattle.crew_net.specs.Nets.{Net}
use Rattle.crew_sweep.specs.Sweeps.{IsSweepable, IsSwept}
use Rattle.crew_solve.proofs.sweeps.sweep_anew.Goals as goal

pub sweep-requires-clause-sweepable : goal.sweep-requires-clause-sweepable
sweep-requires-clause-sweepable c = subst (λ (n : Net). IsSweepable n c.args.positions.now) (sym c.in_ok-try_clone.ensures) c.requires.sweepable

pub returns : goal.returns
returns c =
    let net = arc_value c.args.net.now in
    let fits = c.requires.price in
    let whole : to_z w64 (of_z w64 c.args.price) ≡ c.args.price = omega (arith, ints, fits.least, fits.most) in
    let r = c.sweep.result in
    let swept = subst (λ (n : Net). IfOk r (IsSwept n (c.args.base, to_z w64 (of_z w64 c.args.price)))) c.in_ok-try_clone.ensures c.sweep.ensures in
    subst (λ z. IfOk r (IsSwept net (c.args.base, z))) whole swept
