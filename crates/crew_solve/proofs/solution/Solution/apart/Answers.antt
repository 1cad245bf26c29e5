use Rattle.std.proofs.Common.{List, [], ap, map, sym, subst}
use Rattle.std.specs.Arc.{arc_value}
use Rattle.std.specs.List.{flat_map}
use Rattle.crew_solve.proofs.Cheapest.{are-apart, in-order}
use Rattle.crew_solve.proofs.Keeping.{sorted}
use Rattle.crew_solve.specs.Apart.{AreApart}
use Rattle.crew_solve.specs.Machinery.Homes.{home_of}
use Rattle.crew_solve.specs.Machinery.Takes.{AreInOrder}
use Rattle.crew_solve.specs.Solutions.{HasNetOf, Solution, front_of}
use Rattle.crew_sweep.specs.Sweeps.{BaseSweep}
use Rattle.crew_vector.specs.Bests.{AreFronts}
use Rattle.crew_vector.specs.declared.priced.PricedPairing.{PricedPairing}
use Rattle.crew_solve.proofs.solution.Solution.apart.Goals as goal

pub returns : goal.returns
returns c = λ s t checked sound.
    let net = c.self.inside.net.value in
    let sweeps = map (arc_value {X = BaseSweep}) c.self.inside.fronts.items in
    let all = sorted [] (flat_map home_of sweeps) in
    let fronts = ap (λ l. flat_map home_of (map (arc_value {X = BaseSweep}) l)) c.deref-2.ensures.value in
    let ps = c.in_ok-pairings.pairings.items in
    subst (λ (x : Solution). HasNetOf s t x → AreFronts s t (front_of x) → AreApart s t c.args.limit c.args.share ps) c.self.view_is
    (λ has shown.
    let order = in-order s t checked sound has.0 net sweeps c.self.invariant has.1 has.2 shown in
    let first = c.in_ok-pairings.ensures all (subst (λ (l : List PricedPairing). AreInOrder l all) (sym fronts) order) in
    are-apart s t checked sound has.0 net sweeps c.self.invariant has.1 has.2 shown c.args.limit c.args.share ps first)
