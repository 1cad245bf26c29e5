use Rattle.std.proofs.Common.{◌∙◌, List, None, ap, map}
use Rattle.std.specs.Arc.{arc_value}
use Rattle.std.specs.List.{flat_map}
use Rattle.crew_solve.specs.Machinery.Homes.{home_of, least_of}
use Rattle.crew_sweep.specs.Sweeps.{BaseSweep}
use Rattle.crew_solve.proofs.Solved.{in-plan, kept-in}
use Rattle.crew_solve.proofs.solution.Solution.of.Goals as goal

pub invariant_of-result : goal.invariant_of-result
invariant_of-result c = kept-in c.args.plan.now (arc_value c.in_ok-net.net) (map arc_value c.args.fronts.items) c.requires c.net.ensures.bases c.in_ok-net.ensures

pub returns : goal.returns
returns c =
    let sweeps : List BaseSweep = map arc_value c.args.fronts.items in
    let best = c.in_ok-best.ensures ∙ ap (λ l. least_of None (flat_map home_of (map (arc_value {X = BaseSweep}) l))) c.deref.ensures.value in
    in-plan c.args.plan.now (record { net = arc_value c.in_ok-net.net; sweeps = sweeps; best = c.in_ok-best.best }) c.requires c.net.ensures.few c.in_ok-net.ensures best
