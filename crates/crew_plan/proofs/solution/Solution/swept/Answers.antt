use Rattle.std.proofs.Common.{◌≡◌, List, map, subst, sym, true}
use Rattle.std.specs.Arc.{arc_value}
use Rattle.crew_fronts.specs.Fronts.{BaseFronts, is_plain}
use Rattle.crew_plan.proofs.Among.{each-plain, still-solved}
use Rattle.crew_plan.proofs.Paying.{swept-pay}
use Rattle.crew_plan.proofs.Shorter.{solved-too, still-plain}
use Rattle.crew_plan.specs.Machinery.Kept.{AreOfSweeps}
use Rattle.crew_resource.specs.Members.{Each}
use Rattle.crew_fronts.specs.crew_solve.Machinery.Solved.{IsSolved}
use Rattle.crew_fronts.specs.crew_sweep.Sweeps.{BaseSweep}
use Rattle.crew_plan.proofs.solution.Solution.swept.Goals as goal

pub wrapped-requires : goal.wrapped-requires
wrapped-requires c =
    let solution = c.args.solution in
    let plain = still-plain c.args.plan.now solution c.requires.plain c.requires.solved in
    subst (Each (λ (b : BaseSweep). is_plain b.net.settings ≡ true)) (sym c.fronts.ensures.all) (each-plain solution.net solution.sweeps plain c.fronts.ensures.nets)

pub invariant_of-result : goal.invariant_of-result
invariant_of-result c =
    let solution = c.args.solution in
    let bases : List BaseFronts = map arc_value c.in_ok-bases.bases.items in
    let each = subst (λ (cs : List BaseSweep). AreOfSweeps cs bases) c.fronts.ensures.all c.in_ok-bases.ensures in
    let kept : IsSolved solution.net solution.sweeps = record { bases = c.fronts.ensures.bases; nets = c.fronts.ensures.nets } in
    let plain = still-plain c.args.plan.now solution c.requires.plain c.requires.solved in
    let solved = still-solved solution.net solution.sweeps bases each kept in
    (solved, record { short = plain; each = each; pay = swept-pay c.args.plan.now solution bases c.requires.plain c.requires.solved each solved })

pub returns : goal.returns
returns c =
    let solution = c.args.solution in
    let bases : List BaseFronts = map arc_value c.in_ok-bases.bases.items in
    let each = subst (λ (cs : List BaseSweep). AreOfSweeps cs bases) c.fronts.ensures.all c.in_ok-bases.ensures in
    let kept : IsSolved solution.net solution.sweeps = record { bases = c.fronts.ensures.bases; nets = c.fronts.ensures.nets } in
    let plain = still-plain c.args.plan.now solution c.requires.plain c.requires.solved in
    solved-too c.args.plan.now solution bases plain c.requires.solved each (still-solved solution.net solution.sweeps bases each kept).nets
