use Rattle.std.proofs.Common.{map, subst, sym}
use Rattle.std.specs.Arc.{arc_value}
use Rattle.crew_solve.specs.Machinery.Floors.{AreKnown}
use Rattle.crew_sweep.specs.Sweeps.{BaseSweep}
use Rattle.crew_solve.proofs.floors.keep_of_bases.Goals as goal

pub keep_of_bases_by_floors-requires-clause-known : goal.keep_of_bases_by_floors-requires-clause-known
keep_of_bases_by_floors-requires-clause-known c =
    let beside = c.args.kept.now.beside in
    let ss = map (arc_value {X = BaseSweep}) c.args.fronts.now in
    subst (AreKnown beside ss) (sym c.deref_mut.ensures.value) (c.in_ok-known.ensures beside)
