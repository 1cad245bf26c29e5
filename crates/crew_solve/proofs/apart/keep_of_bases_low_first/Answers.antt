use Rattle.std.proofs.Common.{map, subst, sym}
use Rattle.std.specs.Arc.{arc_value}
use Rattle.std.specs.List.{flat_map}
use Rattle.std.specs.Prelude.{OnOk}
use Rattle.crew_solve.specs.Machinery.Floors.{AreKnown}
use Rattle.crew_solve.specs.Machinery.Homes.{home_of}
use Rattle.crew_solve.proofs.Flooring.{some-beside}
use Rattle.crew_solve.proofs.Results.{on-ok}
use Rattle.crew_sweep.specs.Sweeps.{BaseSweep}
use Rattle.crew_solve.proofs.apart.keep_of_bases_low_first.Goals as goal

pub keep_of_bases_by_floors-requires-clause-known : goal.keep_of_bases_by_floors-requires-clause-known
keep_of_bases_by_floors-requires-clause-known c =
    let ss = map (arc_value {X = BaseSweep}) c.args.fronts.now in
    let same = some-beside (flat_map home_of ss) _ c.keep_low_of_bases.new.kept c.in_ok-keep_low_of_bases.ensures.kept in
    subst (λ o. AreKnown o ss c.keep_low_of_bases.new.known) (sym same) c.in_ok-keep_low_of_bases.ensures.known

pub returns-clause-kept : goal.returns-clause-kept
returns-clause-kept c = on-ok c.keep_of_bases_by_floors.result _ _ (λ kept. (c.keep_low_of_bases.new.kept, c.in_ok-keep_low_of_bases.ensures.kept, kept)) c.keep_of_bases_by_floors.ensures.kept

pub returns-clause-known : goal.returns-clause-known
returns-clause-known c =
    let ss = map (arc_value {X = BaseSweep}) c.args.fronts.now in
    let same = some-beside (flat_map home_of ss) _ c.keep_low_of_bases.new.kept c.in_ok-keep_low_of_bases.ensures.kept in
    subst (λ o. OnOk c.keep_of_bases_by_floors.result (AreKnown o ss c.keep_of_bases_by_floors.new.known)) same c.keep_of_bases_by_floors.ensures.known
