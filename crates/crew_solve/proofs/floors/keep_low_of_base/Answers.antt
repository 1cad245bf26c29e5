use Rattle.std.proofs.Common.{◌∙◌, ◌<◌, ap, sym, subst, arith, length, get_or, None}
use Rattle.crew_net.specs.Nets.{Net}
use Rattle.crew_solve.specs.Machinery.Floors.{AreMarks, MayCost}
use Rattle.crew_solve.specs.Machinery.Homes.{home_from, home_of}
use Rattle.crew_solve.proofs.Flooring.{floors-set, home-among, keeps-more, keeps-none, some-beside}
use Rattle.crew_solve.proofs.floors.keep_low_of_base.Goals as goal

pub loop-index-init : goal.loop-index-init
loop-index-init c = record { kept = keeps-none (home_of c.args.sweep.now) c.args.kept.now; floors = c.requires.floors; marks = c.requires.marks }

pub keep_low_of_departure-requires-clause-floor : goal.keep_low_of_departure-requires-clause-floor
keep_low_of_departure-requires-clause-floor c =
    let b = c.args.sweep.now in
    let i = c.loop-index.index in
    let same = some-beside (home_of b) c.args.kept.now c.loop-index.kept c.loop-index.invariant.kept in
    subst (λ o. MayCost o (get_or c.loop-index.floors i None) (home_from b i)) (sym same) (c.loop-index.invariant.floors.right i)

pub keep_low_of_departure-requires-clause-marks : goal.keep_low_of_departure-requires-clause-marks
keep_low_of_departure-requires-clause-marks c =
    let b = c.args.sweep.now in
    let same = some-beside (home_of b) c.args.kept.now c.loop-index.kept c.loop-index.invariant.kept in
    subst (λ o. AreMarks o b c.loop-index.marks) (sym same) c.loop-index.invariant.marks

pub loop-index-preserved : goal.loop-index-preserved
loop-index-preserved c =
    let b = c.args.sweep.now in
    let first = c.args.kept.now in
    let i = c.loop-index.index in
    let same = some-beside (home_of b) first c.loop-index.kept c.loop-index.invariant.kept in
    let next = c.in_ok-floor.floor in
    let more = subst (λ o. MayCost o next (home_from b i)) same c.in_ok-floor.ensures.floor in
    let places = ap length (c.by_report-index-end.ensures.places ∙ ap (λ (n : Net). n.by_report) c.net.ensures.net) in
    let low : i < length c.loop-index.floors = omega (arith, c.loop-index-test.true, c.loop-index.invariant.floors.many, places) in
    let within : i < length b.net.by_report = omega (arith, c.loop-index-test.true, places) in
    record {
      kept = keeps-more (home_of b) (home_from b i) first c.loop-index.kept _ c.loop-index.invariant.kept c.in_ok-floor.ensures.kept (home-among b i within);
      floors = floors-set first.beside b c.loop-index.floors i next c.loop-index.invariant.floors low more;
      marks = subst (λ o. AreMarks o b c.keep_low_of_departure.new.marks) same c.in_ok-floor.ensures.marks;
    }
