use Rattle.std.proofs.Common.{◌≡◌, ◌∙◌, ◌<◌, ap, refl, sym, subst, arith, length, get_or, None}
use Rattle.std.specs.List.{flat_map, range_with_len}
use Rattle.crew_net.specs.Nets.{Net}
use Rattle.crew_solve.specs.Machinery.Floors.{AreMarks, MayCost}
use Rattle.crew_solve.specs.Machinery.Homes.{home_from}
use Rattle.crew_solve.specs.Machinery.Keeps.{CheapestSoFar, keep_all}
use Rattle.crew_solve.proofs.Flooring.{floors-set}
use Rattle.crew_solve.proofs.Keeping.{keep-append, still-beside}
use Rattle.crew_solve.proofs.Listed.{flat-range}
use Rattle.crew_solve.proofs.floors.keep_of_base.Goals as goal

pub loop-index-init : goal.loop-index-init
loop-index-init c = record { kept = refl; floors = c.requires.floors; marks = c.requires.marks }

pub keep_of_departure_by_floor-requires-clause-floor : goal.keep_of_departure_by_floor-requires-clause-floor
keep_of_departure_by_floor-requires-clause-floor c =
    let b = c.args.sweep.now in
    let first = c.args.kept.now in
    let i = c.loop-index.index in
    let done = flat_map (home_from b) (range_with_len 0 i) in
    let same : c.loop-index.kept.beside ≡ first.beside = ap (λ (k : CheapestSoFar). k.beside) c.loop-index.invariant.kept ∙ still-beside first done in
    subst (λ o. MayCost o (get_or c.loop-index.floors i None) (home_from b i)) (sym same) (c.loop-index.invariant.floors.right i)

pub keep_of_departure_by_floor-requires-clause-marks : goal.keep_of_departure_by_floor-requires-clause-marks
keep_of_departure_by_floor-requires-clause-marks c =
    let b = c.args.sweep.now in
    let first = c.args.kept.now in
    let i = c.loop-index.index in
    let done = flat_map (home_from b) (range_with_len 0 i) in
    let same : c.loop-index.kept.beside ≡ first.beside = ap (λ (k : CheapestSoFar). k.beside) c.loop-index.invariant.kept ∙ still-beside first done in
    subst (λ o. AreMarks o b c.loop-index.marks) (sym same) c.loop-index.invariant.marks

pub loop-index-preserved : goal.loop-index-preserved
loop-index-preserved c =
    let b = c.args.sweep.now in
    let first = c.args.kept.now in
    let f = home_from b in
    let i = c.loop-index.index in
    let done = flat_map f (range_with_len 0 i) in
    let same : c.loop-index.kept.beside ≡ first.beside = ap (λ (k : CheapestSoFar). k.beside) c.loop-index.invariant.kept ∙ still-beside first done in
    let next = c.in_ok-floor.floor in
    let more = subst (λ o. MayCost o next (f i)) same c.in_ok-floor.ensures.floor in
    let places = ap length (c.by_report-index-end.ensures.places ∙ ap (λ (n : Net). n.by_report) c.net.ensures.net) in
    let low : i < length c.loop-index.floors = omega (arith, c.loop-index-test.true, c.loop-index.invariant.floors.many, places) in
    record {
      kept = c.in_ok-floor.ensures.kept
          ∙ (ap (λ (k : CheapestSoFar). keep_all k (f i)) c.loop-index.invariant.kept
          ∙ (sym (keep-append first done (f i)) ∙ ap (keep_all first) (sym (flat-range f i))));
      floors = floors-set first.beside b c.loop-index.floors i next c.loop-index.invariant.floors low more;
      marks = subst (λ o. AreMarks o b c.keep_of_departure_by_floor.new.marks) same c.in_ok-floor.ensures.marks;
    }
