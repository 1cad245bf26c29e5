use Rattle.std.proofs.Common.{◌∙◌, ap, map}
use Rattle.std.specs.Prelude.{slice_get}
use Rattle.std.specs.Arc.{arc_value}
use Rattle.std.specs.List.{flat_map}
use Rattle.crew_solve.specs.Machinery.Homes.{home_of}
use Rattle.crew_solve.specs.Machinery.Keeps.{CheapestSoFar, keep_all}
use Rattle.crew_solve.proofs.Keeping.{first-is-least}
use Rattle.crew_solve.proofs.best.best_of.Goals as goal

pub returns : goal.returns
returns c =
    let all = flat_map home_of (map arc_value c.args.fronts.now) in
    c.into_first.ensures
    ∙ (ap (λ (k : CheapestSoFar). slice_get k.pairings 0) (c.in_ok-keep_of_bases.ensures ∙ ap (λ k. keep_all k all) c.new-kept.ensures)
    ∙ first-is-least all)
