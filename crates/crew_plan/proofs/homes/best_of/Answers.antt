use Rattle.std.proofs.Common.{◌∙◌, ap, map}
use Rattle.std.specs.Arc.{arc_value}
use Rattle.std.specs.List.{flat_map}
use Rattle.std.specs.Prelude.{slice_get}
use Rattle.crew_fronts.specs.Fronts.{BaseFronts}
use Rattle.crew_plan.specs.Machinery.Homes.{home_of}
use Rattle.crew_fronts.proofs.crew_solve_lemmas.Keeping.{first-is-least}
use Rattle.crew_fronts.specs.crew_solve.Machinery.Keeps.{CheapestSoFar, keep_all}
use Rattle.crew_plan.proofs.homes.best_of.Goals as goal

pub returns : goal.returns
returns c =
    let home = flat_map (home_of c.args.trip_rig) (map (arc_value {X = BaseFronts}) c.args.bases.now) in
    let kept = c.in_ok-keep_of_bases.ensures ∙ ap (λ (k : CheapestSoFar). keep_all k home) c.new-kept.ensures in
    c.into_first.ensures ∙ (ap (λ (k : CheapestSoFar). slice_get k.pairings 0) kept ∙ first-is-least home)
