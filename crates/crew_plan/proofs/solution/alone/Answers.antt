use Rattle.std.proofs.Common.{◌∙◌, ap, map, sym}
use Rattle.std.specs.Arc.{arc_value}
use Rattle.crew_fronts.specs.Fronts.{BaseFronts}
use Rattle.crew_plan.proofs.Among.{none-alone}
use Rattle.crew_plan.proofs.solution.alone.Goals as goal

pub returns-in-Some : goal.returns-in-Some
returns-in-Some c = ap (map (arc_value {X = BaseFronts})) c.from_ref.ensures.value ∙ sym c.in-Some.ensures.found.only

pub returns-in-None : goal.returns-in-None
returns-in-None c = sym (none-alone (map (arc_value {X = BaseFronts}) c.args.bases.now) c.args.base (c.fronts_of.ensures.none c.in-None.is))
