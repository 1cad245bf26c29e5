-- The amounts of what a solution shows fit, of whichever kind it is.
use Rattle.std.proofs.Common.{◌≡◌, List, subst, sym, true}
use Rattle.crew_fronts.specs.Fronts.{BaseFronts, is_plain}
use Rattle.crew_fronts.specs.crew_solve.Plans as PlainPlans
use Rattle.crew_fronts.specs.crew_solve.Solutions as PlainSolutions
use Rattle.crew_plan.proofs.Homing.{all-pay}
use Rattle.crew_plan.proofs.Shorter.{fronts-too}
use Rattle.crew_plan.specs.Machinery.Homes.{IsPayable}
use Rattle.crew_plan.specs.Machinery.Kept.{AreOfSweeps, IsSolved}
use Rattle.crew_plan.specs.Machinery.Kinds.{IsForSweeps, IsMadeAs, net_of}
use Rattle.crew_plan.specs.declared.solution.Made.{Made}
use Rattle.crew_plan.specs.declared.solution.Made.TheVariants as Solved
use Rattle.crew_resource.specs.Members.{Each}
use Rattle.crew_rules.specs.declared.settings.Settings.{Settings}

-- what sweeps show
pub swept-pay : (plan : PlainPlans.Plan) (solution : PlainSolutions.Solution) (bases : List BaseFronts) → IsForSweeps plan → PlainPlans.IsSolutionIn plan solution → AreOfSweeps solution.sweeps bases → IsSolved solution.net bases
    → Each (IsPayable solution.net.settings.trip_rig) bases
swept-pay plan solution bases for h each solved =
    let has = h.network for.settings for.timetable for.planned in
    let own = subst (λ x. is_plain x ≡ true) for.planned.network.2.settings for.short in
    let k = h.scratch for.settings for.timetable for.checked for.sound for.planned in
    let fronts = fronts-too for.settings for.timetable for.sound own has.0 solution.net has.1 has.2 solution.sweeps bases each solved.nets k.fronts in
    subst (λ (x : Settings). Each (IsPayable x.trip_rig) bases) (sym has.2.settings)
    (all-pay for.settings for.timetable for.checked for.sound has.0 solution.net bases solved has.1 has.2 fronts)

-- what either kind shows
pub all-pay-in : (made : Made) (bases : List BaseFronts) → IsMadeAs made bases → Each (IsPayable (net_of made).settings.trip_rig) bases
all-pay-in (Solved.Plain solution) bases h = h.pay
all-pay-in (Solved.Long net best) bases h = h.pay
