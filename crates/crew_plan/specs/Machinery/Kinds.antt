-- Plans and solutions of the two kinds: by sweeps, and by passes.
use Rattle.std.specs.Prelude.{◌≡◌, List, Option, true}
use Rattle.std.specs.Arc.{arc_value}
use Rattle.crew_flights.specs.Timetable.{IsSound, Timetable}
use Rattle.crew_fronts.specs.Fronts.{BaseFronts, is_plain}
use Rattle.crew_net.specs.Nets.{Net}
use Rattle.crew_plan.specs.Machinery.Kept.{IsByPasses, IsBySweeps}
use Rattle.crew_plan.specs.Plans.{Plan}
use Rattle.crew_plan.specs.declared.plan.Kind.{Kind}
use Rattle.crew_plan.specs.declared.plan.Kind.TheVariants as Planned
use Rattle.crew_plan.specs.declared.solution.Made.{Made}
use Rattle.crew_plan.specs.declared.solution.Made.TheVariants as Solved
use Rattle.crew_rules.specs.Settings.{IsChecked}
use Rattle.crew_rules.specs.declared.settings.Settings.{Settings}
use Rattle.crew_fronts.specs.crew_solve.Plans as Plain
use Rattle.crew_fronts.specs.crew_solve.crew_vector.declared.priced.PricedPairing.{PricedPairing}

-- a plan of sweeps as one of fronts
abbrev pub plan_by_sweeps : Plain.Plan → Plan
plan_by_sweeps plan = record { net = plan.net; prices = plan.prices }

abbrev pub plan_of : Kind → Plan
plan_of (Planned.Plain plan) = plan_by_sweeps plan
plan_of (Planned.Long plan) = plan

-- sweeps where the settings of some timetable need no more
pub record IsForSweeps (plan : Plain.Plan) : Type 0 where
  pub short : is_plain plan.net.settings ≡ true
  pub settings : Settings
  pub timetable : Timetable
  pub checked : IsChecked settings
  pub sound : IsSound timetable
  pub planned : Plain.IsPlanOf settings timetable plan

abbrev pub IsOfKind : Kind → Type 0
IsOfKind (Planned.Plain plan) = IsForSweeps plan
IsOfKind (Planned.Long plan) = Unit {0}

abbrev pub net_of : Made → Net
net_of (Solved.Plain solution) = solution.net
net_of (Solved.Long net best) = arc_value net

abbrev pub best_of : Made → Option PricedPairing
best_of (Solved.Plain solution) = solution.best
best_of (Solved.Long net best) = best

abbrev pub IsMadeAs : Made → List BaseFronts → Type 0
IsMadeAs (Solved.Plain solution) bases = IsBySweeps solution bases
IsMadeAs (Solved.Long net best) bases = IsByPasses (arc_value net) bases
