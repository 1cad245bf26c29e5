use Rattle.std.proofs.Common.{subst}
use Rattle.crew_answers.specs.Schedules.{IsDated}
use Rattle.crew_flights.specs.Timetable.{IsSound, Timetable}
use Rattle.crew_pairing.specs.Duties.{AreDuties}
use Rattle.crew_pairing.specs.Events as Events
use Rattle.crew_pairing.specs.declared.duty.Duty.{Duty}
use Rattle.crew_resource.specs.Members.{Member}
use Rattle.crew_fronts.specs.Fronts.{BaseFronts, ShowsFronts}
use Rattle.crew_fronts.proofs.passed_fronts.PassedFronts.net.Goals as goal

pub returns-clause-right : goal.returns-clause-right
returns-clause-right c =
    subst (λ (f : BaseFronts). (t : Timetable) → IsSound t → IsDated t → AreDuties f.net.settings t f.net.duties → ShowsFronts t f) c.self.view_is c.self.invariant.passed.right

pub returns-clause-sound : goal.returns-clause-sound
returns-clause-sound c = subst (λ (f : BaseFronts). (d : Duty) → Member f.net.duties d → Events.IsSound d) c.self.view_is c.self.invariant.passed.sound
