-- What a ground's plan is.
use Rattle.std.proofs.Common.{◌≡◌, sym, subst}
use Rattle.std.specs.FinMap as fin
use Rattle.crew_flights.specs.Timetable.{IsSound}
use Rattle.crew_job.specs.Grounds.{Ground, IsGround, data_of, sealed_data_of}
use Rattle.crew_machine.proofs.CrewLaws.{timetable-sound}
use Rattle.crew_pairing.specs.Duties.{AreDuties, flights_of}
use Rattle.crew_pairing.specs.Pairings.{IsDuty}
use Rattle.crew_pairing.specs.declared.duty.Duty.{Duty}
use Rattle.crew_resource.specs.Members.{Member}

module _ (g : Ground) (is : IsGround g) where
  pub net-settings : g.plan.net.settings ≡ g.settings
  net-settings = is.planned.network.2.settings

  pub net-bases : g.plan.net.bases ≡ fin.keys (data_of g).bases
  net-bases = is.planned.network.2.bases

  pub net-duties : AreDuties g.settings (data_of g) g.plan.net.duties
  net-duties = subst (AreDuties g.settings (data_of g)) (sym is.planned.network.2.duties) is.planned.network.1

  pub data-sound : IsSound (data_of g)
  data-sound = timetable-sound g.entries

  pub sealed-sound : IsSound (sealed_data_of g)
  sealed-sound = timetable-sound g.sealed.entries

  -- its duties are the legal ones
  pub duty-legal : (d : Duty) → Member g.plan.net.duties d → IsDuty g.settings (flights_of (data_of g)) d
  duty-legal d m = net-duties.sound d m

  pub legal-duty : (d : Duty) → IsDuty g.settings (flights_of (data_of g)) d → Member g.plan.net.duties d
  legal-duty d legal = subst (Member g.plan.net.duties) (sym legal.3) (net-duties.every legal.0 legal.1 legal.2)
