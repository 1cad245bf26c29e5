-- The events that are made of duties.
use Rattle.std.specs.Prelude.{List, map}
use Rattle.crew_net.specs.Machinery.Held.{AreAt, IsLeft, IsReached, arrive_at, leave_at}
use Rattle.crew_net.specs.Machinery.Timelines.{IsTimeline}
use Rattle.crew_net.specs.Nets.{AreByReport}
use Rattle.crew_net.specs.declared.events.Events.{Events}
use Rattle.crew_pairing.specs.Events.{arrival_of, departure_of}
use Rattle.crew_pairing.specs.declared.duty.Duty.{Duty}
use Rattle.crew_resource.specs.Members.{Each}

-- where and when the duties leave and arrive, with the ranks of those that do
pub record AreEventsOf (duties : List Duty) (made : Events) : Type 0 where
  pub left : Each IsLeft duties
  pub reached : Each IsReached duties
  pub leave : IsTimeline (map leave_at duties) made.leave
  pub arrive : IsTimeline (map arrive_at duties) made.arrive
  pub departures : AreAt departure_of leave_at duties made.leave.moments.items
      made.departures.items
  pub arrivals : AreAt arrival_of arrive_at duties made.arrive.moments.items made.arrivals.items
  pub by_report : AreByReport made.departures.items made.by_report.items
