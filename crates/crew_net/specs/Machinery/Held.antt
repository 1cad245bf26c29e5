-- What a network keeps of its duties.
use Rattle.std.specs.Prelude.{◌≡◌, ◌≤◌, ◌<◌, ◌≤ℤ◌, ℕ, ℤ, true, List, length, map, get_or}
use Rattle.crew_pairing.specs.Events.{arrival_of, departure_of}
use Rattle.crew_flights.specs.Codes.{is_code}
use Rattle.crew_net.specs.Machinery.Moments.{IsReal, moment}
use Rattle.crew_net.specs.Machinery.Timelines.{IsTimeline}
use Rattle.crew_net.specs.Nets.{AreByReport, RiseByCode}
use Rattle.crew_net.specs.declared.timeline.Timeline.{Timeline}
use Rattle.crew_pairing.specs.Duties.{RiseByKey}
use Rattle.crew_pairing.specs.declared.duty.Duty.{Duty}
use Rattle.crew_pairing.specs.declared.events.Arrival.{Arrival}
use Rattle.crew_pairing.specs.declared.events.Departure.{Departure}
use Rattle.crew_resource.specs.Members.{Each, Member}
use Rattle.crew_pairing.specs.crew_rules.Settings.{IsChecked}
use Rattle.crew_pairing.specs.crew_rules.declared.settings.Settings.{Settings}

-- when and where a duty leaves, as one number
abbrev pub leave_at : Duty → ℤ
leave_at d = moment d.from d.report

abbrev pub arrive_at : Duty → ℤ
arrive_at d = moment d.to d.release

-- its first airport is one, and its report a minute
pub record IsLeft (d : Duty) : Type 0 where
  pub airport : is_code d.from ≡ true
  pub time : IsReal d.report

-- its last airport is one, and its release a minute
pub record IsReached (d : Duty) : Type 0 where
  pub airport : is_code d.to ≡ true
  pub time : IsReal d.release

-- a timeline over so many
abbrev pub HasTimeline : ℕ → Timeline → Type 0
HasTimeline n t = (ats : List ℤ) × (length ats ≡ n) × IsTimeline ats t

-- the duty stands at a rank whose moment is that of the event
abbrev pub IsAtMoment : List ℤ → List Duty → List ℤ → ℕ → Duty → Type 0
IsAtMoment ats duties moments event d = (rank : ℕ) × (rank < length duties)
    × ((e : Duty) → get_or duties rank e ≡ d)
    × ((m : ℤ) → get_or ats rank m ≡ get_or moments event m)

-- the event of each moment, by a duty that has it
pub record AreAt {E : Type 0} (event_of : Duty → E) (at : Duty → ℤ) (duties : List Duty)
    (moments : List ℤ) (events : List E) : Type 0 where
  pub long : length events ≡ length moments
  pub own : (k : ℕ) (e : E) (m : ℤ) → k < length events → (d : Duty) × Member duties d
      × (event_of d ≡ get_or events k e) × (at d ≡ get_or moments k m)

pub record IsHeld (s : Settings) (bases : List (List ℕ)) (duties : List Duty)
    (leaving arriving : Timeline) (departures : List Departure) (arrivals : List Arrival)
    (by_report : List ℕ) : Type 0 where
  pub checked : IsChecked s
  pub rising : RiseByKey duties
  pub few : length duties ≤ 200_000
  pub few_bases : length bases ≤ 16
  pub rising_bases : RiseByCode bases
  pub left : Each IsLeft duties
  pub reached : Each IsReached duties
  -- no duty ends before it begins
  pub forward : (d : Duty) → Member duties d → d.report ≤ℤ d.release
  pub leave : IsTimeline (map leave_at duties) leaving
  pub arrive : IsTimeline (map arrive_at duties) arriving
  pub leave_events : AreAt departure_of leave_at duties leaving.moments.items departures
  pub arrive_events : AreAt arrival_of arrive_at duties arriving.moments.items arrivals
  pub in_time : AreByReport departures by_report

-- the duties of two lists leave alike and arrive alike, one by one
abbrev pub HaveSameEvents : List Duty → List Duty → Type 0
HaveSameEvents before after = (map departure_of before ≡ map departure_of after)
    × (map arrival_of before ≡ map arrival_of after)
