-- The ground of a round: the version that was sealed last, the entries that the round is over, and
-- the plan of what they come to.
use Rattle.std.specs.Prelude.{◌≡◌, ◌+◌, ◌<◌, ℕ, List, Option, Some, None, map, slice_get}
use Rattle.std.specs.List.{flat_map}
use mathlib.Core.List.{IsPrefix}
use Rattle.crew_flights.specs.Timetable.{Timetable}
use Rattle.crew_flights.specs.declared.entries.Entry.{Entry}
use Rattle.crew_job.specs.declared.fault.GroundFault.{GroundFault}
use Rattle.crew_job.specs.declared.fault.GroundFault.TheVariants.{ShorterLog, LastVersion, TooManyDuties, Memory}
use Rattle.crew_machine.specs.Crew.{DutyNode}
use Rattle.crew_machine.specs.Rounds.{last_number}
use Rattle.crew_net.specs.Nets.{Net}
use Rattle.crew_pairing.specs.Duties.{HasFew, HasTooMany}
use Rattle.crew_pairing.specs.declared.duty.Duty.{Duty}
use Rattle.crew_rules.specs.Settings.{IsChecked}
use Rattle.crew_rules.specs.declared.settings.Settings.{Settings}
use Rattle.crew_version.specs.Versions.{IsRight, Snapshot, timetable_of}
use Rattle.crew_version.specs.crew_plan.Plans.{IsPlanOf, Plan}

-- the version before the round; the number, the settings and the entries of the version that the
-- round comes to; and the plan of these entries
pub record Ground : Type 0 where
  pub sealed : Snapshot
  pub number : ℕ
  pub settings : Settings
  pub entries : List Entry
  pub plan : Plan

-- the timetable of the round, and that of the version before it
abbrev pub data_of : Ground → Timetable
data_of g = timetable_of g.entries

abbrev pub sealed_data_of : Ground → Timetable
sealed_data_of g = timetable_of g.sealed.entries

-- what a ground keeps: its entries begin with those of the version before, and come to at most
-- 200,000 legal duties, whose plan it has
pub record IsGround (g : Ground) : Type 0 where
  pub checked : IsChecked g.settings
  pub settings : g.settings ≡ g.sealed.settings
  pub number : g.number ≡ g.sealed.number + 1
  pub number_left : g.sealed.number < last_number
  pub begins : IsPrefix g.sealed.entries g.entries
  pub few : HasFew g.settings (data_of g)
  pub planned : IsPlanOf g.settings (data_of g) g.plan
  pub right : IsRight g.sealed

-- the node of a base and a duty, where both are there
abbrev pub node_of : Option (List ℕ) → Option Duty → Option DutyNode
node_of None duty = None
node_of (Some base) None = None
node_of (Some base) (Some duty) = Some (record { base = base; duty = duty })

-- the node of a base's place and of a duty's rank
abbrev pub node_at : Net → ℕ → ℕ → Option DutyNode
node_at net base rank = node_of (slice_get net.bases base) (slice_get net.duties rank)

-- each base with each duty, in node order
abbrev pub nodes_in : Net → List DutyNode
nodes_in net = flat_map (λ b. map (λ d. record { base = b; duty = d }) net.duties) net.bases

-- a round isn't begun over entries after a version, for the first of these that applies: they don't
-- begin with the version's, there is no number after its, they come to too many duties, or there is
-- no memory
abbrev pub IsGroundFault : Snapshot → List Entry → GroundFault → Type 0
IsGroundFault sealed entries ShorterLog = IsPrefix sealed.entries entries → ⊥
IsGroundFault sealed entries LastVersion = IsPrefix sealed.entries entries
    × (sealed.number ≡ last_number)
IsGroundFault sealed entries TooManyDuties = IsPrefix sealed.entries entries
    × (sealed.number < last_number) × HasTooMany sealed.settings (timetable_of entries)
IsGroundFault sealed entries Memory = IsPrefix sealed.entries entries
    × (sealed.number < last_number)

-- the number of a refusal
abbrev pub ground_number : GroundFault → Option ℕ
ground_number ShorterLog = Some 51
ground_number LastVersion = Some 57
ground_number TooManyDuties = Some 40
ground_number Memory = None
