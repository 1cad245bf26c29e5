-- What a schedule writes: its records are steps of the machine, in this order, and the reply to each
-- is told.
use Rattle.std.specs.Prelude.{◌≡◌, ℕ, List, [], Option, Some, None, option_map}
use Rattle.std.specs.FinMap as map
use Rattle.jiff_tz.specs.PosixText.{TzText}
use Rattle.crew_flights.specs.declared.edit.Edit.{Edit}
use Rattle.crew_flights.specs.declared.edit.Edit.TheVariants as edit
use Rattle.crew_machine.specs.Choices.{ChosenStep}
use Rattle.crew_machine.specs.Crew.{CrewAct, CrewReply, CrewState, crew}
use Rattle.crew_machine.specs.Steps as Machine
use Rattle.crew_records.specs.Faults.{record_number}
use Rattle.crew_records.specs.Fields.{Fields}
use Rattle.crew_records.specs.Schedules.{step_of}
use Rattle.crew_records.specs.declared.fault.RecordFault.{RecordFault}
use Rattle.crew_records.specs.declared.fault.RecordFault.TheVariants.{NoZone}
use Rattle.crew_records.specs.declared.schedule.PushedEdit.{PushedEdit}
use Rattle.crew_records.specs.declared.schedule.PushedEdit.TheVariants.{Ready, Flight, Retime}
use Rattle.crew_records.specs.declared.schedule.StepRecord.{StepRecord}
use Rattle.crew_records.specs.declared.schedule.StepRecord.TheVariants as record_of
use Rattle.crew_rules.specs.declared.settings.Settings.{Settings}
use Rattle.crew_session.specs.Lines.{refused_line}
use Rattle.crew_session.specs.ReplyLines.{reply_lines}
use Rattle.crew_session.specs.Rows.{records_of}
use Rattle.crew_session.specs.Writes.{BeginsBy, WritesBy}
use Rattle.crew_session.specs.Zones.{Zones, clock_at, flight_with, zone_fault}

-- where a schedule stands: the zones, and the state of the machine
pub record Stage : Type 0 where
  pub zones : Zones
  pub machine : CrewState

-- before any record
abbrev pub start : Settings → Stage
start s = record { zones = map.empty; machine = Machine.start (crew s) }

-- ---- what a record comes to

-- a zone for an airport, a step of the machine, or nothing, since it is refused
pub data Demand : Type 0 where
  Zone : (code : List ℕ) (zone : TzText) → Demand
  Play : (act : CrewAct) → Demand
  Refuse : (fault : RecordFault) → Demand

abbrev pub zone_demand : Option RecordFault → List ℕ → TzText → Demand
zone_demand None code zone = Zone code zone
zone_demand (Some fault) code zone = Refuse fault

-- the edit of a push; there is none where it needs the clock of an airport that has no zone
abbrev pub edit_at : Settings → Zones → PushedEdit → Option Edit
edit_at s zones (Ready e) = Some e
edit_at s zones (Flight id from to dep arr price) =
    option_map (flight_with id from to dep arr price) (clock_at s zones from dep)
edit_at s zones (Retime id from dep arr) =
    option_map (edit.Retime id from dep arr) (clock_at s zones from dep)

abbrev pub push_demand : ℕ → ℕ → Option Edit → Demand
push_demand seat number None = Refuse NoZone
push_demand seat number (Some e) =
    Play (Machine.Push (record { seat = seat; number = number; edit = e }))

abbrev pub demand_of : Settings → Zones → StepRecord → Demand
demand_of s zones (record_of.AddZone code zone) = zone_demand (zone_fault zones code) code zone
demand_of s zones (record_of.Push seat number e) = push_demand seat number (edit_at s zones e)
demand_of s zones record_of.Begin = Play Machine.Begin
demand_of s zones record_of.Claim = Play Machine.Claim
demand_of s zones (record_of.Bring job) = Play (Machine.Bring job)
demand_of s zones (record_of.GiveBack job) = Play (Machine.Give_back job)
demand_of s zones record_of.Abandon = Play Machine.Abandon
demand_of s zones record_of.Seal = Play Machine.Seal
demand_of s zones record_of.Publish = Play Machine.Publish
demand_of s zones (record_of.Ask reader) = Play (Machine.Ask reader)
demand_of s zones (record_of.Refuse fault) = Refuse fault

-- ---- what it does, and what it writes

-- one step with the product's choices, and the lines of its reply
pub record Steps (s : Settings) (act : CrewAct) (a b : Stage) (text : List ℕ) : Type 0 where
  pub reply : CrewReply
  pub steps : ChosenStep (crew s) a.machine act reply b.machine
  pub zones : b.zones ≡ a.zones
  pub written : text ≡ reply_lines reply

abbrev pub with_zone : List ℕ → TzText → Stage → Stage
with_zone code zone a = record { zones = map.insert a.zones code zone; machine = a.machine }

abbrev pub Meets : Settings → ℕ → Demand → Stage → Stage → List ℕ → Type 0
Meets s number (Zone code zone) a b text = (b ≡ with_zone code zone a) × (text ≡ [])
Meets s number (Play act) a b text = Steps s act a b text
Meets s number (Refuse fault) a b text =
    (b ≡ a) × (text ≡ refused_line number (record_number fault))

-- the record of a number
abbrev pub Performs : Settings → ℕ → Fields → Stage → Stage → List ℕ → Type 0
Performs s number row a b text = Meets s number (demand_of s a.zones (step_of row)) a b text

-- what was written of records is a beginning of the text of the first so many
abbrev pub ReplayBegins : Settings → List Fields → Option (List ℕ) → Option (List ℕ) → Type 0
ReplayBegins s rows before after = BeginsBy (Performs s) (start s) rows before after

-- what a schedule of these bytes writes
abbrev pub IsReplayText : Settings → List ℕ → List ℕ → Type 0
IsReplayText s bytes text = WritesBy (Performs s) 0 (start s) (records_of bytes) text
