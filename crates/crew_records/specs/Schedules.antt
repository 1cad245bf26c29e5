-- What a record of a schedule asks for.
use Rattle.std.specs.Prelude.{ℕ, nat_eq, nat_le, drop, List, Option, Some, None, Result, Ok, Err, length, codes, if◌then◌else◌}
use Rattle.std.specs.Str.{bytes_eq}
use Rattle.crew_time.specs.Instant.{IsInYears}
use Rattle.crew_records.specs.Commands.{edit_named, zone_command}
use Rattle.crew_records.specs.Fields.{Fields, ◌>>=◌, count_field, count_up_to, field_of}
use Rattle.crew_records.specs.declared.fault.RecordFault.{RecordFault}
use Rattle.crew_records.specs.declared.fault.RecordFault.TheVariants.{UnknownRecord, FieldCount}
use Rattle.crew_records.specs.declared.command.Command.{Command}
use Rattle.crew_records.specs.declared.command.Command.TheVariants as command
use Rattle.crew_records.specs.declared.schedule.PushedEdit.{PushedEdit}
use Rattle.crew_records.specs.declared.schedule.PushedEdit.TheVariants.{Ready, Flight, Retime}
use Rattle.crew_records.specs.declared.schedule.StepRecord.{StepRecord}
use Rattle.crew_records.specs.declared.schedule.StepRecord.TheVariants.{AddZone, Push, Begin, Claim, Bring, GiveBack, Abandon, Seal, Publish, Ask, Refuse}

-- SEAT and READER: 0 to 63
abbrev pub seat_field : List ℕ → Result ℕ RecordFault
seat_field f = count_up_to 2 63 f

-- NUMBER: 0 to 999,999
abbrev pub number_in_seat : List ℕ → Result ℕ RecordFault
number_in_seat f = count_up_to 6 999_999 f

-- JOB: 1 to 9 digits
abbrev pub job_field : List ℕ → Result ℕ RecordFault
job_field f = count_up_to 9 999_999_999 f

-- how many fields the record of an edit has, of which so many are there; none where no edit has the
-- name. That of a turn may be without its minutes, that of a follow-on without its second flight
abbrev pub edit_width : List ℕ → ℕ → Option ℕ
edit_width name count =
    if bytes_eq name (codes "base") then Some 3
    else (if bytes_eq name (codes "baseprice") then Some 3
    else (if bytes_eq name (codes "flight") then Some 7
    else (if bytes_eq name (codes "cancel") then Some 2
    else (if bytes_eq name (codes "retime") then Some 5
    else (if bytes_eq name (codes "price") then Some 3
    else (if bytes_eq name (codes "turn") then Some (if nat_eq count 3 then 3 else 4)
    else (if bytes_eq name (codes "follow") then Some (if nat_eq count 2 then 2 else 3)
    else None)))))))

-- an edit has its own number of fields
abbrev pub has_width : Option ℕ → Fields → Result (Unit {0}) RecordFault
has_width None fields = Err UnknownRecord
has_width (Some width) fields = count_field fields width

-- the edit that a command is
abbrev pub edit_of : Command → Result PushedEdit RecordFault
edit_of (command.Submit edit) = Ok (Ready edit)
edit_of (command.AddFlight id from to dep arr price) = Ok (Flight id from to dep arr price)
edit_of (command.Retime id from dep arr) = Ok (Retime id from dep arr)
edit_of other = Err UnknownRecord

-- the edit of a record of this name
abbrev pub pushed : Option (Result Command RecordFault) → Result PushedEdit RecordFault
pushed None = Err UnknownRecord
pushed (Some read) = read >>= edit_of

-- as many fields as that at least
abbrev pub at_least : Fields → ℕ → Result (Unit {0}) RecordFault
at_least fields n = if nat_le n (length fields) then Ok tt else Err FieldCount

-- push,SEAT,NUMBER,EDIT: first that there is an edit, its name and its own number of fields; then
-- all fields from left to right
unfoldable pub push_step : Fields → Result StepRecord RecordFault
push_step fields = do
  long ← at_least fields 4
  whole ← has_width (edit_width (field_of fields 3) (length (drop 3 fields))) (drop 3 fields)
  seat ← seat_field (field_of fields 1)
  number ← number_in_seat (field_of fields 2)
  edit ← pushed (edit_named (field_of (drop 3 fields) 0) (drop 3 fields))
  Ok (Push seat number edit)

-- bring,JOB
unfoldable pub bring_step : Fields → Result StepRecord RecordFault
bring_step fields = do
  count ← count_field fields 2
  job ← job_field (field_of fields 1)
  Ok (Bring job)

-- giveback,JOB
unfoldable pub give_back_step : Fields → Result StepRecord RecordFault
give_back_step fields = do
  count ← count_field fields 2
  job ← job_field (field_of fields 1)
  Ok (GiveBack job)

-- ask,READER
unfoldable pub ask_step : Fields → Result StepRecord RecordFault
ask_step fields = do
  count ← count_field fields 2
  reader ← seat_field (field_of fields 1)
  Ok (Ask reader)

-- a record of its name alone
unfoldable pub plain_step : Fields → StepRecord → Result StepRecord RecordFault
plain_step fields step = do
  count ← count_field fields 1
  Ok step

-- zone,CODE,ZONE, as in a session
abbrev pub zone_of : Result Command RecordFault → Result StepRecord RecordFault
zone_of (Ok (command.AddZone code zone)) = Ok (AddZone code zone)
zone_of (Ok other) = Err UnknownRecord
zone_of (Err fault) = Err fault

-- ---- a record, by its name

abbrev pub step_named : List ℕ → Fields → Result StepRecord RecordFault
step_named name fields =
    if bytes_eq name (codes "zone") then zone_of (zone_command fields)
    else (if bytes_eq name (codes "push") then push_step fields
    else (if bytes_eq name (codes "begin") then plain_step fields Begin
    else (if bytes_eq name (codes "claim") then plain_step fields Claim
    else (if bytes_eq name (codes "bring") then bring_step fields
    else (if bytes_eq name (codes "giveback") then give_back_step fields
    else (if bytes_eq name (codes "abandon") then plain_step fields Abandon
    else (if bytes_eq name (codes "seal") then plain_step fields Seal
    else (if bytes_eq name (codes "publish") then plain_step fields Publish
    else (if bytes_eq name (codes "ask") then ask_step fields
    else Err UnknownRecord)))))))))

abbrev pub step_or_refuse : Result StepRecord RecordFault → StepRecord
step_or_refuse (Ok step) = step
step_or_refuse (Err fault) = Refuse fault

-- what a record of a schedule asks for
abbrev pub step_of : Fields → StepRecord
step_of fields = step_or_refuse (step_named (field_of fields 0) fields)

-- a departure that needs a report clock is an instant that a text may name
abbrev pub IsDatedEdit : PushedEdit → Type 0
IsDatedEdit (Ready edit) = Unit {0}
IsDatedEdit (Flight id from to dep arr price) = IsInYears dep
IsDatedEdit (Retime id from dep arr) = IsInYears dep

abbrev pub IsDatedStep : StepRecord → Type 0
IsDatedStep (Push seat number edit) = IsDatedEdit edit
IsDatedStep other = Unit {0}
