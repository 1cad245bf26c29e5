-- What a record asks for.
use Rattle.std.specs.Prelude.{◌+◌, ◌&&◌, ℕ, List, Option, Some, None, Result, Ok, Err, codes, length, nat_eq, if◌then◌else◌}
use Rattle.std.specs.Str.{bytes_eq}
use Rattle.crew_time.specs.Instant.{IsInYears}
use Rattle.crew_flights.specs.Codes.{is_airport}
use Rattle.crew_flights.specs.declared.edit.Edit.TheVariants as edit
use Rattle.crew_records.specs.Fields.{Fields, ◌>>=◌, count_field, count_up_to, field_of, code_field, duty_field, id_field, limit_field, price_field, time_field, walk_field, zone_field}
use Rattle.crew_records.specs.declared.fault.RecordFault.{RecordFault}
use Rattle.crew_records.specs.declared.fault.RecordFault.TheVariants.{UnknownRecord}
use Rattle.crew_records.specs.declared.command.Command.{Command}
use Rattle.crew_records.specs.declared.command.Command.TheVariants.{AddZone, Submit, AddFlight, Retime, Settle, Best, BestOf, ShowFront, Cheapest, Apart, CheapestOf, ApartOf, Explain, Audit, Refuse}

-- ---- each kind of record: its number of fields, then its fields from left to right

-- zone,CODE,ZONE
unfoldable pub zone_command : Fields → Result Command RecordFault
zone_command fields = do
  count ← count_field fields 3
  code ← code_field (field_of fields 1)
  zone ← zone_field (field_of fields 2)
  Ok (AddZone code zone)

-- base,CODE,PRICE
unfoldable pub base_command : Fields → Result Command RecordFault
base_command fields = do
  count ← count_field fields 3
  code ← code_field (field_of fields 1)
  price ← price_field (field_of fields 2)
  Ok (Submit (edit.AddBase code price))

-- baseprice,CODE,PRICE
unfoldable pub base_price_command : Fields → Result Command RecordFault
base_price_command fields = do
  count ← count_field fields 3
  code ← code_field (field_of fields 1)
  price ← price_field (field_of fields 2)
  Ok (Submit (edit.BasePrice code price))

-- flight,ID,CODE,CODE,TIME,TIME,PRICE
unfoldable pub flight_command : Fields → Result Command RecordFault
flight_command fields = do
  count ← count_field fields 7
  id ← id_field (field_of fields 1)
  from ← code_field (field_of fields 2)
  to ← code_field (field_of fields 3)
  dep ← time_field (field_of fields 4)
  arr ← time_field (field_of fields 5)
  price ← price_field (field_of fields 6)
  Ok (AddFlight id from to dep arr price)

-- cancel,ID
unfoldable pub cancel_command : Fields → Result Command RecordFault
cancel_command fields = do
  count ← count_field fields 2
  id ← id_field (field_of fields 1)
  Ok (Submit (edit.Cancel id))

-- retime,ID,CODE,TIME,TIME
unfoldable pub retime_command : Fields → Result Command RecordFault
retime_command fields = do
  count ← count_field fields 5
  id ← id_field (field_of fields 1)
  from ← code_field (field_of fields 2)
  dep ← time_field (field_of fields 3)
  arr ← time_field (field_of fields 4)
  Ok (Retime id from dep arr)

-- price,ID,PRICE
unfoldable pub price_command : Fields → Result Command RecordFault
price_command fields = do
  count ← count_field fields 3
  id ← id_field (field_of fields 1)
  price ← price_field (field_of fields 2)
  Ok (Submit (edit.Price id price))

-- turn,ID,ID,MINUTES
unfoldable pub put_turn_command : Fields → Result Command RecordFault
put_turn_command fields = do
  count ← count_field fields 4
  before ← id_field (field_of fields 1)
  after ← id_field (field_of fields 2)
  minutes ← count_up_to 6 999_999 (field_of fields 3)
  Ok (Submit (edit.Turn before after minutes))

-- turn,ID,ID
unfoldable pub take_turn_command : Fields → Result Command RecordFault
take_turn_command fields = do
  count ← count_field fields 3
  before ← id_field (field_of fields 1)
  after ← id_field (field_of fields 2)
  Ok (Submit (edit.TakeTurn before after))

-- a record of three fields takes a turn back
abbrev pub turn_command : Fields → Result Command RecordFault
turn_command fields =
    if nat_eq (length fields) 3 then take_turn_command fields else put_turn_command fields

-- follow,ID,ID
unfoldable pub put_follow_command : Fields → Result Command RecordFault
put_follow_command fields = do
  count ← count_field fields 3
  before ← id_field (field_of fields 1)
  after ← id_field (field_of fields 2)
  Ok (Submit (edit.Follow before after))

-- follow,ID
unfoldable pub take_follow_command : Fields → Result Command RecordFault
take_follow_command fields = do
  count ← count_field fields 2
  before ← id_field (field_of fields 1)
  Ok (Submit (edit.TakeFollow before))

-- a record of two fields takes a follow-on back
abbrev pub follow_command : Fields → Result Command RecordFault
follow_command fields =
    if nat_eq (length fields) 2 then take_follow_command fields else put_follow_command fields

-- front,CODE,DUTY
unfoldable pub front_command : Fields → Result Command RecordFault
front_command fields = do
  count ← count_field fields 3
  base ← code_field (field_of fields 1)
  key ← duty_field (field_of fields 2)
  Ok (ShowFront base key)

-- the base that a field names, where it is the last and a code
abbrev pub base_at : Fields → ℕ → Option (List ℕ)
base_at fields at =
    if nat_eq (length fields) (at + 1) && is_airport (field_of fields at) then Some (field_of fields at)
    else None

-- pairings,LIMIT
unfoldable pub cheapest_command : Fields → Result Command RecordFault
cheapest_command fields = do
  count ← count_field fields 2
  limit ← limit_field 10_000 (field_of fields 1)
  Ok (Cheapest limit)

-- pairings,LIMIT,SHARE
unfoldable pub apart_command : Fields → Result Command RecordFault
apart_command fields = do
  count ← count_field fields 3
  limit ← limit_field 10_000 (field_of fields 1)
  share ← limit_field 10_000 (field_of fields 2)
  Ok (Apart limit share)

-- the pairings of a base, where a share of 0 is any
abbrev pub pairings_of : List ℕ → ℕ → ℕ → Command
pairings_of base limit share =
    if nat_eq share 0 then CheapestOf base limit else ApartOf base limit share

-- pairings,LIMIT,SHARE,CODE
unfoldable pub pairings_of_command : Fields → List ℕ → Result Command RecordFault
pairings_of_command fields base = do
  limit ← limit_field 10_000 (field_of fields 1)
  share ← count_up_to 5 10_000 (field_of fields 2)
  Ok (pairings_of base limit share)

-- a record of three fields has a share; each other without a base is refused where it hasn't two
abbrev pub pairings_by : Option (List ℕ) → Fields → Result Command RecordFault
pairings_by (Some base) fields = pairings_of_command fields base
pairings_by None fields =
    if nat_eq (length fields) 3 then apart_command fields else cheapest_command fields

-- a record has a base where its fourth field is the last and a code
abbrev pub pairings_command : Fields → Result Command RecordFault
pairings_command fields = pairings_by (base_at fields 3) fields

-- explain,CODE,WALK
unfoldable pub explain_command : Fields → Result Command RecordFault
explain_command fields = do
  count ← count_field fields 3
  base ← code_field (field_of fields 1)
  walk ← walk_field (field_of fields 2)
  Ok (Explain base walk)

-- audit,LIMIT
unfoldable pub audit_command : Fields → Result Command RecordFault
audit_command fields = do
  count ← count_field fields 2
  limit ← limit_field 10_000_000 (field_of fields 1)
  Ok (Audit limit)

-- a record of its name alone
unfoldable pub plain_command : Fields → Command → Result Command RecordFault
plain_command fields command = do
  count ← count_field fields 1
  Ok command

-- best,CODE; a record without a base is refused where it has more than its name
abbrev pub best_by : Option (List ℕ) → Fields → Result Command RecordFault
best_by (Some base) fields = Ok (BestOf base)
best_by None fields = plain_command fields Best

-- a record has a base where its second field is the last and a code
abbrev pub best_command : Fields → Result Command RecordFault
best_command fields = best_by (base_at fields 1) fields

-- ---- a record, by its name

-- the edit that a record of this name asks for; none where no edit has the name
abbrev pub edit_named : List ℕ → Fields → Option (Result Command RecordFault)
edit_named name fields =
    if bytes_eq name (codes "base") then Some (base_command fields)
    else (if bytes_eq name (codes "baseprice") then Some (base_price_command fields)
    else (if bytes_eq name (codes "flight") then Some (flight_command fields)
    else (if bytes_eq name (codes "cancel") then Some (cancel_command fields)
    else (if bytes_eq name (codes "retime") then Some (retime_command fields)
    else (if bytes_eq name (codes "price") then Some (price_command fields)
    else (if bytes_eq name (codes "turn") then Some (turn_command fields)
    else (if bytes_eq name (codes "follow") then Some (follow_command fields)
    else None)))))))

abbrev pub edit_command : Fields → Option (Result Command RecordFault)
edit_command fields = edit_named (field_of fields 0) fields

abbrev pub kind_of : List ℕ → Fields → Result Command RecordFault
kind_of name fields =
    if bytes_eq name (codes "zone") then zone_command fields
    else (if bytes_eq name (codes "settle") then plain_command fields Settle
    else (if bytes_eq name (codes "best") then best_command fields
    else (if bytes_eq name (codes "front") then front_command fields
    else (if bytes_eq name (codes "pairings") then pairings_command fields
    else (if bytes_eq name (codes "explain") then explain_command fields
    else (if bytes_eq name (codes "audit") then audit_command fields
    else Err UnknownRecord))))))

abbrev pub edit_or : Option (Result Command RecordFault) → Result Command RecordFault
    → Result Command RecordFault
edit_or (Some edit) other = edit
edit_or None other = other

abbrev pub named_command : Fields → Result Command RecordFault
named_command fields = edit_or (edit_command fields) (kind_of (field_of fields 0) fields)

abbrev pub command_or_refuse : Result Command RecordFault → Command
command_or_refuse (Ok command) = command
command_or_refuse (Err fault) = Refuse fault

-- what a record asks for
abbrev pub command_of : Fields → Command
command_of fields = command_or_refuse (named_command fields)

-- a departure that needs a report clock is an instant that a text may name
abbrev pub IsDated : Command → Type 0
IsDated (AddZone code zone) = Unit {0}
IsDated (Submit edit) = Unit {0}
IsDated (AddFlight id from to dep arr price) = IsInYears dep
IsDated (Retime id from dep arr) = IsInYears dep
IsDated Settle = Unit {0}
IsDated Best = Unit {0}
IsDated (BestOf base) = Unit {0}
IsDated (ShowFront base key) = Unit {0}
IsDated (Cheapest limit) = Unit {0}
IsDated (Apart limit share) = Unit {0}
IsDated (CheapestOf base limit) = Unit {0}
IsDated (ApartOf base limit share) = Unit {0}
IsDated (Explain base walk) = Unit {0}
IsDated (Audit limit) = Unit {0}
IsDated (Refuse fault) = Unit {0}
