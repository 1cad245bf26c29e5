-- The numbers by which records are refused.
use Rattle.std.specs.Prelude.{ℕ}
use Rattle.crew_clocks.specs.Faults.{fault_number}
use Rattle.crew_records.specs.declared.fault.RecordFault.{RecordFault}
use Rattle.crew_records.specs.declared.fault.RecordFault.TheVariants.{Text, UnknownRecord, FieldCount, BadField, NoZone, ZoneExists, TooManyZones}

-- the number by which the refusal of a record is printed
abbrev pub record_number : RecordFault → ℕ
record_number (Text fault) = fault_number fault
record_number UnknownRecord = 70
record_number FieldCount = 71
record_number BadField = 72
record_number NoZone = 73
record_number ZoneExists = 74
record_number TooManyZones = 75
