-- The numbers of refusals.
use Rattle.std.specs.Prelude.{ℕ}
use Rattle.crew_clocks.specs.declared.fault.TimeFault.{TimeFault}
use Rattle.crew_clocks.specs.declared.fault.TimeFault.TheVariants.{BadTimeText, NoSuchTime, YearRange, BadZone}

-- the number by which a refusal is printed
abbrev pub fault_number : TimeFault → ℕ
fault_number BadTimeText = 1
fault_number NoSuchTime = 2
fault_number YearRange = 3
fault_number BadZone = 4
