-- The numbers of refusals.
use Rattle.std.specs.Prelude.{ℕ, Option, Some, None}
use Rattle.crew_duty.specs.declared.fault.DutyFault.{DutyFault}
use Rattle.crew_duty.specs.declared.fault.DutyFault.TheVariants.{TooManyDuties, Memory}

-- the number of a refusal; want of memory has none
abbrev pub duty_number : DutyFault → Option ℕ
duty_number TooManyDuties = Some 40
duty_number Memory = None
