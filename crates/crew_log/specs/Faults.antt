-- Why a log gives no seat, or takes no edit.
use Rattle.std.specs.Prelude.{◌≡◌, ◌<◌, ℕ, Option, Some, None}
use Rattle.crew_log.specs.Logs.{Seat}
use Rattle.crew_log.specs.declared.fault.LogFault.{LogFault}
use Rattle.crew_log.specs.declared.fault.LogFault.TheVariants.{TooManySeats, SeatFull, Memory}

-- the number of a refusal
abbrev pub log_number : LogFault → Option ℕ
log_number TooManySeats = Some 60
log_number SeatFull = Some 61
log_number Memory = None

-- a seat's edit isn't taken: it has made 1,000,000 entries, or it hasn't and there is no memory
abbrev pub IsSubmitFault : Seat → LogFault → Type 0
IsSubmitFault seat TooManySeats = ⊥
IsSubmitFault seat SeatFull = seat.made ≡ 1_000_000
IsSubmitFault seat Memory = seat.made < 1_000_000
