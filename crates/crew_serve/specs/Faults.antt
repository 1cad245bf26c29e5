-- The numbers by which a client is refused.
use Rattle.std.specs.Prelude.{ℕ}
use Rattle.crew_publish.specs.declared.fault.ViewFault.{ViewFault}
use Rattle.crew_publish.specs.declared.fault.ViewFault.TheVariants as view
use Rattle.crew_serve.specs.declared.client_fault.ClientFault.{ClientFault}
use Rattle.crew_serve.specs.declared.client_fault.ClientFault.TheVariants.{TooManyDuties, LastVersion, NoSeat, SeatFull, Unsettled, OtherSettings, NoView, Memory}

abbrev pub client_number : ClientFault → ℕ
client_number TooManyDuties = 40
client_number LastVersion = 57
client_number NoSeat = 60
client_number SeatFull = 61
client_number Unsettled = 62
client_number OtherSettings = 63
client_number NoView = 65
client_number Memory = 66

-- why a view isn't given, as a client is told
abbrev pub fault_of : ViewFault → ClientFault
fault_of view.NoView = NoView
fault_of view.Memory = Memory
