-- What the thread of a client gets may cross threads.
use denote.Param.Send.{IsSend, IsSync}
use Rattle.crew_publish.proofs.Crossing.{with_viewers}
use Rattle.crew_serve.proofs.clerk.Hall.TheSendSync as HallSent
use Rattle.crew_serve.specs.contracts.attend.Booth as Booth
use Rattle.crew_serve.specs.contracts.bell.Bell as Bell
use Rattle.crew_serve.specs.contracts.clerk.Hall as Hall
use Rattle.crew_serve.specs.contracts.message.Message as Message
use Rattle.crew_service.proofs.shared.Shared.TheSendSync as SharedSent
use Rattle.crew_service.specs.contracts.shared.Shared as Shared

message-send : IsSend Message.the_row
message-send = search with_viewers depth 40 fits 30000

bell-send : IsSend Bell.the_row
bell-send = search with_viewers depth 40 fits 60000

ruleset with_messages = (with_viewers, message-send, bell-send)

pub booth_send : IsSend Booth.the_row
booth_send = search with_messages depth 40 fits 60000

pub shared_sync : IsSync Shared.the_row
shared_sync = SharedSent.the_sync

pub hall_sync : (l : _) → IsSync (Hall.the_row l)
hall_sync l = HallSent.the_sync l

pub ruleset with_booths = (with_viewers, booth_send, hall_sync, shared_sync)
