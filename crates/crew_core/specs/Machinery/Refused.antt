-- The replies to rounds that aren't begun or sealed; want of memory has none.
use Rattle.std.specs.Prelude.{Option, Some, None}
use Rattle.crew_board.specs.declared.fault.BeginFault.{BeginFault}
use Rattle.crew_board.specs.declared.fault.BeginFault.TheVariants.{Busy, Ground}
use Rattle.crew_board.specs.declared.fault.SealFault.{SealFault}
use Rattle.crew_board.specs.declared.fault.SealFault.TheVariants as Seal
use Rattle.crew_core.specs.declared.reply.Reply.{Reply}
use Rattle.crew_core.specs.declared.reply.Reply.TheVariants as Told
use Rattle.crew_board.specs.crew_job.declared.fault.GroundFault.TheVariants as NoGround

abbrev pub begin_reply : BeginFault → Option Reply
begin_reply Busy = Some Told.Busy
begin_reply (Ground NoGround.ShorterLog) = None
begin_reply (Ground NoGround.LastVersion) = Some Told.LastVersion
begin_reply (Ground NoGround.TooManyDuties) = Some Told.TooManyDuties
begin_reply (Ground NoGround.Memory) = None

abbrev pub seal_reply : SealFault → Option Reply
seal_reply Seal.NoRound = Some Told.NoRound
seal_reply (Seal.NotDone node) = Some (Told.NotDone node)
seal_reply Seal.Memory = None
