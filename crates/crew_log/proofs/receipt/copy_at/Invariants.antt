use Rattle.std.proofs.Common.{take}
use Rattle.crew_log.specs.Logs.{HaveNone}
use Rattle.crew_log.proofs.receipt.copy_at.Given as goal

abbrev pub invariant-loop-receipt : goal.invariant-loop-receipt
invariant-loop-receipt l = HaveNone (take l.receipt-index l.receipts) l.place
