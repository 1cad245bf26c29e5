use Rattle.std.proofs.Common.{◌≡◌, take}
use Rattle.crew_service.specs.Plans.{entries_of}
use Rattle.crew_service.proofs.planner.entries_in.Given as goal

abbrev pub invariant-loop-receipt : goal.invariant-loop-receipt
invariant-loop-receipt l = l.entries.items ≡ entries_of (take l.receipt-index l.receipts)
