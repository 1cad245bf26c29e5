use Rattle.std.proofs.Common.{◌≡◌, ◌+◌, length}
use Rattle.crew_log.specs.Logs.{AreOf, IsRun}
use Rattle.crew_log.proofs.log.Log.read_until.Given as goal

abbrev pub invariant-loop-place : goal.invariant-loop-place
invariant-loop-place l = AreOf l.self l.receipts.items × IsRun l.from l.receipts.items
    × (l.place ≡ l.from + length l.receipts.items)
