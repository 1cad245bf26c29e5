use Rattle.std.proofs.Common.{◌≡◌, ◌+◌}
use Rattle.crew_log.specs.Machinery.Rights.{AreCounters}
use Rattle.crew_log.proofs.rights.Rights.new.Given as goal

abbrev pub invariant-loop : goal.invariant-loop
invariant-loop l = AreCounters l.history.book l.counter l.counters.items × (l.pens.book ≡ l.history.book)
    × (l.pens.next ≡ l.counter) × (l.pens.left + l.counter ≡ 64)
