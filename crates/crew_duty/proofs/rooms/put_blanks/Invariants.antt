use Rattle.std.proofs.Common.{◌≡◌, ◌+◌, length}
use Rattle.crew_duty.proofs.rooms.put_blanks.Given as goal

abbrev pub invariant-loop : goal.invariant-loop
invariant-loop l = length l.list.items ≡ length l.fn.list.items + l.counter
