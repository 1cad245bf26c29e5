use Rattle.std.proofs.Common.{◌≡◌, drop}
use Rattle.crew_duty.specs.Machinery.Turns.{minutes_to}
use Rattle.crew_duty.proofs.turns.minutes_to.Given as goal

abbrev pub invariant-loop-turn : goal.invariant-loop-turn
invariant-loop-turn l = minutes_to l.after (drop l.turn-index l.turns) ≡ minutes_to l.after l.turns
