use Rattle.crew_duty.proofs.TurnRange.{entries-in-order, turns-again}
use Rattle.crew_duty.proofs.turns.HeldTurns.of.Goals as goal

pub returns : goal.returns
returns c = turns-again c.args.timetable.now.turns c.in_ok-all.all.items c.in_ok-all.ensures

pub invariant_of-result : goal.invariant_of-result
invariant_of-result c = rw c.in_ok-all.ensures (entries-in-order c.args.timetable.now.turns)
