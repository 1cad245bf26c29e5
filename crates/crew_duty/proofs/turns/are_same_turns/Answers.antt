use Rattle.std.proofs.lemmas.Slice.Eq.{slice_eq-Decides}
use Rattle.crew_duty.proofs.TurnRange.{turn-decides}
use Rattle.crew_duty.proofs.turns.are_same_turns.Goals as goal

pub returns : goal.returns
returns c = (slice_eq-Decides turn-decides c.args.turns.now c.args.others.now c.eq.result c.eq.ensures).0
