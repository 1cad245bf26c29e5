use Rattle.crew_pairing.specs.Events.{departure_of}
use Rattle.crew_board.proofs.before.arrivals_before.Goals as goal

pub returns-in-Some-clause-all : goal.returns-in-Some-clause-all
returns-in-Some-clause-all c = λ k x at may. ((c.window.ensures (departure_of c.args.duty.now) c.in-Some.ensures).exact k x at).0 may
