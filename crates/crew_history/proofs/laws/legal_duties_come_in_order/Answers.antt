use Rattle.crew_history.proofs.LegalOrder.{in_order}
use Rattle.crew_history.proofs.laws.legal_duties_come_in_order.Goals as goal

pub returns : goal.returns
returns c = in_order
