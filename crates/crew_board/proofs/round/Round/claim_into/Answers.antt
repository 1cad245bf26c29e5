use Rattle.std.proofs.Common.{subst}
use Rattle.crew_board.proofs.Answered.{told-of-err}
use Rattle.crew_board.specs.Machinery.Held.{Marked}
use Rattle.crew_round.specs.Marks.{IsReady}
use Rattle.crew_board.proofs.round.Round.claim_into.Goals as goal

pub returns-in_err-claim_at-clause-ready : goal.returns-in_err-claim_at-clause-ready
returns-in_err-claim_at-clause-ready c =
    let place = c.in-Some.first in
    let ready = subst (λ (z : Marked). IsReady z.marks place) c.self.view_is c.in-Some.ensures.ready in
    told-of-err c.from_residual.result (place, ready)
