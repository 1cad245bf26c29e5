use Rattle.std.proofs.Common.{subst}
use Rattle.std.specs.Prelude.{MatchOption}
use Rattle.crew_round.specs.Marks.{IsFirstReady, Marks, NoneReady}
use Rattle.crew_round.proofs.marks.Marks.first_ready.Goals as goal

pub returns : goal.returns
returns c = subst (λ (z : Marks). MatchOption c.first_ready.result (NoneReady z) (IsFirstReady z)) c.self.view_is c.first_ready.ensures
