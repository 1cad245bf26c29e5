use Rattle.std.proofs.Common.{subst}
use Rattle.std.specs.Prelude.{MatchOption}
use Rattle.crew_ready.specs.Firsts.{IsFirst, NoneSet}
use Rattle.crew_round.proofs.Told.{first-ready, match-told, none-ready}
use Rattle.crew_round.specs.Marks.{IsFirstReady, Marks, NoneReady}
use Rattle.crew_round.proofs.marking.Marking.first_ready.Goals as goal

pub returns : goal.returns
returns c =
    let i = c.self.inside in
    let m : Marks = record { net = i.net.value; carried = i.carried; marks = i.cells; same = i.same.items } in
    subst (λ (z : Marks). MatchOption c.first.result (NoneReady z) (IsFirstReady z)) c.self.view_is
    (match-told c.first.result (NoneSet i.ready.set) (NoneReady m) (IsFirst i.ready.set) (IsFirstReady m) (none-ready m i.arrivals.items i.ready i.reusable c.self.invariant) (first-ready m i.arrivals.items i.ready i.reusable c.self.invariant) c.first.ensures)
