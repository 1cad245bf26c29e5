use Rattle.std.proofs.Common.{subst}
use Rattle.std.specs.Prelude.{MatchOption}
use Rattle.crew_ready.specs.Firsts.{IsFirst, NoneSet}
use Rattle.crew_round.proofs.Told.{first-reusable, match-told, none-reusable}
use Rattle.crew_round.specs.Marks.{AreDoneBefore, IsReusable, Marks, NoneReusable}
use Rattle.crew_round.proofs.marking.Marking.first_reusable.Goals as goal

pub returns : goal.returns
returns c =
    let i = c.self.inside in
    let m : Marks = record { net = i.net.value; carried = i.carried; marks = i.cells; same = i.same.items } in
    subst (λ (z : Marks). MatchOption c.first.result (NoneReusable z) (λ place. IsReusable z place × AreDoneBefore z place)) c.self.view_is
    (match-told c.first.result (NoneSet i.reusable.set) (NoneReusable m) (IsFirst i.reusable.set) (λ place. IsReusable m place × AreDoneBefore m place) (none-reusable m i.arrivals.items i.ready i.reusable c.self.invariant) (first-reusable m i.arrivals.items i.ready i.reusable c.self.invariant) c.first.ensures)
