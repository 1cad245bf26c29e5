use Rattle.std.proofs.Common.{map, subst}
use Rattle.std.specs.Prelude.{MatchOption}
use Rattle.crew_ready.specs.Firsts.{IsFirst, NoneSet}
use Rattle.crew_round.proofs.Told.{all-done, first-undone, match-told}
use Rattle.crew_round.specs.Machinery.Cells.{is_undone}
use Rattle.crew_round.specs.Marks.{AllDone, IsFirstUndone, Marks}
use Rattle.crew_round.proofs.marking.Marking.first_undone.Goals as goal

pub returns : goal.returns
returns c =
    let i = c.self.inside in
    let m : Marks = record { net = i.net.value; carried = i.carried; marks = i.cells; same = i.same.items } in
    subst (λ (z : Marks). MatchOption c.first_undone.result (AllDone z) (IsFirstUndone z)) c.self.view_is
    (match-told c.first_undone.result (NoneSet (map is_undone m.marks)) (AllDone m) (IsFirst (map is_undone m.marks)) (IsFirstUndone m) (all-done m) (first-undone m) c.first_undone.ensures)
