use Rattle.std.proofs.Common.{◌≡◌, ◌<◌, ◌||◌, ◌∙◌, length, not, subst, sym, true}
use Rattle.std.specs.Prelude.{◌↔◌}
use Rattle.crew_round.proofs.Told.{clear-told}
use Rattle.crew_round.specs.Marks.{AreDoneBefore, IsMarked, Marks}
use Rattle.crew_round.specs.declared.mark.Mark.{Mark}
use Rattle.crew_round.specs.declared.mark.Mark.TheVariants.{Waiting}
use Rattle.crew_round.proofs.marking.Marking.is_clear.Goals as goal

pub returns-clause-clear : goal.returns-clause-clear
returns-clause-clear c =
    let i = c.self.inside in
    let m : Marks = record { net = i.net.value; carried = i.carried; marks = i.cells; same = i.same.items } in
    subst (λ (z : Marks). c.args.place < length z.marks → ((not c.is_waiting-waits.result || c.contains.result) ≡ true) ↔ AreDoneBefore z c.args.place) c.self.view_is
    (λ low. clear-told m i.arrivals.items i.ready i.reusable c.self.invariant c.args.place c.is_waiting-waits.result c.contains.result low
    (λ t. sym c.get.ensures ∙ c.is_waiting-waits.ensures.0 t, λ t. c.is_waiting-waits.ensures.1 (c.get.ensures ∙ t)) c.contains.ensures)

pub returns-clause-started : goal.returns-clause-started
returns-clause-started c = subst (λ (z : Marks). (mark : Mark) → IsMarked z c.args.place mark → (mark ≡ Waiting → ⊥) → AreDoneBefore z c.args.place) c.self.view_is (c.self.invariant.marks.started c.args.place)
