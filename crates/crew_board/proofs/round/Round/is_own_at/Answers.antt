use Rattle.std.proofs.Common.{◌∙◌, map, refl, sym, subst}
use Rattle.std.specs.Prelude.{◌↔◌, IsTrue}
use Rattle.std.specs.Arc.{arc_value}
use Rattle.std.specs.Option.{option_map}
use Rattle.crew_board.proofs.Inside.{marked_of, shown_of}
use Rattle.crew_board.proofs.Keeping.{shown-before}
use Rattle.crew_board.proofs.Likes.{like-data, own-alike}
use Rattle.crew_board.specs.Machinery.Held.{Marked}
use Rattle.crew_job.specs.Grounds.{Ground}
use Rattle.crew_job.specs.Jobs.{IsJobOf, IsOwnAt}
use Rattle.crew_job.specs.Shown.{AreShownBefore}
use Rattle.crew_machine.specs.Crew.{DutyWork}
use Rattle.crew_round.specs.Marks.{AreDoneBefore}
use Rattle.crew_board.proofs.round.Round.is_own_at.Goals as goal

pub is_own_by_work-requires : goal.is_own_by_work-requires
is_own_by_work-requires c =
    let r = marked_of c.self.inside in
    let place = c.args.place in
    let all = subst (λ (z : Marked). AreDoneBefore z.marks place) (sym c.self.view_is) c.requires.before in
    let shown = shown-before r (shown_of c.self.inside) c.self.inside.swept.items c.self.invariant place all in
    let here = subst (λ (g : Ground). AreShownBefore g place (shown_of c.self.inside)) (sym c.deref.ensures) shown in
    subst (λ items. AreShownBefore c.deref.result.now place (map (option_map arc_value) items)) (sym c.deref-then-is_unknown.ensures.value) here

pub returns-then-is_unknown : goal.returns-then-is_unknown
returns-then-is_unknown c =
    let job = c.args.job.now in
    let place = c.args.place in
    let told = c.is_own_by_work.result in
    let here = subst (λ (g : Ground). IsTrue told ↔ ((work : DutyWork) → IsJobOf job work → IsOwnAt g place work)) c.deref.ensures c.is_own_by_work.ensures in
    subst (λ (z : Marked). IsTrue told ↔ ((work : DutyWork) → IsJobOf job work → IsOwnAt z.ground place work)) c.self.view_is here

pub returns-else-is_unknown : goal.returns-else-is_unknown
returns-else-is_unknown c =
    let job = c.args.job.now in
    let g = c.args.self.now.ground in
    let same = like-data c.args.like job.ground g (λ e. (
    let on = c.is_unknown.ensures.1 e in
    let off = c.if-is_unknown.false in
    let clash = sym off ∙ on in
    let q : ⊥ = (cc) in q)) c.requires.like in
    (λ _. own-alike job g same c.args.place c.requires.stands, λ _. refl)
