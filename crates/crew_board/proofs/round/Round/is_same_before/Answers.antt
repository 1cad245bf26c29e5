use Rattle.std.proofs.Common.{◌≡◌, Some, ◌<◌, ◌-◌, ◌%◌, ◌∙◌, ℕ, length, sym, ap, subst}
use Rattle.std.specs.Prelude.{slice_get}
use Rattle.std.proofs.lemmas.Option.{get_or_from_slice_get}
use Rattle.crew_board.proofs.Inside.{marked_of}
use Rattle.crew_board.proofs.Keeping.{row-here, same-before}
use Rattle.crew_board.specs.Machinery.Held.{Marked}
use Rattle.crew_board.specs.Machinery.Turns.{AllSameBefore}
use Rattle.crew_job.specs.Grounds.{Ground}
use Rattle.crew_net.specs.Nets.{Net}
use Rattle.crew_pairing.specs.declared.duty.Duty.{Duty}
use Rattle.crew_round.specs.Marks.{AreSameBefore}
use Rattle.crew_board.proofs.round.Round.is_same_before.Goals as goal

pub returns : goal.returns
returns c =
    let r = marked_of c.self.inside in
    let over = c.self.invariant.marked in
    let place = c.args.place in
    let low = subst (λ (z : Marked). place < length z.marks.marks) (sym c.self.view_is) c.requires in
    let w = row-here r over place low in
    let same = same-before r over place low w in
    let net : c.net-net.result.now ≡ r.ground.plan.net = c.net-net.ensures.net ∙ ap (λ (g : Ground). g.plan.net) c.deref.ensures in
    let count : c.duty_count.result ≡ length r.ground.plan.net.duties = c.duty_count.ensures.count ∙ ap (λ (n : Net). length n.duties) net in
    let at = c.duty-duty.result.now in
    let there : slice_get r.ground.plan.net.duties (place % c.duty_count.result) ≡ Some at = subst (λ (n : Net). slice_get n.duties (place % c.duty_count.result) ≡ Some at) net c.duty-duty.ensures in
    let here : slice_get r.ground.plan.net.duties (place % length r.ground.plan.net.duties) ≡ Some at = subst (λ k. slice_get r.ground.plan.net.duties (place % k) ≡ Some at) count there in
    let duty : at ≡ w.duty = sym (get_or_from_slice_get r.ground.plan.net.duties (place % length r.ground.plan.net.duties) at at here) ∙ get_or_from_slice_get r.ground.plan.net.duties (place % length r.ground.plan.net.duties) w.duty at w.there in
    let Told : Net → Duty → ℕ → Type 0 = λ n d k. AllSameBefore r.marks.same n d (place - place % k) in (
      λ t. subst (λ (z : Marked). AreSameBefore z.marks place) c.self.view_is
          (same.0 (subst (λ k. Told r.ground.plan.net w.duty k) count (subst (λ (d : Duty). Told r.ground.plan.net d c.duty_count.result) duty (subst (λ (n : Net). Told n at c.duty_count.result) net (c.are_same_before.ensures.0 t))))),
      λ all. c.are_same_before.ensures.1
          (subst (λ (n : Net). Told n at c.duty_count.result) (sym net) (subst (λ (d : Duty). Told r.ground.plan.net d c.duty_count.result) (sym duty) (subst (λ k. Told r.ground.plan.net w.duty k) (sym count) (same.1 (subst (λ (z : Marked). AreSameBefore z.marks place) (sym c.self.view_is) all))))),
    )
