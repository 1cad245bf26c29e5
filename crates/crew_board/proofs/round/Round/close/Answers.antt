use Rattle.std.proofs.Common.{◌≡◌, ◌∙◌, ◌∷◌, [], length, map, sym, ap, subst, arith}
use Rattle.std.specs.Prelude.{slice_get}
use Rattle.std.specs.Arc.{arc_value}
use Rattle.std.proofs.lemmas.List.{length-append, length-map}
use Rattle.crew_board.proofs.Gathered.{each-pushed}
use Rattle.crew_board.specs.Machinery.Held.{Marked}
use Rattle.crew_job.specs.Grounds.{Ground}
use Rattle.crew_job.specs.crew_plan.Plans.{AreAllIn, AreFrontsIn}
use Rattle.crew_board.proofs.round.Round.close.Goals as goal

pub loop-base-init : goal.loop-base-init
loop-base-init c = (
  ap length c.in_ok-sweeps.ensures.items,
  λ k b e. (
      let none = ap (λ items. slice_get (map arc_value items) k) c.in_ok-sweeps.ensures.items in
      let clash = sym none ∙ e in
      absurd (let q : ⊥ = (cc) in q)),
)

pub loop-base-preserved : goal.loop-base-preserved
loop-base-preserved c =
    let before = c.loop-base.sweeps.items in
    let made = c.in_ok-swept_or_made.field-0 in
    let items = c.in_ok-push.ensures.items in
    let plan = c.args.self.now.ground.plan in
    let long = c.loop-base.invariant.0 in
    let here : AreFrontsIn plan (length before) (arc_value made) = subst (λ k. AreFrontsIn plan k (arc_value made)) (sym long) c.in_ok-swept_or_made.ensures in
    let more = length-append before (made ∷ []) in
    let all = each-pushed arc_value (AreFrontsIn plan) before made c.loop-base.invariant.1 here in (
      ap length items ∙ omega (arith, more, long),
      λ k b e. all k b (sym (ap (λ xs. slice_get (map arc_value xs) k) items) ∙ e),
    )

pub close-requires : goal.close-requires
close-requires c =
    let items = c.loop-base.sweeps.items in
    let mine : c.deref-2.result.now ≡ c.args.self.now.ground = c.deref-2.ensures ∙ ap (λ (z : Marked). z.ground) c.self.view_is in
    let count = c.base_count-count.ensures.count ∙ ap (λ (g : Ground). length g.plan.prices) (c.deref.ensures ∙ ap (λ (z : Marked). z.ground) c.self.view_is) in
    let mapped = length-map items arc_value in
    let long = c.loop-base.invariant.0 in
    let end = c.loop-base.auto.base-end in
    let past = c.loop-base-test.false in
    let whole : AreAllIn c.args.self.now.ground.plan (map arc_value items) = record { long = omega (arith, count, mapped, long, end, past); each = c.loop-base.invariant.1 } in
    subst (λ (g : Ground). AreAllIn g.plan (map arc_value items)) (sym mine) whole
