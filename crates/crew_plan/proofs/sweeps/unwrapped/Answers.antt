use Rattle.std.proofs.Common.{◌≡◌, ◌∙◌, ◌+◌, ◌∷◌, [], ℕ, List, ap, arith, length, length-append, map, refl, subst, sym, true}
use Rattle.std.proofs.lemmas.List.{length-map, map-append}
use Rattle.std.specs.Arc.{arc_value}
use Rattle.std.specs.Prelude.{slice_get}
use Rattle.crew_flights.specs.Timetable.{IsSound, Timetable}
use Rattle.crew_fronts.specs.Fronts.{BaseFronts, IsOfSweep, is_plain}
use Rattle.crew_net.specs.Nets.{Net}
use Rattle.crew_pairing.specs.Duties.{AreDuties}
use Rattle.crew_plan.proofs.Among.{places-more}
use Rattle.crew_plan.specs.Machinery.Kinds.{plan_by_sweeps}
use Rattle.crew_plan.specs.Plans.{AreFrontsIn}
use Rattle.crew_fronts.proofs.crew_solve_lemmas.Departing.{read-at}
use Rattle.crew_fronts.specs.crew_solve.Plans.{IsSweepIn, Plan}
use Rattle.crew_net.proofs.Slices.{map-get}
use Rattle.crew_fronts.specs.crew_sweep.Sweeps.{BaseSweep, ShowsFronts}
use Rattle.crew_plan.proofs.sweeps.unwrapped.Goals as goal

-- the sweep of fronts that stand at a place
sweep-in : (plan : Plan) (place : ℕ) (b : BaseFronts) (sweep : BaseSweep) → AreFrontsIn (plan_by_sweeps plan) place b → IsOfSweep sweep b
    → ((t : Timetable) → IsSound t → AreDuties sweep.net.settings t sweep.net.duties → ShowsFronts t sweep) → IsSweepIn plan place sweep
sweep-in plan place b sweep are own right =
    let net = sym own.net ∙ are.2.same in
    let pair : (sweep.base, sweep.price) ≡ (b.base, b.price) = λ i. (sym own.base i, sym own.price i) in (
      are.0,
      are.1,
      record {
        net = net;
        base = pair ∙ are.2.own;
        right = λ t sound duties. right t sound (subst (λ (n : Net). AreDuties n.settings t n.duties) (sym net) duties);
      },
    )

pub sweep_of-requires : goal.sweep_of-requires
sweep_of-requires c =
    let arcs = c.args.fronts.now in
    let i = c.loop-base.base-index in
    let a = c.base-item.result in
    let at = map-get (arc_value {X = BaseFronts}) arcs i a (read-at arcs arcs i a refl c.loop-base-test.true c.base-item.is) in
    let are = c.requires.all.each i (arc_value a) at in
    subst (λ (b : BaseFronts). is_plain b.net.settings ≡ true) (sym c.deref.ensures)
    (subst (λ (n : Net). is_plain n.settings ≡ true) (sym are.2.same) c.requires.plain.short)

pub loop-base-init : goal.loop-base-init
loop-base-init c =
    let none = c.in_ok-sweeps.ensures.items in (
      ap length none,
      λ place b h.
          let all = ap (λ (l : List _). slice_get (map (arc_value {X = BaseSweep}) l) place) (sym none) ∙ h in
          absurd (let q : ⊥ = (cc) in q),
    )

pub loop-base-preserved : goal.loop-base-preserved
loop-base-preserved c =
    let arcs = c.args.fronts.now in
    let i = c.loop-base.base-index in
    let a = c.base-item.result in
    let at = map-get (arc_value {X = BaseFronts}) arcs i a (read-at arcs arcs i a refl c.loop-base-test.true c.base-item.is) in
    let are = c.requires.all.each i (arc_value a) at in
    let one = c.in_ok-sweep.sweep in
    let own = subst (IsOfSweep (arc_value one)) c.deref.ensures c.in_ok-sweep.ensures.own in
    let plan = c.args.plan.now in
    let here = sweep-in plan i (arc_value a) (arc_value one) are own c.in_ok-sweep.ensures.right in
    let so_far = map (arc_value {X = BaseSweep}) c.loop-base.sweeps.items in
    let long : length so_far ≡ i = length-map c.loop-base.sweeps.items (arc_value {X = BaseSweep}) ∙ c.loop-base.invariant.0 in
    let whole = ap (map (arc_value {X = BaseSweep})) c.in_ok-push.ensures.items ∙ map-append (arc_value {X = BaseSweep}) c.loop-base.sweeps.items (one ∷ []) in (
      ap length c.in_ok-push.ensures.items ∙ (length-append c.loop-base.sweeps.items (one ∷ []) ∙ ap (λ n. n + 1) c.loop-base.invariant.0),
      λ place b h. places-more (IsSweepIn plan) so_far (arc_value one) c.loop-base.invariant.1 (subst (λ k. IsSweepIn plan k (arc_value one)) (sym long) here) place b (ap (λ (l : List BaseSweep). slice_get l place) (sym whole) ∙ h),
    )

pub returns : goal.returns
returns c =
    let arcs = c.args.fronts.now in
    let items = c.loop-base.sweeps.items in
    let one = length-map items (arc_value {X = BaseSweep}) in
    let other = length-map arcs (arc_value {X = BaseFronts}) in
    let long = c.requires.all.long in
    let is = c.loop-base.invariant.0 in
    let auto = c.loop-base.auto.base-index-end in
    record { long = omega (arith, one, other, long, is, auto, c.loop-base-test.false); each = c.loop-base.invariant.1 }
