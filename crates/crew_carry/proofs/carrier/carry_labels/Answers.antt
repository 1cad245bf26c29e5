use Rattle.std.proofs.Common.{◌<◌, ◌+◌, ◌++◌, ◌∷◌, [], ℕ, List, Option, length, take, refl, ap, sym, subst}
use Rattle.std.specs.Prelude.{IfSome, is_some}
use Rattle.std.proofs.lemmas.List.{take_all}
use Rattle.crew_carry.specs.Carried.{AreTwinWalks}
use Rattle.crew_carry.specs.Labels.{AreCarriedLabels, IsCarriedLabel}
use Rattle.crew_pool.specs.Arena.{walk_at}
use Rattle.crew_pool.specs.declared.label_walk.LabelWalk.{LabelWalk}
use Rattle.crew_step.proofs.Grown.{grown-itself, grown-through}
use Rattle.crew_step.proofs.Loops.{item-at, item-known, take-grown}
use Rattle.crew_carry.proofs.CarriedLabels.{labels-more, none-twins}
use Rattle.crew_carry.proofs.carrier.carry_labels.Goals as goal

pub returns-in_err-carried-clause-carried : goal.returns-in_err-carried-clause-carried
returns-in_err-carried-clause-carried g c = c.requires.carried

pub returns-in_err-carried-clause-grown : goal.returns-in_err-carried-clause-grown
returns-in_err-carried-clause-grown g c = grown-itself c.args.to.now

pub loop-label-init : goal.loop-label-init
loop-label-init g c =
    let Labels = List (g.row.R-Value.Denot × LabelWalk) in
    let none : AreCarriedLabels c.args.ranks.now c.args.from.now c.args.to.now (take 0 c.args.labels.now) c.in_ok-carried.carried.items =
    subst (λ (ns : Labels). AreCarriedLabels c.args.ranks.now c.args.from.now c.args.to.now (take 0 c.args.labels.now) ns) (sym c.in_ok-carried.ensures.items) tt in
    (c.requires.carried, grown-itself c.args.to.now, none)

pub carry_walk-requires-clause-carried : goal.carry_walk-requires-clause-carried
carry_walk-requires-clause-carried g c = c.loop-label.invariant.0

pub carry_walk-requires-clause-there : goal.carry_walk-requires-clause-there
carry_walk-requires-clause-there g c =
    let l = c.label-item.result in
    c.requires.there l (item-known c.args.labels.now c.loop-label.label-index l c.loop-label-test.true c.label-item.is)

pub returns-in_err-walk-clause-carried : goal.returns-in_err-walk-clause-carried
returns-in_err-walk-clause-carried g c = c.carry_walk.ensures.carried

pub returns-in_err-walk-clause-grown : goal.returns-in_err-walk-clause-grown
returns-in_err-walk-clause-grown g c = grown-through c.args.to.now c.loop-label.to c.carry_walk.new.to c.loop-label.invariant.1 c.carry_walk.ensures.grown

pub returns-in_default-clause-carried : goal.returns-in_default-clause-carried
returns-in_default-clause-carried g c = c.carry_walk.ensures.carried

pub returns-in_default-clause-grown : goal.returns-in_default-clause-grown
returns-in_default-clause-grown g c = grown-through c.args.to.now c.loop-label.to c.carry_walk.new.to c.loop-label.invariant.1 c.carry_walk.ensures.grown

pub returns-in_default-clause-none : goal.returns-in_default-clause-none
returns-in_default-clause-none g c =
    let l = c.label-item.result in
    λ _. (l, item-known c.args.labels.now c.loop-label.label-index l c.loop-label-test.true c.label-item.is, c.in_ok-walk.ensures.none (ap is_some c.in_default.is))

pub returns-in_err-value-clause-carried : goal.returns-in_err-value-clause-carried
returns-in_err-value-clause-carried g c = c.carry_walk.ensures.carried

pub returns-in_err-value-clause-grown : goal.returns-in_err-value-clause-grown
returns-in_err-value-clause-grown g c = grown-through c.args.to.now c.loop-label.to c.carry_walk.new.to c.loop-label.invariant.1 c.carry_walk.ensures.grown

pub returns-in_err-push-clause-carried : goal.returns-in_err-push-clause-carried
returns-in_err-push-clause-carried g c = c.carry_walk.ensures.carried

pub returns-in_err-push-clause-grown : goal.returns-in_err-push-clause-grown
returns-in_err-push-clause-grown g c = grown-through c.args.to.now c.loop-label.to c.carry_walk.new.to c.loop-label.invariant.1 c.carry_walk.ensures.grown

pub loop-label-preserved : goal.loop-label-preserved
loop-label-preserved g c =
    let Label = g.row.R-Value.Denot × LabelWalk in
    let ranks = c.args.ranks.now in
    let from = c.args.from.now in
    let was = c.loop-label.to in
    let to = c.carry_walk.new.to in
    let i = c.loop-label.label-index in
    let l = c.label-item.result in
    let inv = c.loop-label.invariant in
    let step = c.in_ok-walk.ensures in
    let items = c.loop-label.carried.items in
    let x : Label = (c.in_ok-value.value, record { walk = c.in-Some.walk; duty = 4294967295 }) in
    let at = subst (λ (o : Option ℕ). IfSome o (λ q. (q < length to) × AreTwinWalks ranks (walk_at from l.1.walk) (walk_at to q))) c.in-Some.is step.walk in
    let one : IsCarriedLabel ranks from to l x = record {
      value = c.in_ok-value.ensures;
      there = at.0;
      duty = none-twins ranks l.1.duty 4294967295 (c.requires.whole l (item-known c.args.labels.now i l c.loop-label-test.true c.label-item.is)) refl;
      walk = at.1;
    }
    in
    let more = labels-more ranks from was to step.grown (take i c.args.labels.now) items l x inv.2 one in
    let taken = sym (take-grown c.args.labels.now i l (item-at c.args.labels.now i l c.loop-label-test.true c.label-item.is)) in
    let pushed = sym c.in_ok-push.ensures.items in (
      step.carried,
      grown-through c.args.to.now was to inv.1 step.grown,
      subst (λ (ns : List Label). AreCarriedLabels ranks from to (take (i + 1) c.args.labels.now) ns) pushed
          (subst (λ (os : List Label). AreCarriedLabels ranks from to os (items ++ x ∷ [])) taken more),
    )

pub returns-clause-carried : goal.returns-clause-carried
returns-clause-carried g c = c.loop-label.invariant.0

pub returns-clause-grown : goal.returns-clause-grown
returns-clause-grown g c = c.loop-label.invariant.1

pub returns-clause-labels : goal.returns-clause-labels
returns-clause-labels g c =
    let all = take_all c.loop-label.label-index c.args.labels.now c.loop-label-test.false in
    subst (λ (os : List (g.row.R-Value.Denot × LabelWalk)). AreCarriedLabels c.args.ranks.now c.args.from.now c.loop-label.to os c.loop-label.carried.items) all c.loop-label.invariant.2
