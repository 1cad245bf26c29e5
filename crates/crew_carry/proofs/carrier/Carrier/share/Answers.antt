use Rattle.std.proofs.Common.{◌≡◌, ◌∙◌, List, Option, Some, ap, length, map, subst, sym, true, ℤ}
use Rattle.std.specs.Arc.{arc_value}
use Rattle.std.specs.Prelude.{IfSome, is_some}
use Rattle.crew_pairing.specs.declared.duty.Duty.{Duty}
use Rattle.crew_carry.specs.Twins.{AreRankTwins}
use Rattle.crew_carry.specs.Carried.{IsCarried}
use Rattle.crew_carry.specs.Labels.{AreCarriedLabels}
use Rattle.crew_pool.specs.Counted.{AreCounted}
use Rattle.crew_pool.specs.LabelWalks.{shown}
use Rattle.crew_pool.specs.Ranks.{AreRanked, by_key}
use Rattle.crew_pool.specs.declared.label_walk.LabelWalk.{LabelWalk}
use Rattle.crew_resource.specs.Members.{Member}
use Rattle.crew_carry.proofs.CarriedLabels.{labels-counted, labels-in-place, labels-keys, labels-ranked}
use Rattle.crew_carry.proofs.carrier.Carrier.share.Goals as goal
use Rattle.crew_carry.proofs.carrier.Carrier.share.Given as given

some-of : {X : Type 0} (P : X → Type 0) (o : Option X) (x : X) → o ≡ Some x → IfSome o P → P x
some-of P o x e h = subst (λ z. IfSome z P) e h

-- the labels are carried as they are
as-they-are : (g : given.Over) (c : goal.In_ok-try_clone g) → AreCarriedLabels {V = g.row.R-Value.Denot} c.args.ranks.now c.args.from.now c.args.to.now (arc_value c.args.pool.now) (arc_value c.args.pool.now)
as-they-are g c =
    let V = g.row.R-Value.Denot in
    let places = c.self.inside.places in
    let carried = subst (IsCarried c.args.ranks.now c.args.from.now c.args.to.now) (sym c.self.view_is) c.requires.carried in
    labels-in-place c.args.ranks.now c.args.from.now c.args.to.now places carried (arc_value c.args.pool.now)
    (λ l m. c.are_in_place.ensures c.if-are_in_place.true l (subst (λ (ls : List (V × LabelWalk)). Member ls l) (sym (c.as_slice.ensures.all ∙ c.deref.ensures)) m))
    c.requires.whole

pub returns-then-are_in_place-clause-labels : goal.returns-then-are_in_place-clause-labels
returns-then-are_in_place-clause-labels g c olds news twins =
    let V = g.row.R-Value.Denot in
    ap (λ (ls : List (V × LabelWalk)). by_key news (map (shown c.args.to.now) ls)) c.in_ok-try_clone.ensures
    ∙ labels-keys c.args.ranks.now c.args.from.now c.args.to.now olds news twins (arc_value c.args.pool.now) (arc_value c.args.pool.now) (as-they-are g c)

pub returns-then-are_in_place-clause-counted : goal.returns-then-are_in_place-clause-counted
returns-then-are_in_place-clause-counted g c count counted =
    let V = g.row.R-Value.Denot in
    subst (λ (ls : List (V × LabelWalk)). AreCounted count c.args.to.now true ls) (sym c.in_ok-try_clone.ensures)
    (labels-counted c.args.ranks.now c.args.from.now c.args.to.now (arc_value c.args.pool.now) (arc_value c.args.pool.now) (as-they-are g c) count counted)

pub returns-then-are_in_place-clause-ranked : goal.returns-then-are_in_place-clause-ranked
returns-then-are_in_place-clause-ranked g c olds news twins =
    let V = g.row.R-Value.Denot in
    subst (λ (ls : List (V × LabelWalk)). AreRanked (length news) (map (shown c.args.to.now) ls)) (sym c.in_ok-try_clone.ensures)
    (labels-ranked c.args.ranks.now c.args.from.now c.args.to.now olds news twins (arc_value c.args.pool.now) (arc_value c.args.pool.now) (as-they-are g c))

pub returns-in_default-clause-none : goal.returns-in_default-clause-none
returns-in_default-clause-none g c =
    let V = g.row.R-Value.Denot in
    let lacks = c.in_ok-new.ensures.none (ap is_some c.in_default.is) in
    λ _. (lacks.0, subst (λ (ls : List (V × LabelWalk)). Member ls lacks.0) c.deref-2.ensures lacks.1, lacks.2)

-- what is carried, where the pool is put behind an `Arc`
pub returns-clause-counted : goal.returns-clause-counted
returns-clause-counted g c count counted =
    let V = g.row.R-Value.Denot in
    let was = subst (λ (ls : List (V × LabelWalk)). AreCounted count c.args.from.now true ls) (sym c.deref-2.ensures) counted in
    subst (λ (ls : List (V × LabelWalk)). AreCounted count c.carry.new.to true ls) (sym c.in_ok-new-2.ensures.ok) ((some-of (λ (ls : List (V × LabelWalk)). (count : V → ℤ) → AreCounted count c.args.from.now true c.deref-2.result.now → AreCounted count c.carry.new.to true ls) c.in_ok-new.field-0 c.in-Some.new c.in-Some.is c.in_ok-new.ensures.counted) count was)

pub returns-clause-ranked : goal.returns-clause-ranked
returns-clause-ranked g c olds news twins =
    let V = g.row.R-Value.Denot in
    subst (λ (ls : List (V × LabelWalk)). AreRanked (length news) (map (shown c.carry.new.to) ls)) (sym c.in_ok-new-2.ensures.ok) ((some-of (λ (ls : List (V × LabelWalk)). (olds news : List Duty) → AreRankTwins olds news c.args.ranks.now → AreRanked (length news) (map (shown c.carry.new.to) ls)) c.in_ok-new.field-0 c.in-Some.new c.in-Some.is c.in_ok-new.ensures.ranked) olds news twins)
