use Rattle.std.proofs.Common.{◌≡◌, ◌∙◌, ap, map, subst, sym, true}
use Rattle.std.specs.Arc.{arc_value}
use Rattle.crew_fronts.specs.Fronts.{BaseFronts, IsOfSweep, is_plain}
use Rattle.crew_pairing.proofs.Tree.{Each-member}
use Rattle.crew_plan.proofs.Among.{one-more}
use Rattle.crew_resource.proofs.Members.{Member-get_or, Member-map_in}
use Rattle.crew_fronts.specs.crew_sweep.Sweeps.{BaseSweep}
use Rattle.crew_plan.proofs.sweeps.wrapped.Goals as goal

pub swept-requires : goal.swept-requires
swept-requires c =
    let arcs = c.args.sweeps.now in
    let a = c.sweep-item.result in
    let among = Member-map_in arc_value arcs a (Member-get_or arcs c.loop-sweep.sweep-index a c.loop-sweep-test.true (sym c.sweep-item.is)) in
    let own = Each-member (λ (b : BaseSweep). is_plain b.net.settings ≡ true) (map arc_value arcs) (arc_value a) c.requires among in
    subst (λ (b : BaseSweep). is_plain b.net.settings ≡ true) (sym c.in_ok-try_clone.ensures) own

pub loop-sweep-preserved : goal.loop-sweep-preserved
loop-sweep-preserved c =
    let arcs = c.args.sweeps.now in
    let a = c.sweep-item.result in
    let is = c.in_ok-try_clone.ensures ∙ ap (arc_value {X = BaseSweep}) c.sweep-item.is in
    let one = c.in_ok-one.one in
    one-more (arc_value {X = BaseSweep}) (arc_value {X = BaseFronts}) arcs c.loop-sweep.sweep-index a c.loop-sweep.fronts.items c.push.new.self.items one c.loop-sweep-test.true c.loop-sweep.invariant
    (subst (λ (b : BaseSweep). IsOfSweep b (arc_value one)) is c.in_ok-one.ensures) c.in_ok-push.ensures.items
