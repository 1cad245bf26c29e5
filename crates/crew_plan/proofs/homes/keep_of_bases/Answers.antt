use Rattle.std.proofs.Common.{◌∙◌, ap, get_or, map, subst, sym, take}
use Rattle.std.specs.Arc.{arc_value}
use Rattle.std.specs.List.{flat_map}
use Rattle.crew_fronts.specs.Fronts.{BaseFronts}
use Rattle.crew_pairing.proofs.Tree.{Each-member}
use Rattle.crew_plan.specs.Machinery.Homes.{IsPayable, home_of}
use Rattle.crew_resource.proofs.Members.{Member-get_or, Member-map_in}
use Rattle.crew_fronts.proofs.crew_solve_lemmas.Keeping.{keep-append}
use Rattle.crew_fronts.proofs.crew_solve_lemmas.Listed.{flat-more-of}
use Rattle.crew_fronts.specs.crew_solve.Machinery.Keeps.{CheapestSoFar, keep_all}
use Rattle.crew_plan.proofs.homes.keep_of_bases.Goals as goal

pub keep_of_base-requires : goal.keep_of_base-requires
keep_of_base-requires c =
    let arcs = c.args.bases.now in
    let a = c.base-item.result in
    let among = Member-map_in arc_value arcs a (Member-get_or arcs c.loop-base.base-index a c.loop-base-test.true (sym c.base-item.is)) in
    subst (IsPayable c.args.trip_rig) (sym c.deref.ensures) (Each-member (IsPayable c.args.trip_rig) (map arc_value arcs) (arc_value a) c.requires among)

pub loop-base-preserved : goal.loop-base-preserved
loop-base-preserved c =
    let arcs = c.args.bases.now in
    let f = home_of c.args.trip_rig in
    let i = c.loop-base.base-index in
    let a = c.base-item.result in
    let is = c.deref.ensures ∙ ap (arc_value {X = BaseFronts}) c.base-item.is in
    let one : BaseFronts = arc_value (get_or arcs i a) in
    c.in_ok-keep_of_base.ensures
    ∙ (ap (λ x. keep_all c.loop-base.kept (f x)) is
    ∙ (ap (λ (k : CheapestSoFar). keep_all k (f one)) c.loop-base.invariant
    ∙ (sym (keep-append c.args.kept.now (flat_map f (map arc_value (take i arcs))) (f one)) ∙ ap (keep_all c.args.kept.now) (sym (flat-more-of arc_value f arcs i a c.loop-base-test.true)))))
