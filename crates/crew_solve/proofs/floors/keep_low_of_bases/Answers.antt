use Rattle.std.proofs.Common.{◌≡◌, ◌∙◌, ◌<◌, Some, ap, arith, length, map, refl, subst, sym, get_or}
use Rattle.std.specs.Prelude.{slice_get}
use Rattle.std.specs.Arc.{arc_value}
use Rattle.std.specs.List.{flat_map}
use Rattle.crew_pairing.proofs.Tree.{Each-member}
use Rattle.crew_resource.proofs.Members.{Member-at, Member-flat_map_in, Member-map_in}
use Rattle.crew_solve.specs.Machinery.Floors.{IsKnown}
use Rattle.crew_solve.specs.Machinery.Homes.{home_of}
use Rattle.crew_solve.specs.Machinery.Keeps.{KeepsSome}
use Rattle.crew_solve.proofs.Departing.{read-at}
use Rattle.crew_solve.proofs.Flooring.{known-at, known-set, keeps-more, keeps-none, long-map, mapped-at, some-beside}
use Rattle.crew_sweep.specs.Sweeps.{BaseSweep}
use Rattle.crew_solve.proofs.floors.keep_low_of_bases.Goals as goal

pub loop-place-init : goal.loop-place-init
loop-place-init c = record { kept = keeps-none (flat_map home_of (map (arc_value {X = BaseSweep}) c.args.fronts.now)) c.args.kept.now; known = c.requires.known }

pub keep_low_of_base-requires-clause-rate : goal.keep_low_of_base-requires-clause-rate
keep_low_of_base-requires-clause-rate c =
    let arcs = c.args.fronts.now in
    let i = c.loop-place.place in
    let a = c.index-fronts-place.result in
    let h : i < length arcs = omega (arith, c.loop-place-test.true) in
    let among = Member-map_in arc_value arcs a (Member-at arcs i a (read-at arcs arcs i a refl h c.index-fronts-place.is)) in
    let rate = Each-member (λ (b : BaseSweep). c.args.trip_rig ≡ b.net.settings.trip_rig) (map arc_value arcs) (arc_value a) c.requires.rate among in
    rate ∙ ap (λ (b : BaseSweep). b.net.settings.trip_rig) (sym (c.sweep.ensures.sweep ∙ c.deref.ensures))

pub keep_low_of_base-requires-clause-known : goal.keep_low_of_base-requires-clause-known
keep_low_of_base-requires-clause-known c =
    let arcs = c.args.fronts.now in
    let ss = map (arc_value {X = BaseSweep}) arcs in
    let i = c.loop-place.place in
    let a = c.index-fronts-place.result in
    let first = c.args.kept.now in
    let h : i < length arcs = omega (arith, c.loop-place-test.true) in
    let at : slice_get ss i ≡ Some (arc_value a) = mapped-at (arc_value {X = BaseSweep}) arcs i a (read-at arcs arcs i a refl h c.index-fronts-place.is) in
    let long = long-map (arc_value {X = BaseSweep}) arcs in
    let low : i < length c.loop-place.known = omega (arith, h, long, c.loop-place.invariant.known.many) in
    let own = known-at first.beside ss c.loop-place.known i (arc_value a) c.index-known-place.result c.loop-place.invariant.known at low in
    let same = some-beside (flat_map home_of ss) first c.loop-place.kept c.loop-place.invariant.kept in
    let is = c.sweep.ensures.sweep ∙ c.deref.ensures in
    subst (λ o. IsKnown o c.sweep.result.now (get_or c.loop-place.known i c.index-known-place.result)) (sym same) (subst (λ s. IsKnown first.beside s (get_or c.loop-place.known i c.index-known-place.result)) (sym is) own)

pub loop-place-preserved : goal.loop-place-preserved
loop-place-preserved c =
    let arcs = c.args.fronts.now in
    let ss = map (arc_value {X = BaseSweep}) arcs in
    let all = flat_map home_of ss in
    let i = c.loop-place.place in
    let a = c.index-fronts-place.result in
    let first = c.args.kept.now in
    let h : i < length arcs = omega (arith, c.loop-place-test.true) in
    let stands = read-at arcs arcs i a refl h c.index-fronts-place.is in
    let at : slice_get ss i ≡ Some (arc_value a) = mapped-at (arc_value {X = BaseSweep}) arcs i a stands in
    let among = Member-map_in (arc_value {X = BaseSweep}) arcs a (Member-at arcs i a stands) in
    let long = long-map (arc_value {X = BaseSweep}) arcs in
    let low : i < length c.loop-place.known = omega (arith, h, long, c.loop-place.invariant.known.many) in
    let same = some-beside all first c.loop-place.kept c.loop-place.invariant.kept in
    let own = c.sweep.ensures.sweep ∙ c.deref.ensures in
    let next = c.keep_low_of_base.new.self in
    let more = subst (λ s. IsKnown first.beside s next) own (subst (λ o. IsKnown o c.sweep.result.now next) same c.in_ok-keep_low_of_base.ensures.known) in
    let kept = subst (λ s. KeepsSome (home_of s) c.loop-place.kept c.keep_low_of_base.new.kept) own c.in_ok-keep_low_of_base.ensures.kept in
    record {
      kept = keeps-more all (home_of (arc_value a)) first c.loop-place.kept _ c.loop-place.invariant.kept kept (λ p m. Member-flat_map_in home_of ss (arc_value a) p among m);
      known = known-set first.beside ss c.loop-place.known i (arc_value a) next c.loop-place.invariant.known at low more;
    }
