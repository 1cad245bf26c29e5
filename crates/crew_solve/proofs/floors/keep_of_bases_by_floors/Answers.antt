use Rattle.std.proofs.Common.{◌≡◌, ◌∙◌, ◌<◌, Some, ap, arith, length, map, refl, subst, sym, take, get_or}
use Rattle.std.specs.Prelude.{slice_get}
use Rattle.std.specs.Arc.{arc_value}
use Rattle.std.specs.List.{flat_map}
use Rattle.crew_pairing.proofs.Tree.{Each-member}
use Rattle.crew_resource.proofs.Members.{Member-at, Member-map_in}
use Rattle.crew_solve.specs.Machinery.Floors.{IsKnown}
use Rattle.crew_solve.specs.Machinery.Homes.{home_of}
use Rattle.crew_solve.specs.Machinery.Keeps.{CheapestSoFar, keep_all}
use Rattle.crew_solve.proofs.Departing.{read-at}
use Rattle.crew_solve.proofs.Flooring.{known-at, known-set, long-map, mapped-at}
use Rattle.crew_solve.proofs.Listed.{flat-more-of}
use Rattle.crew_solve.proofs.Keeping.{keep-append, still-beside}
use Rattle.crew_sweep.specs.Sweeps.{BaseSweep}
use Rattle.crew_solve.proofs.floors.keep_of_bases_by_floors.Goals as goal

pub loop-place-init : goal.loop-place-init
loop-place-init c = record { kept = refl; known = c.requires.known }

pub keep_of_base-requires-clause-rate : goal.keep_of_base-requires-clause-rate
keep_of_base-requires-clause-rate c =
    let arcs = c.args.fronts.now in
    let i = c.loop-place.place in
    let a = c.index-fronts-place.result in
    let h : i < length arcs = omega (arith, c.loop-place-test.true) in
    let among = Member-map_in arc_value arcs a (Member-at arcs i a (read-at arcs arcs i a refl h c.index-fronts-place.is)) in
    let rate = Each-member (λ (b : BaseSweep). c.args.trip_rig ≡ b.net.settings.trip_rig) (map arc_value arcs) (arc_value a) c.requires.rate among in
    rate ∙ ap (λ (b : BaseSweep). b.net.settings.trip_rig) (sym (c.sweep.ensures.sweep ∙ c.deref.ensures))

pub keep_of_base-requires-clause-known : goal.keep_of_base-requires-clause-known
keep_of_base-requires-clause-known c =
    let arcs = c.args.fronts.now in
    let ss = map (arc_value {X = BaseSweep}) arcs in
    let i = c.loop-place.place in
    let a = c.index-fronts-place.result in
    let first = c.args.kept.now in
    let done = flat_map home_of (map (arc_value {X = BaseSweep}) (take i arcs)) in
    let h : i < length arcs = omega (arith, c.loop-place-test.true) in
    let at : slice_get ss i ≡ Some (arc_value a) = mapped-at (arc_value {X = BaseSweep}) arcs i a (read-at arcs arcs i a refl h c.index-fronts-place.is) in
    let long = long-map (arc_value {X = BaseSweep}) arcs in
    let low : i < length c.loop-place.known = omega (arith, h, long, c.loop-place.invariant.known.many) in
    let own = known-at first.beside ss c.loop-place.known i (arc_value a) c.index-known-place.result c.loop-place.invariant.known at low in
    let same : c.loop-place.kept.beside ≡ first.beside = ap (λ (k : CheapestSoFar). k.beside) c.loop-place.invariant.kept ∙ still-beside first done in
    let is = c.sweep.ensures.sweep ∙ c.deref.ensures in
    subst (λ o. IsKnown o c.sweep.result.now (get_or c.loop-place.known i c.index-known-place.result)) (sym same) (subst (λ s. IsKnown first.beside s (get_or c.loop-place.known i c.index-known-place.result)) (sym is) own)

pub loop-place-preserved : goal.loop-place-preserved
loop-place-preserved c =
    let arcs = c.args.fronts.now in
    let ss = map (arc_value {X = BaseSweep}) arcs in
    let i = c.loop-place.place in
    let a = c.index-fronts-place.result in
    let first = c.args.kept.now in
    let done = flat_map home_of (map (arc_value {X = BaseSweep}) (take i arcs)) in
    let h : i < length arcs = omega (arith, c.loop-place-test.true) in
    let one : BaseSweep = arc_value (get_or arcs i a) in
    let at : slice_get ss i ≡ Some (arc_value a) = mapped-at (arc_value {X = BaseSweep}) arcs i a (read-at arcs arcs i a refl h c.index-fronts-place.is) in
    let long = long-map (arc_value {X = BaseSweep}) arcs in
    let low : i < length c.loop-place.known = omega (arith, h, long, c.loop-place.invariant.known.many) in
    let same : c.loop-place.kept.beside ≡ first.beside = ap (λ (k : CheapestSoFar). k.beside) c.loop-place.invariant.kept ∙ still-beside first done in
    let own = c.sweep.ensures.sweep ∙ c.deref.ensures in
    let is = own ∙ ap (arc_value {X = BaseSweep}) c.index-fronts-place.is in
    let next = c.keep_of_base.new.self in
    let more = subst (λ s. IsKnown first.beside s next) own (subst (λ o. IsKnown o c.sweep.result.now next) same c.in_ok-keep_of_base.ensures.known) in
    record {
      kept = c.in_ok-keep_of_base.ensures.kept
          ∙ (ap (λ x. keep_all c.loop-place.kept (home_of x)) is
          ∙ (ap (λ (k : CheapestSoFar). keep_all k (home_of one)) c.loop-place.invariant.kept
          ∙ (sym (keep-append first done (home_of one)) ∙ ap (keep_all first) (sym (flat-more-of arc_value home_of arcs i a h)))));
      known = known-set first.beside ss c.loop-place.known i (arc_value a) next c.loop-place.invariant.known at low more;
    }
