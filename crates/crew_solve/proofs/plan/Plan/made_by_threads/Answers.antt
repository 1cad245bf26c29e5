use Rattle.std.proofs.Common.{◌≡◌, ◌∙◌, ◌<◌, ap, arith, length, of_z, refl, subst, sym, to_z, w64}
use Rattle.std.proofs.lemmas.Int.{ints}
use Rattle.std.proofs.lemmas.Result.{IfOk-weaker}
use Rattle.std.specs.Arc.{arc_value}
use Rattle.std.specs.Prelude.{slice_get}
use Rattle.crew_flights.specs.Timetable.{IsBasePrice}
use Rattle.crew_solve.proofs.Departing.{read-at}
use Rattle.crew_solve.proofs.Swept.{price-at, showing-of}
use Rattle.crew_sweep.specs.Sweeps.{IsSweepable, IsSwept}
use Rattle.crew_solve.specs.Plans.{Plan}
use Rattle.crew_vector.proofs.LegalDuties.{duties-sound}
use Rattle.crew_solve.proofs.plan.Plan.made_by_threads.Goals as goal

pub sweep_base_by_threads-requires-clause-sweepable : goal.sweep_base_by_threads-requires-clause-sweepable
sweep_base_by_threads-requires-clause-sweepable g c =
    let k = c.self.invariant in
    let net = arc_value c.self.inside.net in
    λ _ _. subst (IsSweepable net) (sym c.deref.ensures.value) (record {
      sound = duties-sound net.settings k.timetable net.duties k.over.checked k.over.sound k.over.duties;
      rise = k.over.duties.rising;
      few = k.over.few;
      positions = k.by_rank;
    })

pub sweep_base_by_threads-requires-clause-price : goal.sweep_base_by_threads-requires-clause-price
sweep_base_by_threads-requires-clause-price g c =
    let k = c.self.invariant in
    let bases = c.self.inside.bases.items in
    let e = c.index.result.now in
    let h : c.args.place < length bases = subst (λ (p : Plan). c.args.place < length p.prices) (sym c.self.view_is) c.requires in
    let at = read-at bases bases c.args.place e refl h c.index.ensures in
    let fits = k.over.sound.bases e.0 e.1 (price-at k.timetable bases c.args.place e k.priced at) in
    let whole : to_z w64 (of_z w64 e.1) ≡ e.1 = omega (arith, ints, fits.least, fits.most) in
    λ _ _. subst IsBasePrice (sym whole) fits

pub shown-requires : goal.shown-requires
shown-requires g c =
    let k = c.self.invariant in
    let net = arc_value c.self.inside.net in
    let bases = c.self.inside.bases.items in
    let e = c.index.result.now in
    let h : c.args.place < length bases = subst (λ (p : Plan). c.args.place < length p.prices) (sym c.self.view_is) c.requires in
    let at = read-at bases bases c.args.place e refl h c.index.ensures in
    let based = price-at k.timetable bases c.args.place e k.priced at in
    let fits = k.over.sound.bases e.0 e.1 based in
    let whole : to_z w64 (of_z w64 e.1) ≡ e.1 = omega (arith, ints, fits.least, fits.most) in
    let swept : IsSwept net e c.in_ok-sweep.sweep = subst (λ z. IsSwept net (e.0, z) c.in_ok-sweep.sweep) whole c.in_ok-sweep.ensures in
    showing-of k.timetable net e c.in_ok-sweep.sweep k.over based swept

pub returns : goal.returns
returns g c =
    let k = c.self.invariant in
    let net = arc_value c.self.inside.net in
    let bases = c.self.inside.bases.items in
    let e = c.index.result.now in
    let h : c.args.place < length bases = subst (λ (p : Plan). c.args.place < length p.prices) (sym c.self.view_is) c.requires in
    let at = read-at bases bases c.args.place e refl h c.index.ensures in
    let fits = k.over.sound.bases e.0 e.1 (price-at k.timetable bases c.args.place e k.priced at) in
    let whole : to_z w64 (of_z w64 e.1) ≡ e.1 = omega (arith, ints, fits.least, fits.most) in
    let swept : IsSwept net e c.in_ok-sweep.sweep = subst (λ z. IsSwept net (e.0, z) c.in_ok-sweep.sweep) whole c.in_ok-sweep.ensures in
    let there = ap (λ (p : Plan). slice_get p.prices c.args.place) (sym c.self.view_is) ∙ at in
    IfOk-weaker c.shown.result _ _ (λ fronts is. (e, there, subst (λ (p : Plan). IsSwept p.net e (arc_value fronts)) c.self.view_is (subst (IsSwept net e) (sym is) swept))) c.shown.ensures
