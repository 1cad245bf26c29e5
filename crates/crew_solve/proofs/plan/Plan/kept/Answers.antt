use Rattle.std.proofs.Common.{◌≡◌, ◌∙◌, ◌<◌, IfSome, Some, Option, None, ap, arith, length, of_z, refl, subst, sym, to_z, w64}
use Rattle.std.proofs.lemmas.Int.{ints}
use Rattle.std.specs.Arc.{arc_value}
use Rattle.std.specs.Prelude.{slice_get}
use Rattle.crew_solve.proofs.Departing.{read-at}
use Rattle.crew_solve.proofs.Swept.{kept-of, price-at}
use Rattle.crew_solve.specs.Machinery.Planned.{IsFromPast, IsPast}
use Rattle.crew_solve.specs.Plans.{Plan}
use Rattle.crew_sweep.specs.Sweeps.{IsSwept}
use Rattle.crew_solve.proofs.plan.Plan.kept.Goals as goal

weaker : {X : Type 0} (P Q : X → Type 0) → ((x : X) → P x → Q x) → (o : Option X) → IfSome o P → IfSome o Q
weaker P Q f None h = tt
weaker P Q f (Some x) h = f x h

pub returns-then-past : goal.returns-then-past
returns-then-past c =
    let k = c.self.invariant in
    let net = arc_value c.self.inside.net in
    let bases = c.self.inside.bases.items in
    let e = c.index.result.now in
    let h : c.args.place < length bases = subst (λ (p : Plan). c.args.place < length p.prices) (sym c.self.view_is) c.requires in
    let at = read-at bases bases c.args.place e refl h c.index.ensures in
    let fits = k.over.sound.bases e.0 e.1 (price-at k.timetable bases c.args.place e k.priced at) in
    let whole : to_z w64 (of_z w64 e.1) ≡ e.1 = omega (arith, ints, fits.least, fits.most) in
    let there = ap (λ (p : Plan). slice_get p.prices c.args.place) (sym c.self.view_is) ∙ at in
    let p = c.in_ok-past.past.now in
    let past : IsPast net p = subst (λ o. IfSome o (IsPast net)) (sym c.in_ok-past.ensures.value) k.beside in
    weaker _ _ (λ fronts from. (
      e,
      there,
      subst (λ (x : Plan). IsSwept x.net e (arc_value fronts.now)) c.self.view_is (kept-of net p e (arc_value fronts.now) past c.if-past.true (subst (λ z. IsFromPast p e.0 z (arc_value fronts.now)) whole from)),
    )) c.fronts_at.result c.fronts_at.ensures
