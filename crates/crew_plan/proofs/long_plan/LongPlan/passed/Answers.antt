use Rattle.std.proofs.Common.{◌≡◌, ◌∙◌, ◌<◌, Result, IfOk, Ok, Err, arith, length, of_z, refl, subst, sym, to_z, w64}
use Rattle.std.proofs.lemmas.Int.{ints}
use Rattle.std.specs.Arc.{arc_value}
use Rattle.crew_flights.specs.Timetable.{IsBasePrice}
use Rattle.crew_fronts.specs.Fronts.{BaseFronts}
use Rattle.crew_plan.specs.Plans.{AreFrontsIn, Plan}
use Rattle.crew_fronts.proofs.crew_solve_lemmas.Departing.{read-at}
use Rattle.crew_fronts.proofs.crew_solve_lemmas.Swept.{price-at}
use Rattle.crew_fronts.proofs.crew_solve_lemmas.crew_vector_lemmas.LegalDuties.{duties-sound}
use Rattle.crew_plan.proofs.long_plan.LongPlan.passed.Goals as goal

pub passed-requires-clause-sound : goal.passed-requires-clause-sound
passed-requires-clause-sound c =
    let k = c.self.invariant.0 in
    let net = c.self.inside.course.value in
    duties-sound net.settings k.timetable net.duties k.over.checked k.over.sound k.over.duties

pub passed-requires-clause-price : goal.passed-requires-clause-price
passed-requires-clause-price c =
    let k = c.self.invariant.0 in
    let bases = c.self.inside.bases.items in
    let e = c.index.result.now in
    let h : c.args.place < length bases = subst (λ (p : Plan). c.args.place < length p.prices) (sym c.self.view_is) c.requires in
    let at = read-at bases bases c.args.place e refl h c.index.ensures in
    let fits = k.over.sound.bases e.0 e.1 (price-at k.timetable bases c.args.place e k.priced at) in
    let whole : to_z w64 (of_z w64 e.1) ≡ e.1 = omega (arith, ints, fits.least, fits.most) in
    subst IsBasePrice (sym whole) fits

both : {X E : Type 0} (r : Result X E) (P Q R S : X → Type 0) → ((x : X) → P x → Q x → R x → S x) → IfOk r P → IfOk r Q → IfOk r R → IfOk r S
both (Ok x) P Q R S h p q k = h x p q k
both (Err e) P Q R S h p q k = tt

pub returns : goal.returns
returns c =
    let k = c.self.invariant.0 in
    let net = c.self.inside.course.value in
    let bases = c.self.inside.bases.items in
    let e = c.index.result.now in
    let h : c.args.place < length bases = subst (λ (p : Plan). c.args.place < length p.prices) (sym c.self.view_is) c.requires in
    let at = read-at bases bases c.args.place e refl h c.index.ensures in
    let fits = k.over.sound.bases e.0 e.1 (price-at k.timetable bases c.args.place e k.priced at) in
    let whole : to_z w64 (of_z w64 e.1) ≡ e.1 = omega (arith, ints, fits.least, fits.most) in
    both c.passed.result _ _ _ (λ fronts. AreFrontsIn c.args.self.now c.args.place (arc_value {X = BaseFronts} fronts)) (λ fronts own same right.
    subst (λ (p : Plan). AreFrontsIn p c.args.place (arc_value {X = BaseFronts} fronts)) c.self.view_is (
      e,
      at,
      record {
        own = λ i. (own.0 i, (own.1 ∙ whole) i);
        same = same;
        fronts = right;
      },
    )) c.passed.ensures.own c.passed.ensures.net c.passed.ensures.right
