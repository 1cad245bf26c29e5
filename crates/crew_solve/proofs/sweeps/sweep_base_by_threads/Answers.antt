use Rattle.std.proofs.Common.{◌≡◌, ◌∙◌, List, ℕ, ℤ, IfOk, ap, sym, subst, to_z, of_z, w64, arith}
use Rattle.std.proofs.lemmas.Int.{ints}
use Rattle.std.specs.Arc.{arc_value}
use Rattle.crew_flights.specs.Timetable.{IsBasePrice}
use Rattle.crew_sweep.specs.Sweeps.{BaseSweep, IsSwept}
use Rattle.crew_solve.proofs.sweeps.sweep_base_by_threads.Goals as goal

pub renew_by_threads-requires-clause-price : goal.renew_by_threads-requires-clause-price
renew_by_threads-requires-clause-price g c =
    let fits = c.requires.price in
    let whole : to_z w64 (of_z w64 c.args.price) ≡ c.args.price = omega (arith, ints, fits.least, fits.most) in
    let at = ap (λ (b : BaseSweep). b.price) c.deref.ensures ∙ (c.in-Some-fronts_at.ensures.at ∙ whole) in
    λ _ _. subst IsBasePrice (sym at) fits

pub returns-in-Some-fronts_at : goal.returns-in-Some-fronts_at
returns-in-Some-fronts_at g c =
    let fits = c.requires.price in
    let whole : to_z w64 (of_z w64 c.args.price) ≡ c.args.price = omega (arith, ints, fits.least, fits.most) in
    let from = c.in-Some-fronts_at.ensures in
    let own = ap (λ (b : BaseSweep). b.base) c.deref.ensures ∙ from.own in
    let at = ap (λ (b : BaseSweep). b.price) c.deref.ensures ∙ (from.at ∙ whole) in
    subst (λ (e : List ℕ × ℤ). IfOk c.renew_by_threads.result (IsSwept (arc_value c.args.net.now) e)) (λ i. (own i, at i)) c.renew_by_threads.ensures
