use Rattle.std.proofs.Common.{◌≡◌, ◌∙◌, ap, arith, of_z, subst, sym, to_z, true, w64}
use Rattle.std.proofs.lemmas.Int.{ints}
use Rattle.std.specs.Arc.{arc_value}
use Rattle.std.specs.Ordering.{eq_by_cmp}
use Rattle.crew_fronts.specs.crew_answers.Schedules.{IsDated}
use Rattle.crew_flights.specs.Codes.{code_cmp}
use Rattle.crew_flights.specs.Timetable.{IsSound, Timetable}
use Rattle.crew_fronts.specs.Fronts.{BaseFronts, ShowsFronts}
use Rattle.crew_pairing.specs.Duties.{AreDuties}
use Rattle.crew_resource.proofs.Members.{Member-get_or, Member-map_in}
use Rattle.crew_fronts.proofs.crew_solve_lemmas.crew_vector_lemmas.Orders.{same-code}
use Rattle.crew_plan.proofs.long_plan.fronts_at.Goals as goal

pub returns-then-price : goal.returns-then-price
returns-then-price c =
    let arcs = c.args.past.now in
    let a = c.fronts-item.result in
    let b : BaseFronts = arc_value a in
    let of-base = ap (λ (x : BaseFronts). x.base) (sym c.deref-in-loop-fronts.ensures) ∙ sym c.base.ensures in
    let test : eq_by_cmp code_cmp b.base c.args.base ≡ true = (λ j. eq_by_cmp code_cmp (of-base j) c.args.base) ∙ (sym c.eq.ensures ∙ c.if-eq.true) in
    let base = same-code b.base c.args.base test in
    let one : to_z w64 (of_z w64 c.price.result) ≡ c.price.result = omega (arith, ints) in
    let other : to_z w64 (of_z w64 c.args.price) ≡ c.args.price = omega (arith, ints) in
    let price = ap (λ (x : BaseFronts). x.price) (sym c.deref-then-eq.ensures) ∙ (sym c.price.ensures ∙ (sym one ∙ (ap (to_z w64) c.if-price.true ∙ other))) in
    record {
      among = Member-map_in arc_value arcs a (Member-get_or arcs c.loop-fronts.fronts-index a c.loop-fronts-test.true (sym c.fronts-item.is));
      own = λ i. (base i, price i);
      right = subst (λ (x : BaseFronts). (t : Timetable) → IsSound t → IsDated t → AreDuties x.net.settings t x.net.duties → ShowsFronts t x) c.deref.ensures c.net-net.ensures.right;
    }
