use Rattle.std.proofs.Common.{◌≡◌, ◌∙◌, ◌<◌, ◌≤◌, ap, refl, sym, length, true, arith}
use Rattle.std.specs.Arc.{arc_value}
use Rattle.std.specs.Ordering.{eq_by_cmp}
use Rattle.crew_flights.specs.Codes.{code_cmp}
use Rattle.crew_resource.proofs.Members.{Member-at, Member-map_in}
use Rattle.crew_fronts.specs.Fronts.{BaseFronts}
use Rattle.crew_fronts.proofs.crew_solve_lemmas.crew_vector_lemmas.Orders.{same-code}
use Rattle.crew_fronts.proofs.crew_solve_lemmas.Departing.{read-at}
use Rattle.crew_plan.proofs.Among.{alone-at, among-at, none-at}
use Rattle.crew_plan.proofs.solution.fronts_of.Goals as goal

pub returns-then-eq-clause-found : goal.returns-then-eq-clause-found
returns-then-eq-clause-found c =
    let arcs = c.args.bases.now in
    let i = c.loop-fronts.fronts-index in
    let a = c.fronts-item.result in
    let h : i < length arcs = omega (arith, c.loop-fronts-test.true) in
    let at = read-at arcs arcs i a refl h c.fronts-item.is in
    let own = ap (λ (b : BaseFronts). b.base) (sym c.deref.ensures) ∙ sym c.base.ensures in
    let test : eq_by_cmp code_cmp (arc_value a).base c.args.base ≡ true = (λ j. eq_by_cmp code_cmp (own j) c.args.base) ∙ (sym c.eq.ensures ∙ c.if-eq.true) in
    record {
      among = Member-map_in arc_value arcs a (Member-at arcs i a at);
      own = same-code (arc_value a).base c.args.base test;
      fronts = among-at arc_value arcs i a c.args.base at c.loop-fronts.invariant test;
      only = alone-at arc_value arcs i a c.args.base at c.loop-fronts.invariant test;
    }

pub returns-clause-none : goal.returns-clause-none
returns-clause-none c =
    let h : length c.args.bases.now ≤ c.loop-fronts.fronts-index = omega (arith, c.loop-fronts-test.false) in
    λ e. none-at arc_value c.args.bases.now c.loop-fronts.fronts-index c.args.base h c.loop-fronts.invariant
