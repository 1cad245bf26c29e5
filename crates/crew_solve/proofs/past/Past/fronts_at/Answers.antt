use Rattle.std.proofs.Common.{◌≡◌, ◌∙◌, ap, arith, map, subst}
use Rattle.std.proofs.lemmas.Int.{ints}
use Rattle.std.specs.Arc.{arc_value}
use Rattle.crew_flights.specs.Timetable.{IsSound, Timetable}
use Rattle.crew_pairing.specs.Duties.{AreDuties}
use Rattle.crew_solve.specs.Machinery.Solved.{IsSweepOf}
use Rattle.crew_sweep.specs.Sweeps.{BaseSweep, ShowsFronts}
use Rattle.crew_solve.proofs.past.Past.fronts_at.Goals as goal

pub returns-then-price : goal.returns-then-price
returns-then-price c =
    let b : BaseSweep = arc_value c.in_ok-fronts.fronts.now in
    let found = subst (λ l. IsSweepOf (map (arc_value {X = BaseSweep}) l) c.args.base b) c.deref.ensures.value c.in_ok-fronts.ensures.found in
    let own : c.price.result ≡ b.price = c.price.ensures ∙ ap (λ (s : BaseSweep). s.price) (c.sweep.ensures.sweep ∙ c.deref-2.ensures) in
    record {
      among = found.among;
      own = found.own;
      at = omega (arith, ints, c.if-price.true, own);
      right = subst (λ (s : BaseSweep). (t : Timetable) → IsSound t → AreDuties s.net.settings t s.net.duties → ShowsFronts t s) c.deref-2.ensures c.sweep.ensures.right;
    }
