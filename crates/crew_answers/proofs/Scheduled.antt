-- The legal duties of a timetable are a schedule, over which covered passes show fronts.
use Rattle.std.proofs.Common.{◌≡◌, ℕ, true, List, refl, ap}
use Rattle.std.proofs.lemmas.Bool.{and_parts}
use Rattle.crew_flights.specs.Timetable.{IsSound, Timetable}
use Rattle.crew_rules.specs.declared.settings.Settings.{Settings}
use Rattle.crew_pairing.specs.Duties.{AreDuties}
use Rattle.crew_pairing.specs.Events.{arrival_of, departure_of}
use Rattle.crew_pairing.specs.Keys.{key_total}
use Rattle.crew_pairing.specs.declared.duty.Duty.{Duty}
use Rattle.crew_vector.specs.Dominance as Plain
use Rattle.crew_vector.specs.Machinery.Named.{named_order}
use Rattle.crew_vector.proofs.Orders.{key-exact}
use Rattle.crew_forgetful.specs.Machinery.Sums.{is_same}
use Rattle.crew_forgetful.specs.Sweeps.{IsSchedule}
use Rattle.crew_answers.specs.Schedules.{schedule_of}
use Rattle.crew_answers.specs.declared.value.LongValue.{LongValue}
use Rattle.crew_answers.proofs.Ranking.{rank-rises}

pub scheduled : (s : Settings) (t : Timetable) (base : List ℕ) (duties : List Duty) → IsSound t → AreDuties s t duties → IsSchedule arrival_of departure_of (schedule_of s base duties)
scheduled s t base duties sound are = record {
  total = key_total;
  exact = key-exact;
  starts = λ d. refl;
  follows = λ e d. refl;
  rises = λ e d m h. rank-rises s t duties e d sound m (are.sound e m) h;
}

pub same-count : (a b : LongValue) → is_same Plain.is_at_most a.sums b.sums ≡ true → a.sums.duties ≡ b.sums.duties
same-count a b h =
    let k = and_parts (Plain.is_at_most a.sums b.sums) (Plain.is_at_most b.sums a.sums) h in
    ap (λ z. z.duties) (named_order.antisymmetric a.sums b.sums k.0 k.1)
