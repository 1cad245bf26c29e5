use Rattle.std.proofs.Common.{ap}
use Rattle.std.specs.FinMap as fin
use Rattle.crew_flights.specs.Timetable.{Timetable}
use Rattle.crew_version.proofs.SameTimetable.{same-timetable}
use Rattle.crew_version.proofs.same.are_same_timetables.Goals as goal

pub returns-then-have_same_flights : goal.returns-then-have_same_flights
returns-then-have_same_flights c = (
  λ t.
      let others = c.have_same_others.ensures.same.0 t in
      same-timetable c.args.one.now c.args.other.now c.have_same_flights.ensures.sound c.have_same_others.ensures.sound (c.have_same_flights.ensures.same.0 c.if-have_same_flights.true) others.0 others.1 others.2,
  λ e. c.have_same_others.ensures.same.1 (
    ap (λ (t : Timetable). fin.entries t.bases) e,
    ap (λ (t : Timetable). fin.entries t.turns) e,
    ap (λ (t : Timetable). fin.entries t.follows) e,
  ),
)
