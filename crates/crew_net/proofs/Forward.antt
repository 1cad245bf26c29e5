-- Legal duties end no earlier than they begin.
use Rattle.std.proofs.Common.{◌∷◌, ◌≤ℤ◌, List, ap, arith}
use Rattle.std.proofs.lemmas.Int.{ints}
use Rattle.crew_flights.specs.Timetable as TimetableSpec
use Rattle.crew_flights.specs.Timetable.{Timetable}
use Rattle.crew_pairing.specs.Duties.{AreDuties, flights_of}
use Rattle.crew_pairing.specs.declared.duty.Duty.{Duty}
use Rattle.crew_pairing.proofs.Legal.{known-sound}
use Rattle.crew_pairing.proofs.Times.{ends-later}
use Rattle.crew_pairing.proofs.Timetables.{flights-of-timetable}
use Rattle.crew_resource.specs.Members.{Member}
use Rattle.crew_pairing.specs.crew_rules.declared.settings.Settings.{Settings}

pub ends-no-earlier : (s : Settings) (t : Timetable) (duties : List Duty) → TimetableSpec.IsSound t → AreDuties s t duties → (d : Duty) → Member duties d → d.report ≤ℤ d.release
ends-no-earlier s t duties sound are d m =
    let legal = are.sound d m in
    let first = legal.0 in
    let others = legal.1 in
    let fair = known-sound (flights_of t) (first ∷ others) (flights-of-timetable t sound) legal.2.known in
    let later = ends-later s t.turns first others fair legal.2.connected in
    let report = ap (λ (d : Duty). d.report) legal.3 in
    let release = ap (λ (d : Duty). d.release) legal.3 in
    omega (arith, ints, later, report, release)
