-- What a log of entries comes to. Each definition reads the earlier entries, the latest first.
use Rattle.std.specs.Prelude.{◌≡◌, ◌∷◌, ◌+◌, ◌<◌, ◌&&◌, ◌==◌, ℕ, Bool, cond, List, [], reverse, slice_index, refl}
use Rattle.std.specs.Coded.{Coded, code_by, coded×, coded_ℕ, coded_list}
use Rattle.crew_flights.specs.Timetable.{Timetable, empty_timetable, timetable_code}
use Rattle.crew_flights.specs.Edits.{apply_of}
use Rattle.crew_flights.specs.declared.entries.Entry.{Entry}
use Rattle.crew_flights.specs.declared.edit.Refusal.TheVariants.{OutOfTurn}
use Rattle.crew_flights.specs.declared.edit.Verdict.{Verdict}
use Rattle.crew_flights.specs.declared.edit.Verdict.TheVariants.{Refused}

-- how many of a seat's entries were in turn: those with the number of the seat's entries in turn
-- before them
abbrev pub turns : List Entry → ℕ → ℕ
turns [] seat = 0
turns (e ∷ earlier) seat = turns earlier seat + cond
    ((e.seat == seat) && (e.number == turns earlier seat)) 1 0

abbrev pub is_in_turn : List Entry → Entry → Bool
is_in_turn earlier e = e.number == turns earlier e.seat

-- the timetable after entries: those in turn applied, the others not
abbrev pub data_after : List Entry → Timetable
data_after [] = empty_timetable
data_after (e ∷ earlier) = cond (is_in_turn earlier e) (apply_of (data_after earlier) e.edit).0
    (data_after earlier)

abbrev pub verdict_after : List Entry → Entry → Verdict
verdict_after earlier e = cond (is_in_turn earlier e) (apply_of (data_after earlier) e.edit).1
    (Refused OutOfTurn)

abbrev pub verdicts_after : List Entry → List Verdict
verdicts_after [] = []
verdicts_after (e ∷ earlier) = verdict_after earlier e ∷ verdicts_after earlier

-- entries in place order, taken one after another from an empty timetable
abbrev pub fold_of : List Entry → Timetable × List Verdict
fold_of entries = (data_after (reverse entries), reverse (verdicts_after (reverse entries)))

-- where a fold stands: the timetable, and how many entries of each seat were in turn
pub record Standing : Type 0 where
  pub timetable : Timetable
  pub turns : List ℕ

abbrev pub standing_code : Coded Standing
standing_code = code_by (Timetable × List ℕ) (coded× timetable_code (coded_list coded_ℕ))
    (λ s. (s.timetable, s.turns)) (λ p. record { timetable = p.0; turns = p.1 }) (λ _. refl)

-- where the entries lead, the latest first
pub record IsAfter (earlier : List Entry) (s : Standing) : Type 0 where
  pub timetable : s.timetable ≡ data_after earlier
  pub turns : (seat : ℕ) → seat < 256 → slice_index s.turns seat ≡ turns earlier seat

-- the fold has taken these entries, in place order
abbrev pub HasTaken : List Entry → Standing → Type 0
HasTaken entries s = IsAfter (reverse entries) s
