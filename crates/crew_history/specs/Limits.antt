-- What 14 CFR 117.23(c) and 117.25(b) ask of the duties of a pairing of up to 240 hours, which no
-- window of 168 hours covers, and what labels keep of such a list. A list of duties stands as its
-- first duty and the list of the others. All instants are whole minutes, so windows begin and end
-- at them: from one to the next, what a window holds rises or falls evenly.
use Rattle.std.specs.Prelude.{◌⊎◌, Bool, cond, int_le, ℤ, pos, ◌+ℤ◌, ◌-ℤ◌, ◌≤ℤ◌, ◌<ℤ◌, List, [], ◌∷◌, map}
use Rattle.std.specs.Int.{int_max, int_min}
use Rattle.crew_pairing.specs.Legality.{total}
use Rattle.crew_pairing.specs.Pairings.{last_duty, rest}
use Rattle.crew_pairing.specs.declared.duty.Duty.{Duty}
use Rattle.crew_resource.specs.Members.{Member}
use Rattle.crew_history.specs.Histories.{cut}

-- the last arrival, with which the flight duty period ends (117.3)
abbrev pub arrival : Duty → ℤ
arrival d = d.report +ℤ d.fdp

-- the flight duty minutes of a duty between two instants
abbrev pub fdp_between : ℤ → ℤ → Duty → ℤ
fdp_between from to d = int_max (pos 0) (int_min (arrival d) to -ℤ int_max d.report from)

-- 117.23(c)(1), 60 hours of flight duty in any 168 consecutive hours: in every 10,080 consecutive
-- minutes the duties have at most so many flight duty minutes
abbrev pub KeepsWindows : ℤ → List Duty → Type 0
KeepsWindows cap duties = (from : ℤ)
    → total (fdp_between from (from +ℤ pos 10_080)) duties ≤ℤ cap

-- 117.23(c)(2), 190 hours in any 672 consecutive hours: these hold all of a pairing of up to 240
abbrev pub keeps_total : ℤ → List Duty → Bool
keeps_total cap duties = int_le (total (λ d. d.fdp) duties) cap

-- in the 1,800 consecutive minutes from an instant on the crew is free from all duty, which lasts
-- from report to release
abbrev pub AreFree : List Duty → ℤ → Type 0
AreFree duties from = (d : Duty) → Member duties d
    → (d.release ≤ℤ from) ⊎ ((from +ℤ pos 1_800) ≤ℤ d.report)

-- 117.25(b), 30 consecutive hours free from all duty within the 168 hours before a report. The
-- 1,800 minutes before the first report are free; of those before them nothing is known
abbrev pub HasFreeMinutes : Duty → List Duty → ℤ → Type 0
HasFreeMinutes first others report = (from : ℤ) × ((first.report -ℤ pos 1_800) ≤ℤ from)
    × ((report -ℤ pos 10_080) ≤ℤ from) × ((from +ℤ pos 1_800) ≤ℤ report)
    × AreFree (first ∷ others) from

-- they lie before each report of the list
abbrev pub IsFreeBeforeReports : Duty → List Duty → Type 0
IsFreeBeforeReports first others = (d : Duty) → Member (first ∷ others) d
    → HasFreeMinutes first others d.report

-- a duty has flight duty minutes, and is over no earlier than they are
pub record IsTimed (d : Duty) : Type 0 where
  pub nonempty : pos 0 <ℤ d.fdp
  pub arrives : arrival d ≤ℤ d.release

-- the duties come one after another
abbrev pub AreInOrder : Duty → List Duty → Type 0
AreInOrder first [] = IsTimed first
AreInOrder first (next ∷ others) = IsTimed first × (first.release <ℤ next.report)
    × AreInOrder next others

-- the reports that come off a rest of 1,800 minutes or more, in order
abbrev pub rested_reports : Duty → List Duty → List ℤ
rested_reports before [] = []
rested_reports before (next ∷ others) =
    cond (int_le (pos 1_800) (rest before next)) (next.report ∷ rested_reports next others)
    (rested_reports next others)

-- the last of them, or the one given where there is none
abbrev pub last_of : ℤ → List ℤ → ℤ
last_of given [] = given
last_of given (next ∷ others) = last_of next others

-- the end of the last rest of 1,800 minutes or more, or the first report
abbrev pub last_rest_end : Duty → List Duty → ℤ
last_rest_end first others = last_of first.report (rested_reports first others)

-- minutes from there to the last report
abbrev pub since_rest : Duty → List Duty → ℤ
since_rest first others = (last_duty first others).report -ℤ last_rest_end first others

-- the flight duty period of a duty, as its start and its end
abbrev pub period_of : Duty → ℤ × ℤ
period_of d = (d.report, arrival d)

-- the history of a list: what lies of its flight duty periods within the 10,080 minutes that end
-- with the last arrival
abbrev pub history_of : Duty → List Duty → List (ℤ × ℤ)
history_of first others = cut (arrival (last_duty first others) -ℤ pos 10_080) (map period_of (first ∷ others))
