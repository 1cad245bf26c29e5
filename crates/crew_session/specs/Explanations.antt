-- What a record of an explanation writes.
use Rattle.std.specs.Prelude.{◌≡◌, ◌+◌, ◌/◌, ◌%◌, ◌-ℤ◌, ◌++◌, ℕ, ℤ, pos, List, [], ◌∷◌, Option, Some, None, codes, decimal}
use Rattle.std.specs.Fmt.{signed_decimal}
use Rattle.crew_pairing.specs.Legs.{Leg}
use Rattle.crew_pairing.specs.Pairings.{rest}
use Rattle.crew_pairing.specs.declared.duty.Duty.{Duty}
use Rattle.crew_explain.specs.Explanations.{IsExplained}
use Rattle.crew_explain.specs.declared.breach.Breach.{Breach}
use Rattle.crew_explain.specs.declared.breach.Rule.{Rule}
use Rattle.crew_explain.specs.declared.breach.Rule.TheVariants as The
use Rattle.crew_explain.specs.declared.explained.Explained.{Explained}
use Rattle.crew_explain.specs.declared.explained.Explained.TheVariants.{Broken, Legal}
use Rattle.crew_explain.specs.declared.explained.Limits.{Limits}
use Rattle.crew_explain.specs.declared.explained.Numbers.{Numbers}
use Rattle.crew_explain.specs.declared.explained.Way.{Way}
use Rattle.crew_explain.specs.declared.explained.Way.TheVariants as By
use Rattle.crew_session.specs.Lines.{key_text}
use Rattle.crew_version.specs.Versions.{Snapshot, timetable_of}

-- the name of a rule
abbrev pub rule_text : Rule → List ℕ
rule_text The.Base = codes "base"
rule_text The.Legs = codes "legs"
rule_text The.Flight = codes "flight"
rule_text The.Airport = codes "airport"
rule_text The.Connect = codes "connect"
rule_text The.Turn = codes "turn"
rule_text The.Sit = codes "sit"
rule_text The.Deadheads = codes "deadheads"
rule_text The.LastLeg = codes "last-leg"
rule_text The.FlightTime = codes "flight-time"
rule_text The.FlightDuty = codes "flight-duty"
rule_text The.Leaves = codes "leaves"
rule_text The.RestAirport = codes "rest-airport"
rule_text The.Rest = codes "rest"
rule_text The.MaxRest = codes "max-rest"
rule_text The.FdpTotal = codes "fdp-total"
rule_text The.FlyCap = codes "fly-cap"
rule_text The.MaxDuties = codes "max-duties"
rule_text The.AwayCap = codes "away-cap"
rule_text The.Window = codes "window"
rule_text The.FreeTime = codes "free-time"
rule_text The.Returns = codes "returns"

-- the section of 14 CFR part 117 that a rule keeps; none of one that comes from settings or data
abbrev pub section_text : Rule → List ℕ
section_text The.FlightTime = codes "117.11"
section_text The.FlightDuty = codes "117.13"
section_text The.Rest = codes "117.25(e)"
section_text The.FdpTotal = codes "117.23(c)(2)"
section_text The.FlyCap = codes "117.23(b)(1)"
section_text The.Window = codes "117.23(c)(1)"
section_text The.FreeTime = codes "117.25(b)"
section_text rule = codes "none"

-- what sets the pay
abbrev pub way_text : Way → List ℕ
way_text By.Duties = codes "duties"
way_text By.Away = codes "away"
way_text By.Guarantee = codes "guarantee"

-- a number after a word
abbrev pub named : List ℕ → ℤ → List ℕ
named word number = word ++ signed_decimal number

abbrev pub two_digits : ℕ → List ℕ
two_digits n = (48 + n / 10) ∷ (48 + n % 10) ∷ []

-- a minute of the day, as hours and minutes
abbrev pub clock_text : ℕ → List ℕ
clock_text clock = two_digits (clock / 60) ++ codes ":" ++ two_digits (clock % 60)

-- the rest before a duty: none before the first
abbrev pub rest_text : Option Duty → Duty → List ℕ
rest_text None d = codes "none"
rest_text (Some before) d = signed_decimal (rest before d)

-- a duty with its report and its release, in minutes after an instant
abbrev pub times_text : ℤ → Duty → List ℕ
times_text start d =
    codes "duty " ++ key_text d.key
    ++ named (codes " report ") (d.report -ℤ start)
    ++ named (codes " release ") (d.release -ℤ start)

-- its numbers with their limits
abbrev pub limits_text : Duty → Limits → List ℕ
limits_text d l =
    named (codes " fdp ") d.fdp ++ named (codes " of ") (pos l.fdp)
    ++ named (codes " fly ") d.fly ++ named (codes " of ") (pos l.fly)

abbrev pub duty_line : ℤ → Option Duty → Duty → Limits → List ℕ
duty_line start before d l =
    times_text start d ++ limits_text d l ++ codes " at " ++ clock_text l.clock
    ++ codes " rest " ++ rest_text before d ++ codes "\n"

-- duties with their limits, after one
abbrev pub duties_after : ℤ → Option Duty → List Duty → List Limits → List ℕ
duties_after start before [] limits = []
duties_after start before (d ∷ ds) [] = []
duties_after start before (d ∷ ds) (l ∷ ls) =
    duty_line start before d l ++ duties_after start (Some d) ds ls

-- all of a pairing, by the first report
abbrev pub duties_text : List Duty → List Limits → List ℕ
duties_text [] limits = []
duties_text (first ∷ others) limits = duties_after first.report None (first ∷ others) limits

-- the cost, the pay and the minutes away of a pairing
abbrev pub numbers_text : Numbers → List ℕ
numbers_text n =
    named (codes " cost ") n.cost ++ named (codes " pay ") n.pay ++ named (codes " away ") n.away

-- a legal pairing, with what sets its pay
abbrev pub legal_text : Numbers → List ℕ
legal_text n =
    codes " legal" ++ numbers_text n ++ codes " by " ++ way_text n.way ++ codes "\n"

-- a broken rule: its name and its section, its place, what was found and the limit
abbrev pub named_rule : Rule → List ℕ
named_rule rule = codes " broken " ++ rule_text rule ++ codes " section " ++ section_text rule

abbrev pub place_text : Breach → List ℕ
place_text b = codes " duty " ++ decimal b.duty ++ codes " leg " ++ decimal b.leg

abbrev pub broken_text : Breach → List ℕ
broken_text b =
    named_rule b.rule ++ place_text b
    ++ named (codes " found ") b.found ++ named (codes " limit ") b.limit ++ codes "\n"

abbrev pub told_text : Explained → List ℕ
told_text (Legal n) = legal_text n ++ duties_text n.duties.items n.limits.items
told_text (Broken breach) = broken_text breach

abbrev pub explained_lines : List ℕ → Explained → List ℕ
explained_lines base told = codes "explain " ++ base ++ told_text told

-- the lines of what a walk is as a pairing of a base in a version
pub record ShowsExplained (base : List ℕ) (walk : List (List Leg)) (v : Snapshot) (text : List ℕ)
    : Type 0 where
  pub told : Explained
  pub exact : IsExplained v.settings (timetable_of v.entries) base walk told
  pub written : text ≡ explained_lines base told
