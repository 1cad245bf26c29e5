-- The lines that a session writes.
use Rattle.std.specs.Prelude.{ℕ, ℤ, ◌++◌, List, [], ◌∷◌, Option, Some, None, codes, decimal, length, map, if◌then◌else◌}
use Rattle.std.specs.Fmt.{signed_decimal}
use Rattle.std.specs.FinMap as fin
use Rattle.std.specs.List.{flat_map}
use Rattle.crew_flights.specs.Refusals.{number_of}
use Rattle.crew_flights.specs.declared.edit.Verdict.{Verdict}
use Rattle.crew_flights.specs.declared.edit.Verdict.TheVariants.{Accepted, Refused}
use Rattle.crew_pairing.specs.Legs.{Leg}
use Rattle.crew_pairing.specs.declared.vector.PairingVector.{PairingVector}
use Rattle.crew_answers.specs.LongVectors.{LongVector, is_long}
use Rattle.crew_audit.specs.declared.tally.Tally.{Tally}
use Rattle.crew_rules.specs.declared.settings.Settings.{Settings}
use Rattle.crew_version.specs.Versions.{Snapshot, timetable_of}
use Rattle.crew_vector.specs.declared.priced.PricedPairing.{PricedPairing}

-- texts with a byte between each two
abbrev pub after_first : ℕ → List (List ℕ) → List ℕ
after_first byte [] = []
after_first byte (text ∷ texts) = (byte ∷ text) ++ after_first byte texts

abbrev pub joined : ℕ → List (List ℕ) → List ℕ
joined byte [] = []
joined byte (text ∷ texts) = text ++ after_first byte texts

-- a leg: the number of its flight, with a `d` where it is deadheaded
abbrev pub leg_text : Leg → List ℕ
leg_text l = decimal l.flight ++ (if l.deadhead then codes "d" else [])

-- a duty: its legs joined by `-`
abbrev pub key_text : List Leg → List ℕ
key_text legs = joined 45 (map leg_text legs)

-- a walk: its duties joined by a space
abbrev pub walk_text : List (List Leg) → List ℕ
walk_text keys = joined 32 (map key_text keys)

-- ---- whole lines, with their ends

abbrev pub refused_line : ℕ → ℕ → List ℕ
refused_line number why =
    codes "record " ++ decimal number ++ codes " refused " ++ decimal why ++ codes "\n"

-- what a verdict on the entry that a record made writes: a line where it is a refusal
abbrev pub verdict_line : ℕ → Verdict → List ℕ
verdict_line number Accepted = []
verdict_line number (Refused why) = refused_line number (number_of why)

-- the same for the verdicts on the entries that these records made
abbrev pub refused_lines : List ℕ → List Verdict → List ℕ
refused_lines [] verdicts = []
refused_lines (number ∷ numbers) [] = []
refused_lines (number ∷ numbers) (verdict ∷ verdicts) =
    verdict_line number verdict ++ refused_lines numbers verdicts

abbrev pub version_line : Snapshot → List ℕ
version_line v =
    codes "version " ++ decimal v.number
    ++ codes " entries " ++ decimal (length v.entries)
    ++ codes " flights " ++ decimal (fin.len (timetable_of v.entries).flights) ++ codes "\n"

-- a pairing, after the word that says what it is
abbrev pub pairing_line : List ℕ → PricedPairing → List ℕ
pairing_line word p =
    word ++ codes " " ++ p.base
    ++ codes " cost " ++ signed_decimal p.cost
    ++ codes " pay " ++ signed_decimal p.pay
    ++ codes " away " ++ signed_decimal p.away
    ++ codes " " ++ walk_text p.walk ++ codes "\n"

abbrev pub best_line : Option PricedPairing → List ℕ
best_line None = codes "best none\n"
best_line (Some b) = pairing_line (codes "best") b

-- how many pairings there are, and then each
abbrev pub pairings_lines : List PricedPairing → List ℕ
pairings_lines pairings =
    (codes "pairings " ++ decimal (length pairings) ++ codes "\n")
    ++ flat_map (pairing_line (codes "pairing")) pairings

-- the parts of a vector in order, each after a space: the seven sums, and the minutes since the last
-- long rest where the settings allow pairings of more than 138 hours
abbrev pub part_text : ℤ → List ℕ
part_text part = codes " " ++ signed_decimal part

abbrev pub costs_text : PairingVector → List ℕ
costs_text v = part_text v.duty_pay ++ part_text v.trip_rig ++ part_text v.guarantee

abbrev pub totals_text : PairingVector → List ℕ
totals_text v = part_text v.fdp ++ part_text v.fly ++ part_text v.duties

abbrev pub rest_text : Settings → LongVector → List ℕ
rest_text s v = if is_long s then part_text v.since_rest else []

abbrev pub vector_text : Settings → LongVector → List ℕ
vector_text s v =
    costs_text v.sums ++ totals_text v.sums ++ part_text v.sums.away ++ rest_text s v

-- an entry of a front: a vector with its walk
abbrev pub entry_line : Settings → LongVector × List (List Leg) → List ℕ
entry_line s entry =
    codes "entry" ++ vector_text s entry.0 ++ codes " " ++ walk_text entry.1 ++ codes "\n"

-- a base and the duty of a key, of which there is no front
abbrev pub no_front_line : List ℕ → List Leg → List ℕ
no_front_line base key = codes "front " ++ base ++ codes " " ++ key_text key ++ codes " none\n"

-- the front of a base and the duty of a key, or that there is none
abbrev pub front_lines : Settings → List ℕ → List Leg
    → Option (List (LongVector × List (List Leg))) → List ℕ
front_lines s base key None = no_front_line base key
front_lines s base key (Some entries) =
    (codes "front " ++ base ++ codes " " ++ key_text key
    ++ codes " entries " ++ decimal (length entries) ++ codes "\n")
    ++ flat_map (entry_line s) entries

-- the least cost of a pairing, if there is one
abbrev pub cost_text : Option ℤ → List ℕ
cost_text None = codes "none"
cost_text (Some cost) = signed_decimal cost

abbrev pub audit_line : Tally → List ℕ
audit_line tally =
    codes "audit partials " ++ decimal tally.partials
    ++ codes " pairings " ++ decimal tally.pairings
    ++ codes " cost " ++ cost_text tally.cost ++ codes "\n"
