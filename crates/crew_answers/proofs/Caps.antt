-- What is legal by settings doesn't hang on their caps on flight duty and on minutes away.
use Rattle.std.proofs.Common.{ℕ, List, [], ◌∷◌}
use Rattle.crew_flights.specs.Timetable.{Turns}
use Rattle.crew_rules.specs.declared.settings.Settings.{Settings}
use Rattle.crew_resource.specs.Members.{Each}
use Rattle.crew_pairing.specs.Flights.{Flights}
use Rattle.crew_pairing.specs.Legality.{AllConnect, IsLegal}
use Rattle.crew_pairing.specs.Pairings.{AllRested, IsDuty}
use Rattle.crew_pairing.specs.declared.duty.Duty.{Duty}
use Rattle.crew_pairing.specs.declared.leg.TimedLeg.{TimedLeg}

-- settings with other caps
abbrev pub with_caps : Settings → ℕ → ℕ → Settings
with_caps s fdp_cap away_cap = record s { fdp_cap = fdp_cap; away_cap = away_cap }

module _ (s : Settings) (fdp_cap away_cap : ℕ) where
  connected : (turns : Turns) (first : TimedLeg) (others : List TimedLeg) → AllConnect s turns first others → AllConnect (with_caps s fdp_cap away_cap) turns first others
  connected turns first [] h = tt
  connected turns first (next ∷ others) h = (h.0, connected turns next others h.1)

  pub same-legal : (flights : Flights) (first : TimedLeg) (others : List TimedLeg) → IsLegal s flights first others → IsLegal (with_caps s fdp_cap away_cap) flights first others
  same-legal flights first others l = record {
    known = l.known;
    legs = l.legs;
    connected = connected flights.turns first others l.connected;
    deadheaded = l.deadheaded;
    flown_last = l.flown_last;
    table_a = l.table_a;
    table_b = l.table_b;
  }

  pub same-duty : (flights : Flights) (d : Duty) → IsDuty s flights d → IsDuty (with_caps s fdp_cap away_cap) flights d
  same-duty flights d l = (l.0, l.1, same-legal flights l.0 l.1 l.2, l.3)

  pub same-duties : (flights : Flights) (ds : List Duty) → Each (IsDuty s flights) ds → Each (IsDuty (with_caps s fdp_cap away_cap) flights) ds
  same-duties flights [] h = tt
  same-duties flights (d ∷ ds) h = (same-duty flights d h.0, same-duties flights ds h.1)

  pub same-rests : (first : Duty) (others : List Duty) → AllRested s first others → AllRested (with_caps s fdp_cap away_cap) first others
  same-rests first [] h = tt
  same-rests first (next ∷ others) h = (h.0, same-rests next others h.1)
