-- What a record of pairings writes, and one of the best pairing of a base.
use Rattle.std.specs.Prelude.{◌≡◌, ℕ, List, Option}
use Rattle.crew_session.specs.Lines.{best_line, pairings_lines}
use Rattle.crew_version.specs.Versions.{Snapshot, timetable_of}
use Rattle.crew_plan.specs.Apart.{AreApart, AreApartOf}
use Rattle.crew_plan.specs.Cheapest.{AreCheapest, AreCheapestOf, IsBestOf}
use Rattle.crew_vector.specs.declared.priced.PricedPairing.{PricedPairing}

-- the lines of the cheapest pairings of a version, up to a limit
pub record ShowsCheapest (limit : ℕ) (v : Snapshot) (text : List ℕ) : Type 0 where
  pub pairings : List PricedPairing
  pub exact : AreCheapest v.settings (timetable_of v.entries) limit pairings
  pub written : text ≡ pairings_lines pairings

-- the lines of the pairings of a version that share few flights, up to a limit
pub record ShowsApart (limit share : ℕ) (v : Snapshot) (text : List ℕ) : Type 0 where
  pub pairings : List PricedPairing
  pub exact : AreApart v.settings (timetable_of v.entries) limit share pairings
  pub written : text ≡ pairings_lines pairings

-- the line of the best pairing of a base in a version
pub record ShowsBestOf (base : List ℕ) (v : Snapshot) (text : List ℕ) : Type 0 where
  pub best : Option PricedPairing
  pub exact : IsBestOf v.settings (timetable_of v.entries) base best
  pub written : text ≡ best_line best

-- the lines of the base's cheapest pairings, up to a limit
pub record ShowsCheapestOf (base : List ℕ) (limit : ℕ) (v : Snapshot) (text : List ℕ) : Type 0 where
  pub pairings : List PricedPairing
  pub exact : AreCheapestOf v.settings (timetable_of v.entries) base limit pairings
  pub written : text ≡ pairings_lines pairings

-- the lines of those of the base that share few flights, up to a limit
pub record ShowsApartOf (base : List ℕ) (limit share : ℕ) (v : Snapshot) (text : List ℕ) : Type
    0 where
  pub pairings : List PricedPairing
  pub exact : AreApartOf v.settings (timetable_of v.entries) base limit share pairings
  pub written : text ≡ pairings_lines pairings
