-- What is told of a walk.
use Rattle.std.specs.Prelude.{◌≡◌, ℕ, ℤ, pos, ◌*ℤ◌, int_le, true, cond, List, ◌∷◌, None, Ok, Some, length, map}
use Rattle.std.specs.FinMap as fin
use Rattle.std.specs.Int.{int_max}
use Rattle.crew_flights.specs.Timetable.{Timetable}
use Rattle.crew_rules.specs.declared.settings.Settings.{Settings}
use Rattle.crew_pairing.specs.Duties.{flights_of}
use Rattle.crew_pairing.specs.Legs.{Leg}
use Rattle.crew_pairing.specs.Legality.{total}
use Rattle.crew_pairing.specs.Pairings.{is_pairing, minutes_away}
use Rattle.crew_pairing.specs.Vectors.{cost_of, pay_of}
use Rattle.crew_pairing.specs.declared.duty.Duty.{Duty}
use Rattle.crew_history.specs.LongPairings.{IsLongPartial}
use Rattle.crew_explain.specs.Rules.{breach_of, read_walk}
use Rattle.crew_explain.specs.declared.explained.Explained.{Explained}
use Rattle.crew_explain.specs.declared.explained.Explained.TheVariants.{Broken, Legal}
use Rattle.crew_explain.specs.declared.explained.Numbers.{Numbers}
use Rattle.crew_explain.specs.declared.explained.Way.{Way}
use Rattle.crew_explain.specs.declared.explained.Way.TheVariants.{Away, Duties, Guarantee}

-- duties of a walk, as a pairing of a base of the timetable
pub record IsPairingOf (s : Settings) (t : Timetable) (base : List ℕ) (walk : List (List Leg))
    (duties : List Duty) : Type 0 where
  pub price : ℤ
  pub based : fin.get t.bases base ≡ Some price
  pub first : Duty
  pub others : List Duty
  pub given : duties ≡ first ∷ others
  pub partial : IsLongPartial s (flights_of t) base first others
  pub returns : is_pairing base first others ≡ true
  pub walked : map (λ d. d.key) (first ∷ others) ≡ walk

-- which of the three ways to pay sets the pay: the sum of the duties' pays, the rig for each minute
-- away, or the guarantee for each duty; the first of those that are equal
abbrev pub way_by : ℤ → ℤ → ℤ → Way
way_by pays rig guarantee = cond (int_le (int_max rig guarantee) pays) Duties
    (cond (int_le guarantee rig) Away Guarantee)

abbrev pub way_of : Settings → List Duty → Way
way_of s duties = way_by (total (λ d. d.pay) duties) (pos s.trip_rig *ℤ minutes_away duties)
    (pos s.guarantee *ℤ pos (length duties))

-- the numbers of a pairing with this price of its base
pub record AreNumbers (s : Settings) (price : ℤ) (n : Numbers) : Type 0 where
  pub cost : n.cost ≡ cost_of s price n.duties.items
  pub pay : n.pay ≡ pay_of s n.duties.items
  pub away : n.away ≡ minutes_away n.duties.items
  pub way : n.way ≡ way_of s n.duties.items

-- the numbers of a walk that is legal, with what its duties may have
pub record AreNumbersOf (s : Settings) (t : Timetable) (base : List ℕ) (walk : List (List Leg))
    (n : Numbers) : Type 0 where
  pub pairing : IsPairingOf s t base walk n.duties.items
  pub unbroken : breach_of s t base walk ≡ None
  pub limits : read_walk s t walk ≡ Ok (n.duties.items, n.limits.items)
  pub numbers : AreNumbers s pairing.price n

-- what is told of a walk as a pairing of a base: its numbers, or the first rule that it breaks
abbrev pub IsExplained : Settings → Timetable → List ℕ → List (List Leg) → Explained → Type 0
IsExplained s t base walk (Legal n) = AreNumbersOf s t base walk n
IsExplained s t base walk (Broken breach) = breach_of s t base walk ≡ Some breach
