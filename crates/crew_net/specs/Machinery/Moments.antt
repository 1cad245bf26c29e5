-- An airport and a minute as one number, and the places of what happens at each.
use Rattle.std.specs.Prelude.{◌≡◌, true, false, int_lt, ℕ, suc, ◌+◌, ◌-◌, ◌*◌, ◌/◌, ◌%◌, ◌≤◌, ◌<◌, ℤ, pos, negsuc, ◌+ℤ◌, ◌-ℤ◌, ◌≤ℤ◌, ◌<ℤ◌, List, [], ◌∷◌, length, map, get_or, IsPermutation, IsSorted}
use Rattle.std.specs.declared.cmp.Ordering.{Ordering}
use Rattle.std.specs.Ordering.{int_cmp, nat_cmp, ordering_then}
use Rattle.std.specs.List.Sorted.{IsPartitionPoint}
use Rattle.crew_resource.specs.Members.{Each}

-- when something happens, and its place among all
pub record Slot : Type 0 where
  pub at : ℤ
  pub place : ℕ

-- the bytes of a place as one number
abbrev pub code_number : List ℕ → ℕ
code_number code = get_or code 0 0 * 65_536 + get_or code 1 0 * 256 + get_or code 2 0

-- a place and a minute as one number: places lie further apart than any two minutes of 32 bits
abbrev pub moment : List ℕ → ℤ → ℤ
moment airport minute = pos (code_number airport * 4_295_000_000) +ℤ minute

-- a minute of 32 bits, or less than an airport's distance away from one
pub record IsMinute (minute : ℤ) : Type 0 where
  pub least : negsuc 2_147_500_000 ≤ℤ minute
  pub most : minute ≤ℤ pos 2_147_500_000

-- a minute of 32 bits
pub record IsReal (minute : ℤ) : Type 0 where
  pub least : negsuc 2_147_483_647 ≤ℤ minute
  pub most : minute ≤ℤ pos 2_147_483_647

-- a moment of such a minute
pub record IsBounded (at : ℤ) : Type 0 where
  pub least : negsuc 2_147_500_000 ≤ℤ at
  pub most : at ≤ℤ pos 72_058_142_720_000_000

-- what happens at these moments, from a place on
abbrev pub slots_from : ℕ → List ℤ → List Slot
slots_from place [] = []
slots_from place (at ∷ ats) = record { at = at; place = place } ∷ slots_from (suc place) ats

-- the slot of a key: keys of slots at bounded moments stand in the order of the slots
abbrev pub keyed_slot : ℕ → Slot
keyed_slot key = record { at = pos (key / 200_000) -ℤ pos 2_147_500_001; place = key % 200_000 }

abbrev pub slot_cmp : Slot → Slot → Ordering
slot_cmp a b = ordering_then (int_cmp a.at b.at) (nat_cmp a.place b.place)

-- the keys of all that happens at these moments, in any order
abbrev pub AreKeys : List ℤ → List ℕ → Type 0
AreKeys ats keys = IsPermutation (slots_from 0 ats) (map keyed_slot keys)

-- a key of a slot at a moment that is no later than any
abbrev pub IsKey : ℕ → Type 0
IsKey key = (keyed_slot key).at ≤ℤ pos 72_058_142_720_000_000

-- keys of slots at bounded moments
abbrev pub AreSlotKeys : List ℕ → Type 0
AreSlotKeys keys = (ats : List ℤ) × AreKeys ats keys × Each IsBounded ats

-- no slot is later than one after it
abbrev pub Ascend : List Slot → Type 0
Ascend slots = (i j : ℕ) (d : Slot) → i ≤ j → j < length slots
    → (get_or slots i d).at ≤ℤ (get_or slots j d).at

-- all that happens, by moment and then place
pub record AreInOrder (ats : List ℤ) (slots : List Slot) : Type 0 where
  pub all : IsPermutation (slots_from 0 ats) slots
  pub sorted : IsSorted slot_cmp slots

-- each moment is less than all later ones
abbrev pub Rise : List ℤ → Type 0
Rise moments = (i j : ℕ) (d : ℤ) → i < j → j < length moments
    → get_or moments i d <ℤ get_or moments j d

-- the moments at which something happens, each once, in order
pub record AreMoments (slots : List Slot) (moments : List ℤ) : Type 0 where
  pub few : length moments ≤ length slots
  pub rising : Rise moments
  pub every : (i : ℕ) (d : Slot) → i < length slots → (k : ℕ) × (k < length moments)
      × ((e : ℤ) → get_or moments k e ≡ (get_or slots i d).at)
  pub some : (k : ℕ) (e : ℤ) → k < length moments → (i : ℕ) × (i < length slots)
      × ((d : Slot) → (get_or slots i d).at ≡ get_or moments k e)

-- where the slots of a moment, and of later ones, begin
abbrev pub IsStart : List Slot → ℤ → ℕ → Type 0
IsStart slots at start = IsPartitionPoint (λ s. int_lt s.at at ≡ true)
    (λ s. int_lt s.at at ≡ false) slots start

-- where each moment begins among the slots, and then where they end
pub record AreStarts (slots : List Slot) (moments : List ℤ) (starts : List ℕ) : Type 0 where
  pub long : length starts ≡ length moments + 1
  pub within : (k d : ℕ) → k < length starts → get_or starts k d ≤ length slots
  pub points : (k d : ℕ) (e : ℤ) → k < length moments
      → IsStart slots (get_or moments k e) (get_or starts k d)
  pub end : (d : ℕ) → get_or starts (length moments) d ≡ length slots
