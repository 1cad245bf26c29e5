-- Numbers of duties, and what a contract sees of them.
use Rattle.std.specs.Prelude.{◌≡◌, ◌<◌, ◌⊎◌, ℕ, List, Some, length, slice_get}
use Rattle.crew_net.specs.Nets.{Net}
use Rattle.crew_pairing.specs.declared.duty.Duty.{Duty}
use Rattle.crew_resource.specs.Members.{Member}

-- a network, the number of each duty by rank, and by number the rank of its duty
pub record Numbers : Type 0 where
  pub net : Net
  pub numbers : List ℕ
  pub ranks : List ℕ

-- there are as many numbers as duties: a duty's number tells its rank, and is no other duty's
pub record AreNumbers (numbers ranks : List ℕ) (count : ℕ) : Type 0 where
  pub long : length numbers ≡ count
  pub told : (rank number : ℕ) → slice_get numbers rank ≡ Some number
      → slice_get ranks number ≡ Some rank
  pub own : (rank number : ℕ) → slice_get ranks number ≡ Some rank → rank < count
      → slice_get numbers rank ≡ Some number

-- a number that no duty has tells 4,294,967,295
abbrev pub TellNone : List ℕ → ℕ → Type 0
TellNone ranks count = (rank number : ℕ) → slice_get ranks number ≡ Some rank
    → (rank < count) ⊎ (rank ≡ 4_294_967_295)

-- a duty of the network, and its number
pub record IsNumber (all : Numbers) (d : Duty) (number : ℕ) : Type 0 where
  pub rank : ℕ
  pub is_rank : slice_get all.net.duties rank ≡ Some d
  pub is_number : slice_get all.numbers rank ≡ Some number

-- a duty whose key stands in both networks keeps its number
abbrev pub Stay : Numbers → Numbers → Type 0
Stay before after = (d e : Duty) (number : ℕ) → IsNumber before d number
    → Member after.net.duties e → d.key ≡ e.key → IsNumber after e number

-- a number that is a duty's in both networks is of one key
abbrev pub AreAlike : Numbers → Numbers → Type 0
AreAlike before after = (d e : Duty) (number : ℕ) → IsNumber before d number
    → IsNumber after e number → d.key ≡ e.key
