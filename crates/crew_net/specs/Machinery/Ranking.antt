-- The rank of a duty, by its key.
use Rattle.std.specs.Prelude.{◌≡◌, ◌<◌, ℕ, true, false, List, length, Option, Some, None, get_or}
use Rattle.std.specs.List.Sorted.{IsPartitionPoint}
use Rattle.std.specs.Ordering.{is_lt}
use Rattle.crew_pairing.specs.Keys.{key_cmp}
use Rattle.crew_pairing.specs.Legs.{Leg}
use Rattle.crew_pairing.specs.declared.duty.Duty.{Duty}
use Rattle.crew_resource.specs.Members.{Member}

-- duties of lesser keys stand before it, and no others
abbrev pub IsKeyStart : List Duty → List Leg → ℕ → Type 0
IsKeyStart duties key start = IsPartitionPoint (λ d. is_lt (key_cmp d.key key) ≡ true)
    (λ d. is_lt (key_cmp d.key key) ≡ false) duties start

-- where the duty of a key stands, and none where no duty has it
abbrev pub IsRankOf : List Duty → List Leg → Option ℕ → Type 0
IsRankOf duties key None = (d : Duty) → Member duties d → d.key ≡ key → ⊥
IsRankOf duties key (Some rank) = (rank < length duties)
    × ((e : Duty) → (get_or duties rank e).key ≡ key)
