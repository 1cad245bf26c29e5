-- Where walks stand that stay at their own places, or are carried one by one.
use Rattle.std.specs.Prelude.{◌<◌, ℕ, List, Bool, Option, Some, None, if◌then◌else◌, get_or, length, map, nat_eq}
use Rattle.std.specs.List.{list_any, range_with_len}
use Rattle.crew_carry.specs.Carried.{AreTwinWalks}
use Rattle.crew_pool.specs.Arena.{walk_at}
use Rattle.crew_pool.specs.Renumbered.{walks_under}

-- numbers rise
abbrev pub Rise : List ℕ → Type 0
Rise ns = (i j : ℕ) → i < j → j < length ns → get_or ns i 0 < get_or ns j 0

-- a walk is among those that stand nowhere
abbrev pub is_missing : List ℕ → ℕ → Bool
is_missing missing walk = list_any (nat_eq walk) missing

-- its own place, or nowhere
abbrev pub own_place : List ℕ → ℕ → Option ℕ
own_place missing walk = if is_missing missing walk then None else Some walk

abbrev pub own_places : ℕ → List ℕ → List (Option ℕ)
own_places count missing = map (own_place missing) (range_with_len 0 count)

-- the duties of the walk at a place have twins, so it can stand there with these
abbrev pub HaveTwins : List (Option ℕ) → List (List ℕ) → ℕ → Type 0
HaveTwins twins walks place = AreTwinWalks twins (walk_at walks place)
    (walk_at (walks_under twins walks) place)
