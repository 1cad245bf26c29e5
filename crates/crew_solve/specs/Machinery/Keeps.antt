-- The least of many pairings, by cost and walk, up to a limit.
use Rattle.std.specs.Prelude.{◌≡◌, ◌<ℤ◌, ℕ, ℤ, Bool, true, cond, List, [], ◌∷◌, ◌++◌, Option, Some, None, length, take}
use Rattle.std.specs.BTreeSet.{insert_key}
use Rattle.crew_resource.specs.Members.{Member}
use Rattle.crew_solve.specs.Cheapest.{pairing_cmp}
use Rattle.crew_solve.specs.Machinery.Takes.{Taken, looked_at, may_take}
use Rattle.crew_vector.specs.declared.priced.PricedPairing.{PricedPairing}

-- the least so far, in order, how many at most, and what they are to be taken beside, if anything
pub record CheapestSoFar : Type 0 where
  pub limit : ℕ
  pub beside : Option Taken
  pub pairings : List PricedPairing

abbrev pub nothing : ℕ → CheapestSoFar
nothing limit = record { limit = limit; beside = None; pairings = [] }

abbrev pub nothing_beside : ℕ → Taken → CheapestSoFar
nothing_beside limit taken = record { limit = limit; beside = Some taken; pairings = [] }

abbrev pub is_wanted : Option Taken → PricedPairing → Bool
is_wanted None p = true
is_wanted (Some taken) p = may_take taken p

-- with one more
abbrev pub put : CheapestSoFar → PricedPairing → CheapestSoFar
put k p = record {
  limit = k.limit;
  beside = k.beside;
  pairings = take k.limit (insert_key pairing_cmp k.pairings p);
}

-- where it is wanted
abbrev pub keep : CheapestSoFar → PricedPairing → CheapestSoFar
keep k p = record {
  limit = k.limit;
  beside = k.beside;
  pairings = cond (is_wanted k.beside p) (take k.limit (insert_key pairing_cmp k.pairings p))
      k.pairings;
}

-- what costs more than a bound, where there is one, changes nothing
abbrev pub IsBound : Option ℤ → CheapestSoFar → Type 0
IsBound None k = Unit {0}
IsBound (Some bound) k = (p : PricedPairing) → bound <ℤ p.cost → keep k p ≡ k

-- with each of a list
abbrev pub keep_all : CheapestSoFar → List PricedPairing → CheapestSoFar
keep_all k [] = k
keep_all k (p ∷ ps) = keep_all (keep k p) ps

-- the least of a list that may be taken beside others, so many or all
abbrev pub least_beside : ℕ → Taken → List PricedPairing → List PricedPairing
least_beside many taken ps = (keep_all (nothing_beside many taken) ps).pairings

-- some of a list are kept, whatever their order, and however often
pub record KeepsSome (ps : List PricedPairing) (before after : CheapestSoFar) : Type 0 where
  pub some : List PricedPairing
  pub among : (p : PricedPairing) → Member some p → Member ps p
  pub kept : after ≡ keep_all before some

-- a look at the least of a list that may still be taken, so many or all, and how many these are;
-- some of the list may have been gone through before
pub record IsLook (many : ℕ) (ps : List PricedPairing) (before after : Taken) (found : ℕ) : Type
    0 where
  pub again : List PricedPairing
  pub among : (p : PricedPairing) → Member again p → Member ps p
  pub taken : after ≡ looked_at before (least_beside many before (again ++ ps))
  pub count : found ≡ length (least_beside many before (again ++ ps))
