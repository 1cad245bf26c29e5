-- Pairings taken one after another, from lists that stand in order of cost and walk.
use Rattle.std.specs.Prelude.{ℕ, Bool, true, ◌&&◌, cond, List, [], ◌∷◌, ◌++◌, Option, Some, None}
use Rattle.std.specs.Ordering.{is_lt}
use Rattle.crew_resource.specs.Members.{Member}
use Rattle.crew_solve.specs.Apart.{is_apart, taken_from}
use Rattle.crew_solve.specs.Cheapest.{RiseByCost, pairing_cmp}
use Rattle.crew_vector.specs.declared.priced.PricedPairing.{PricedPairing}

-- those taken, how many of them may fly a flight, and the last that was looked at, if there is one
pub record Taken : Type 0 where
  pub share : ℕ
  pub last : Option PricedPairing
  pub pairings : List PricedPairing

abbrev pub none_taken : ℕ → Taken
none_taken share = record { share = share; last = None; pairings = [] }

-- it comes after the one, if there is one
abbrev pub is_past : Option PricedPairing → PricedPairing → Bool
is_past None p = true
is_past (Some last) p = is_lt (pairing_cmp last p)

-- it may still be taken
abbrev pub may_take : Taken → PricedPairing → Bool
may_take t p = is_past t.last p && is_apart t.share t.pairings p

-- with one more, where it is apart
abbrev pub offered : Taken → PricedPairing → Taken
offered t p = record {
  share = t.share;
  last = t.last;
  pairings = cond (is_apart t.share t.pairings p) (t.pairings ++ p ∷ []) t.pairings;
}

-- the last of a list, or the one before it
abbrev pub last_of : Option PricedPairing → List PricedPairing → Option PricedPairing
last_of before [] = before
last_of before (p ∷ ps) = last_of (Some p) ps

abbrev pub gone_past : Taken → List PricedPairing → Taken
gone_past t ps = record { share = t.share; last = last_of t.last ps; pairings = t.pairings }

-- with each of a list that is apart
abbrev pub offered_each : Taken → List PricedPairing → Taken
offered_each t ps = record {
  share = t.share;
  last = t.last;
  pairings = t.pairings ++ taken_from t.share t.pairings ps;
}

-- after a look at a list
abbrev pub looked_at : Taken → List PricedPairing → Taken
looked_at t ps = offered_each (gone_past t ps) ps

-- a list by cost and walk has what another has
pub record AreInOrder (ps all : List PricedPairing) : Type 0 where
  pub rise : RiseByCost all
  pub among : (p : PricedPairing) → Member all p → Member ps p
  pub each : (p : PricedPairing) → Member ps p → Member all p
