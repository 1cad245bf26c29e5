-- The places of the flights that pass a test.
use Rattle.std.proofs.Common.{◌≡◌, ◌<◌, ◌+◌, ℕ, zero, suc, List, [], ◌∷◌, ◌++◌, Some, length, refl, ap, take, get_or}
use Rattle.std.specs.Prelude.{slice_get}
use Rattle.std.proofs.lemmas.List.{take_more}
use Rattle.crew_flights.specs.declared.flight.Flight.{Flight}
use Rattle.crew_rules.specs.declared.settings.Settings.{Settings}
use Rattle.crew_pairing.specs.Flights.{Flights}
use Rattle.crew_duty.specs.declared.plan.Next.{Next}
use Rattle.crew_duty.specs.Machinery.Plans.{AreNext, IsNext, StandAt}

-- the places of the followers of one flight more
pub AreNext-push : (s : Settings) (flights : Flights) (fs : List Flight) (others : List Next) (f : Flight) (known : Next) → AreNext s flights fs others
    → IsNext s flights f known → AreNext s flights (fs ++ f ∷ []) (others ++ known ∷ [])
AreNext-push s flights [] [] f known h e = (e, tt)
AreNext-push s flights [] (o ∷ others) f known h e = absurd h
AreNext-push s flights (g ∷ fs) [] f known h e = absurd h
AreNext-push s flights (g ∷ fs) (o ∷ others) f known h e = (h.0, AreNext-push s flights fs others f known h.1 e)

pub AreNext-more : (s : Settings) (flights : Flights) (next : List Next) (known : Next) (i : ℕ) (d : Flight) → i < length flights.list
    → AreNext s flights (take i flights.list) next → IsNext s flights (get_or flights.list i d) known → AreNext s flights (take (i + 1) flights.list) (next ++ known ∷ [])
AreNext-more s flights next known i d h n e =
    rw (take_more flights.list i d h) (AreNext-push s flights (take i flights.list) next (get_or flights.list i d) known n e)

-- what is known of the flight at a place
pub AreNext-at : (s : Settings) (flights : Flights) (fs : List Flight) (next : List Next) (i : ℕ) (f : Flight) (known : Next) → AreNext s flights fs next → slice_get fs i ≡ Some f → slice_get next i ≡ Some known
    → IsNext s flights f known
AreNext-at s flights [] [] i f known n e k = cc
AreNext-at s flights [] (o ∷ next) i f known n e k = absurd n
AreNext-at s flights (g ∷ fs) [] i f known n e k = absurd n
AreNext-at s flights (g ∷ fs) (o ∷ next) zero f known n e k =
    let same : g ≡ f = cc in
    let row : o ≡ known = cc in
    rw (← same, ← row) n.0
AreNext-at s flights (g ∷ fs) (o ∷ next) (suc i) f known n e k = AreNext-at s flights fs next i f known n.1 e k

pub AreNext-length : (s : Settings) (flights : Flights) (fs : List Flight) (next : List Next) → AreNext s flights fs next → length next ≡ length fs
AreNext-length s flights [] [] n = refl
AreNext-length s flights [] (o ∷ next) n = absurd n
AreNext-length s flights (g ∷ fs) [] n = absurd n
AreNext-length s flights (g ∷ fs) (o ∷ next) n = ap suc (AreNext-length s flights fs next n.1)

pub StandAt-at : (flights : List Flight) (places : List ℕ) (gs : List Flight) (i : ℕ) (place : ℕ) → StandAt flights places gs → slice_get places i ≡ Some place
    → (g : Flight) × (slice_get gs i ≡ Some g) × (slice_get flights place ≡ Some g)
StandAt-at flights [] [] i place h e = cc
StandAt-at flights [] (g ∷ gs) i place h e = absurd h
StandAt-at flights (p ∷ places) [] i place h e = absurd h
StandAt-at flights (p ∷ places) (g ∷ gs) zero place h e = let same : p ≡ place = cc in (g, refl, rw (← same) h.0)
StandAt-at flights (p ∷ places) (g ∷ gs) (suc i) place h e = StandAt-at flights places gs i place h.1 e

pub StandAt-length : (flights : List Flight) (places : List ℕ) (gs : List Flight) → StandAt flights places gs → length places ≡ length gs
StandAt-length flights [] [] h = refl
StandAt-length flights [] (g ∷ gs) h = absurd h
StandAt-length flights (p ∷ places) [] h = absurd h
StandAt-length flights (p ∷ places) (g ∷ gs) h = ap suc (StandAt-length flights places gs h.1)
