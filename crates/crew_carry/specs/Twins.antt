-- What two networks have alike.
use Rattle.std.specs.Prelude.{◌≡◌, ◌<◌, ◌≤◌, ℕ, List, Option, Some, length, slice_get}
use Rattle.crew_net.specs.Nets.{Net}
use Rattle.crew_pairing.specs.Duties.{RiseByKey}
use Rattle.crew_pairing.specs.Events.{arrival_of}
use Rattle.crew_pairing.specs.declared.duty.Duty.{Duty}
use Rattle.crew_pairing.specs.declared.events.Arrival.{Arrival}
use Rattle.crew_pairing.specs.declared.events.Departure.{Departure}
use Rattle.crew_pool.specs.Ranks.{key_at}
use Rattle.crew_resource.specs.Members.{Member}

-- what stands in the other network alike: the place in the old one of each departure and arrival of
-- the new one, and the rank in the new one of each duty of the old one
pub record Twins : Type 0 where
  pub departures : List (Option ℕ)
  pub arrivals : List (Option ℕ)
  pub ranks : List (Option ℕ)

-- the same duties, with all their facts, arrive at an event
abbrev pub HaveSameArriving : Net → Net → Arrival → Type 0
HaveSameArriving old new x = (d : Duty) → arrival_of d ≡ x
    → (Member old.duties d → Member new.duties d) × (Member new.duties d → Member old.duties d)

-- the duties of these ranks have one key
pub record AreRankTwins (olds news : List Duty) (ranks : List (Option ℕ)) : Type 0 where
  pub long : length ranks ≡ length olds
  pub within : (r k : ℕ) → slice_get ranks r ≡ Some (Some k) → k < length news
  pub same : (r k : ℕ) → slice_get ranks r ≡ Some (Some k) → key_at olds r ≡ key_at news k

-- both networks have the departure at these places, or the arrival with the same duties
pub record AreTwins (old new : Net) (t : Twins) : Type 0 where
  pub departures_long : length t.departures ≡ length new.departures
  pub departures : (p q : ℕ) → slice_get t.departures p ≡ Some (Some q)
      → (g : Departure) × (slice_get old.departures q ≡ Some g)
      × (slice_get new.departures p ≡ Some g)
  pub arrivals_long : length t.arrivals ≡ length new.arrivals
  pub arrivals : (p q : ℕ) → slice_get t.arrivals p ≡ Some (Some q)
      → (x : Arrival) × (slice_get old.arrivals q ≡ Some x) × (slice_get new.arrivals p ≡ Some x)
      × HaveSameArriving old new x
  pub ranks : AreRankTwins old.duties new.duties t.ranks

-- its duties rise by key, and are no more than a network has
abbrev pub IsInOrder : Net → Type 0
IsInOrder net = RiseByKey net.duties × (length net.duties ≤ 200_000)

-- no twin is missing
pub record HasAllTwins (old new : Net) (t : Twins) : Type 0 where
  pub departures : (p q : ℕ) (g : Departure) → slice_get old.departures q ≡ Some g
      → slice_get new.departures p ≡ Some g → slice_get t.departures p ≡ Some (Some q)
  pub arrivals : (p q : ℕ) (x : Arrival) → slice_get old.arrivals q ≡ Some x
      → slice_get new.arrivals p ≡ Some x → HaveSameArriving old new x
      → slice_get t.arrivals p ≡ Some (Some q)
  pub ranks : (r k : ℕ) (d e : Duty) → slice_get old.duties r ≡ Some d
      → slice_get new.duties k ≡ Some e → d.key ≡ e.key → slice_get t.ranks r ≡ Some (Some k)
