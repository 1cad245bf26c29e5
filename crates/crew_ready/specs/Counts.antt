-- How far the nodes of one base are from ready: of each arrival, how many duties arrive there whose
-- nodes aren't done; of each departure, how many arrivals of its window have such a duty.
use Rattle.std.specs.Prelude.{◌≡◌, ℕ, ◌-◌, ◌<◌, nat_lt, Bool, true, false, not, List, Some, drop, filter, get_or, length, slice_get, take}
use Rattle.crew_net.specs.Events.{IsWindow, arrives_at}
use Rattle.crew_net.specs.Nets.{Net}
use Rattle.crew_net.specs.Ranks.{ranks_where}
use Rattle.crew_net.specs.declared.window.Window.{Window}
use Rattle.crew_pairing.specs.Events.{may_wait}
use Rattle.crew_pairing.specs.Pairings.{may_stand_after}
use Rattle.crew_pairing.specs.declared.duty.Duty.{Duty}
use Rattle.crew_pairing.specs.declared.events.Arrival.{Arrival}
use Rattle.crew_pairing.specs.declared.events.Departure.{Departure}

-- at one base, by rank whether a node is done: the nodes of all duties that may stand just before
-- one are
abbrev pub AreDoneBefore : Net → List Bool → Duty → Type 0
AreDoneBefore net done d = (rank : ℕ) (e : Duty) → slice_get net.duties rank ≡ Some e
    → may_stand_after net.settings e d ≡ true → get_or done rank false ≡ true

-- how many of some ranks aren't done
abbrev pub undone_of : List Bool → List ℕ → ℕ
undone_of done ranks = length (filter (λ rank. not (get_or done rank false)) ranks)

-- how many counts of a window aren't nought
abbrev pub waiting_of : List ℕ → Window → ℕ
waiting_of counts w = length (filter (nat_lt 0) (take (w.end - w.from) (drop w.from counts)))

-- by the place of an arrival, and of a departure
pub record Counts : Type 0 where
  pub undone : List ℕ
  pub blocked : List ℕ

-- the first arrivals of a network have their counts
abbrev pub AreUndoneUpTo : Net → List Bool → ℕ → List ℕ → Type 0
AreUndoneUpTo net done n counts = (k : ℕ) (x : Arrival) → k < n → slice_get net.arrivals k ≡ Some x
    → get_or counts k 0 ≡ undone_of done (ranks_where (arrives_at x) net.duties)

-- a count of a departure, over those of arrivals
pub record IsBlocked (net : Net) (undone : List ℕ) (g : Departure) (count : ℕ) : Type 0 where
  pub window : Window
  pub is_window : IsWindow (λ x. may_wait net.settings x g) net.arrivals window
  pub counted : count ≡ waiting_of undone window

-- the first departures have theirs
abbrev pub AreBlockedUpTo : Net → List ℕ → ℕ → List ℕ → Type 0
AreBlockedUpTo net undone n counts = (k : ℕ) (g : Departure) → k < n
    → slice_get net.departures k ≡ Some g → IsBlocked net undone g (get_or counts k 0)

-- the counts of a network's arrivals and departures, where these nodes of a base are done
pub record AreCounts (net : Net) (done : List Bool) (c : Counts) : Type 0 where
  pub long : length c.undone ≡ length net.arrivals
  pub undone : AreUndoneUpTo net done (length net.arrivals) c.undone
  pub long_blocked : length c.blocked ≡ length net.departures
  pub blocked : AreBlockedUpTo net c.undone (length net.departures) c.blocked
