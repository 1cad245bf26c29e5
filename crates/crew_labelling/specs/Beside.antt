-- Two labellings side by side: of one resource and one base, over networks that have many duties in
-- common. What is made of the same comes out the same.
use Rattle.std.specs.Prelude.{◌≡◌, ◌<◌, ◌+◌, ℕ, List, [], Some, get_or, length, map, slice_get}
use Rattle.crew_label.specs.Walks.{shown}
use Rattle.crew_label.specs.declared.label.Label.{Label}
use Rattle.crew_labelling.specs.Held.{trail_of}
use Rattle.crew_labelling.specs.Labellings.{labelling_of, table_of}
use Rattle.crew_labelling.specs.Terms.{Terms, number_of}
use Rattle.crew_net.specs.Events.{IsWindow, arrives_at}
use Rattle.crew_net.specs.Positions.{in_order}
use Rattle.crew_net.specs.Ranks.{ranks_where}
use Rattle.crew_net.specs.declared.window.Window.{Window}
use Rattle.crew_pairing.specs.Events.{may_wait}
use Rattle.crew_pairing.specs.Legs.{Leg}
use Rattle.crew_pairing.specs.declared.duty.Duty.{Duty}
use Rattle.crew_pairing.specs.declared.events.Arrival.{Arrival}
use Rattle.crew_pairing.specs.declared.events.Departure.{Departure}
use Rattle.crew_pool.specs.Ranks.{by_key}

-- the values of labels of a labelling, with their walks by key
abbrev pub keyed_labels : {V : Type 0} → Terms V → List (Label V) → List (V × List (List Leg))
keyed_labels w labels =
    by_key w.net.duties (map (shown (trail_of (table_of w (labelling_of w)))) labels)

-- two pools have the same values with the same walks, label by label
abbrev pub AreAlike : {V : Type 0} → Terms V → Terms V → List (Label V) → List (Label V) → Type 0
AreAlike w z labels others = keyed_labels w labels ≡ keyed_labels z others

-- and the same links
pub record AreSame {V : Type 0} (w z : Terms V) (own others : List (Label V)) : Type 0 where
  pub labels : own ≡ others
  pub alike : AreAlike w z own others

-- the pool of the departure that the duty of a rank leaves by
abbrev pub pool_left : {V : Type 0} → Terms V → ℕ → List (Label V)
pool_left w rank = get_or (labelling_of w).departures (get_or w.leaves.positions rank 0) []

-- a duty of both networks with one number, which leaves by pools that are alike
pub record BoardAlike {V : Type 0} (w z : Terms V) (rank other : ℕ) : Type 0 where
  pub duty : Duty
  pub here : slice_get w.net.duties rank ≡ Some duty
  pub there : slice_get z.net.duties other ≡ Some duty
  pub number : number_of w rank ≡ number_of z other
  pub alike : AreAlike w z (pool_left w rank) (pool_left z other)

-- such duties, one by one
pub record AllBoardAlike {V : Type 0} (w z : Terms V) (ranks others : List ℕ) : Type 0 where
  pub long : length ranks ≡ length others
  pub each : (k rank other : ℕ) → slice_get ranks k ≡ Some rank → slice_get others k ≡ Some other
      → BoardAlike w z rank other

-- windows of the same arrivals, one by one, whose pools are the same
pub record WaitAlike {V : Type 0} (w z : Terms V) (a b : Window) : Type 0 where
  pub long : a.end + b.from ≡ b.end + a.from
  pub each : (k : ℕ) → a.from + k < a.end → (x : Arrival)
      × (slice_get w.net.arrivals (a.from + k) ≡ Some x)
      × (slice_get z.net.arrivals (b.from + k) ≡ Some x)
      × AreSame w z (get_or (labelling_of w).arrivals (a.from + k) [])
      (get_or (labelling_of z).arrivals (b.from + k) [])

-- what is made of the same is the same
pub record StayAlike {V : Type 0} (w z : Terms V) : Type 0 where
  pub fronts : (rank other : ℕ) → BoardAlike w z rank other
      → AreSame w z (get_or (labelling_of w).fronts rank [])
      (get_or (labelling_of z).fronts other [])
  pub arrivals : (place other : ℕ) (x : Arrival) → slice_get w.net.arrivals place ≡ Some x
      → slice_get z.net.arrivals other ≡ Some x
      → AllBoardAlike w z (ranks_where (arrives_at x) w.net.duties)
      (ranks_where (arrives_at x) z.net.duties)
      → AreSame w z (get_or (labelling_of w).arrivals place [])
      (get_or (labelling_of z).arrivals other [])
  pub rested : (place other : ℕ) (x : Arrival) → slice_get w.net.arrivals place ≡ Some x
      → slice_get z.net.arrivals other ≡ Some x
      → AreSame w z (get_or (labelling_of w).arrivals place [])
      (get_or (labelling_of z).arrivals other [])
      → AreSame w z (get_or (labelling_of w).rested place [])
      (get_or (labelling_of z).rested other [])
  pub departures : (i j : ℕ) (g : Departure) (a b : Window) → slice_get (in_order w.net) i ≡ Some g
      → slice_get (in_order z.net) j ≡ Some g
      → IsWindow (λ x. may_wait w.net.settings x g) w.net.arrivals a
      → IsWindow (λ x. may_wait z.net.settings x g) z.net.arrivals b → WaitAlike w z a b
      → AreSame w z (get_or (labelling_of w).departures i [])
      (get_or (labelling_of z).departures j [])
