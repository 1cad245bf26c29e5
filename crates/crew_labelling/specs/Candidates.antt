-- The candidates of each event, by value and walk: what may stand at a departure, what arrives, and
-- what boards a duty.
use Rattle.std.specs.Prelude.{◌≡◌, ◌⊎◌, ℕ, Bool, true, cond, List, [], ◌∷◌, ◌++◌, Some, None, get_or, map, slice_get}
use Rattle.std.specs.List.{flat_map}
use Rattle.std.specs.Ordering.{eq_by_cmp}
use Rattle.crew_flights.specs.Codes.{code_cmp}
use Rattle.crew_forgetful.specs.Forgetful.{Covers}
use Rattle.crew_label.specs.Boarding.{AreRested}
use Rattle.crew_label.specs.Pools.{ArePoolOf}
use Rattle.crew_label.specs.Tables.{Tabled}
use Rattle.crew_label.specs.Walks.{ranks_at_most, shown}
use Rattle.crew_label.specs.declared.label.Label.{Label}
use Rattle.crew_label.specs.declared.label.Link.{Link}
use Rattle.crew_net.specs.Nets.{Net}
use Rattle.crew_pairing.specs.Events.{arrival_of, may_wait}
use Rattle.crew_pairing.specs.declared.duty.Duty.{Duty}
use Rattle.crew_pairing.specs.declared.events.Arrival.{Arrival}
use Rattle.crew_pairing.specs.declared.events.Departure.{Departure}
use Rattle.crew_resource.specs.Events.{labelled}
use Rattle.crew_resource.specs.Labels.{IsLocal}
use Rattle.crew_resource.specs.Members.{Member}
use Rattle.crew_labelling.specs.Held.{HaveArrived, trail_of}
use Rattle.crew_labelling.specs.Terms.{Terms}

-- labels that cover candidates
abbrev pub AreCovering : {V : Type 0} → Terms V → (Link → List ℕ) → (V → List ℕ → Type 0)
    → List (Label V) → Type 0
AreCovering w trail Candidate labels =
    Covers w.below w.same ranks_at_most (λ v k. Member (map (shown trail) labels) (v, k)) Candidate

-- labels that are the pool of candidates, which can be listed
pub record AreGathered {V : Type 0} (w : Terms V) (trail : Link → List ℕ)
    (Candidate : V → List ℕ → Type 0) (labels : List (Label V)) : Type 0 where
  pub listed : List (V × List ℕ)
  pub pool : ArePoolOf w.below w.same trail listed labels
  pub among : (v : V) (k : List ℕ) → Member listed (v, k) → Candidate v k
  pub every : (v : V) (k : List ℕ) → Candidate v k → Member listed (v, k)

-- the empty label, if it stands there
abbrev pub idle_labels : {V : Type 0} → Bool → V → List (Label V)
idle_labels here v = cond here (record { value = v; before = None } ∷ []) []

-- entries whose values have moved on
abbrev pub waited_entries : {V : Type 0} → (V → V) → List (V × List ℕ) → List (V × List ℕ)
waited_entries wait entries = map (λ e. (wait e.0, e.1)) entries

-- the empty label, where the base is
abbrev pub Idles : {V : Type 0} → Terms V → Departure → V → List ℕ → Type 0
Idles w g v k = (k ≡ []) × (eq_by_cmp code_cmp g.airport w.base ≡ true) × (w.idle g ≡ v)

-- a label of the arrival at a place, as it stands at a departure
abbrev pub WaitsAt : {V : Type 0} → Terms V → (Link → List ℕ) → List (List (Label V)) → Departure
    → ℕ → V → List ℕ → Type 0
WaitsAt {V} w trail held g place v k = (x : Arrival) × (u : V)
    × (slice_get w.net.arrivals place ≡ Some x) × (may_wait w.net.settings x g ≡ true)
    × Member (map (shown trail) (get_or held place [])) (u, k) × (v ≡ w.wait u x g)

-- what may stand at a departure
abbrev pub Waits : {V : Type 0} → Terms V → (Link → List ℕ) → List (List (Label V)) → Departure
    → V → List ℕ → Type 0
Waits w trail held g v k = Idles w g v k ⊎ ((place : ℕ) × WaitsAt w trail held g place v k)

-- an entry of the front of a duty that arrives there
abbrev pub Arrives : {V : Type 0} → Net → (Link → List ℕ) → List (List (Label V)) → Arrival → V
    → List ℕ → Type 0
Arrives net trail fronts x v k = (rank : ℕ) × (d : Duty)
    × (slice_get net.duties rank ≡ Some d) × (arrival_of d ≡ x)
    × Member (map (shown trail) (get_or fronts rank [])) (v, k)

-- entries that board a duty
abbrev pub boarding : {V : Type 0} → Terms V → Duty → ℕ → List (V × List ℕ) → List (V × List ℕ)
boarding w d rank entries =
    flat_map (λ e. labelled (w.board e.0 d) (e.1 ++ rank ∷ [])) entries

-- the labels are what dominance leaves of those that board the duty from a pool
abbrev pub AreFront : {V : Type 0} → Terms V → (Link → List ℕ) → Duty → ℕ → List (Label V)
    → List (Label V) → Type 0
AreFront w trail d rank pool front = IsLocal w.below ranks_at_most
    (λ v k. Member (boarding w d rank (map (shown trail) pool)) (v, k)) (map (shown trail) front)

-- what a rest of these labels goes by: their pool with rested values
pub record IsRested {V : Type 0} (w : Terms V) (t : Tabled V) (labels pool : List (Label V))
    : Type 0 where
  pub those : ArePoolOf w.below w.same (trail_of t)
      (waited_entries w.rest (map (shown (trail_of t)) labels)) pool
  pub held : HaveArrived w t pool
  pub are : AreRested w.rest pool
