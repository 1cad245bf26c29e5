-- Pools of labels at the events of a time-space network, in place of one list of candidates for
-- each duty.
use Rattle.std.specs.Prelude.{◌≡◌, ℕ, ◌<◌, ◌⊎◌, Bool, true, length, get_or, List, [], ◌∷◌, Option, Some, None, option_and_then}
use Rattle.std.specs.List.{flat_map}
use Rattle.crew_resource.specs.Members.{Member}
use Rattle.crew_resource.specs.Labels.{IsLocal}

-- N duties, V values, W walks, G departure events (airport, report), X arrival events (airport,
-- release)
pub record Network (N V W G X : Type 0) : Type 0 where
  pub known : List N
  pub leaves : N → G
  pub arrives : N → X
  -- same airport, and a rest from the least to the longest
  pub window : X → G → Bool
  pub none : W
  pub more : W → N → W
  -- the empty label, at the base
  pub idle : G → Option V
  -- a value moved on from a release to a report
  pub wait : V → X → G → V
  -- the duty's own amounts, and the caps
  pub board : V → N → Option V

-- waiting keeps the order, and never makes one of two values, one at most the other
pub record WaitLaws {V G X : Type 0} (le : V → V → Bool) (wait : V → X → G → V) : Type 0 where
  pub monotone : (a b : V) (x : X) (g : G) → le a b ≡ true → le (wait a x g) (wait b x g) ≡ true
  pub strict : (a b : V) (x : X) (g : G) → le a b ≡ true → wait a x g ≡ wait b x g → a ≡ b

-- a lesser value boards where the greater does, to a lesser value
pub record BoardLaws {N V : Type 0} (le : V → V → Bool) (board : V → N → Option V) : Type 0 where
  pub monotone : (a b c : V) (d : N) → le a b ≡ true → board b d ≡ Some c
      → (z : V) × (board a d ≡ Some z) × (le z c ≡ true)
  pub strict : (a b c : V) (d : N) → le a b ≡ true → board a d ≡ Some c → board b d ≡ Some c → a ≡ b

-- and two values that board stand after it as they stood before
abbrev pub Reflects : {N V : Type 0} → (V → V → Bool) → (V → N → Option V) → Type 0
Reflects {N} {V} le board = (a b x y : V) (d : N) → board a d ≡ Some x → board b d ≡ Some y
    → le x y ≡ true → le a b ≡ true

-- `Fits v w`: the number of duties in the value is the walk's. So walks of one value have one
-- length
pub record CountLaws {N V W G X : Type 0} (net : Network N V W G X) (wle : W → W → Bool)
    (Fits : V → W → Type 0) : Type 0 where
  pub idle : (g : G) (v : V) → net.idle g ≡ Some v → Fits v net.none
  pub wait : (v : V) (w : W) (x : X) (g : G) → Fits v w → Fits (net.wait v x g) w
  pub board : (v z : V) (w : W) (d : N) → Fits v w → net.board v d ≡ Some z → Fits z (net.more w d)
  pub more_mono : (v : V) (y z : W) (d : N) → Fits v y → Fits v z → wle y z ≡ true
      → wle (net.more y d) (net.more z d) ≡ true

-- the step from duty to duty goes over the two events
pub record StageLaws {N V W G X : Type 0} (net : Network N V W G X) (one : N → W)
    (opens : N → Option V) (ext : V → N → N → Option V) (Arc : N → N → Type 0) : Type 0 where
  pub one_by : (d : N) → one d ≡ net.more net.none d
  pub opens_by : (d : N) → opens d ≡ option_and_then (λ v. net.board v d) (net.idle (net.leaves d))
  pub ext_by : (u : V) (e d : N) → Arc e d
      → ext u e d ≡ net.board (net.wait u (net.arrives e) (net.leaves d)) d
  pub arc_in : (e d : N) → Member net.known e → net.window (net.arrives e) (net.leaves d) ≡ true
      → Arc e d
  pub arc_out : (e d : N) → Arc e d → Member net.known e
      × (net.window (net.arrives e) (net.leaves d) ≡ true)

abbrev pub labelled : {V W : Type 0} → Option V → W → List (V × W)
labelled None w = []
labelled (Some v) w = (v, w) ∷ []

-- the labels of a departure pool that board d, each with the longer walk
abbrev pub view : {N V W G X : Type 0} → Network N V W G X → N → List (V × W) → List (V × W)
view net d pool = flat_map (λ e. labelled (net.board e.0 d) (net.more e.1 d)) pool

-- the candidates of a departure event: the empty label, and each entry of a duty in the window
abbrev pub FromFronts : {N V W G X : Type 0} → Network N V W G X → (N → List (V × W)) → G → V
    → W → Type 0
FromFronts {N} {V} net fronts g v w =
    ((w ≡ net.none) × (net.idle g ≡ Some v))
    ⊎ ((e : N) × (u : V) × Member net.known e × (net.window (net.arrives e) g ≡ true)
    × Member (fronts e) (u, w) × (v ≡ net.wait u (net.arrives e) g))

-- the same from arrival pools
abbrev pub FromPools : {N V W G X : Type 0} → Network N V W G X → (X → List (V × W)) → G → V → W
    → Type 0
FromPools {N} {V} {W} {G} {X} net arrivals g v w =
    ((w ≡ net.none) × (net.idle g ≡ Some v))
    ⊎ ((x : X) × (u : V) × (net.window x g ≡ true) × Member (arrivals x) (u, w)
    × (v ≡ net.wait u x g))

-- the candidates of an arrival event: each entry of a duty that arrives then
abbrev pub Arriving : {N V W G X : Type 0} → Network N V W G X → (N → List (V × W)) → X → V → W
    → Type 0
Arriving {N} net fronts x u w = (e : N) × Member net.known e × (net.arrives e ≡ x)
    × Member (fronts e) (u, w)

-- departures in order, by number: the fronts that the pools so far show
abbrev pub Views : {N V W X : Type 0} → Network N V W ℕ X → List (List (V × W)) → N → List (V × W)
Views net pools d = view net d (get_or pools (net.leaves d) [])

-- after the departures before i: their pools, and the arrivals whose pools are made. From each duty
-- that arrives there nothing more comes, and no departure so far waits on a duty that leaves later
pub record Swept {N V W X : Type 0} (net : Network N V W ℕ X) (le : V → V → Bool)
    (wle : W → W → Bool) (i : ℕ) (pools : List (List (V × W))) (IsMade : X → Type 0)
    (arrivals : X → List (V × W)) : Type 0 where
  pub long : length pools ≡ i
  pub sealed : (x : X) → IsMade x → (e : N) → Member net.known e → net.arrives e ≡ x
      → net.leaves e < i
  pub arrived : (x : X) → IsMade x → IsLocal le wle (Arriving net (Views net pools) x) (arrivals x)
  pub before : (g : ℕ) → g < i → (e : N) → Member net.known e
      → net.window (net.arrives e) g ≡ true → net.leaves e < i
  pub pooled : (g : ℕ) → g < i → IsLocal le wle (FromFronts net (Views net pools) g)
      (get_or pools g [])
