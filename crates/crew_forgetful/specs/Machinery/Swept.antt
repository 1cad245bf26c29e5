-- What a pass over the events has made so far, departure by departure.
use Rattle.std.specs.Prelude.{◌≡◌, ℕ, ◌<◌, Bool, true, length, get_or, List, [], Some}
use Rattle.crew_resource.specs.Members.{Member}
use Rattle.crew_resource.specs.Labels.{IsLocal}
use Rattle.crew_resource.specs.Events.{Network, FromFronts, Arriving}
use Rattle.crew_forgetful.specs.Forgetful.{Covers}
use Rattle.crew_forgetful.specs.Sweeps.{Shown}

-- the labels of an event that board d, each with the longer walk
abbrev pub Boarded : {N V W G X : Type 0} → Network N V W G X → (V → W → Type 0) → N → V → W
    → Type 0
Boarded {N} {V} {W} net Label d z y = (v : V) × (w : W) × Label v w × (net.board v d ≡ Some z)
    × (y ≡ net.more w d)

-- after the departures before i: their pools, the fronts of their duties, and the arrivals whose
-- pools are made. From each duty that arrives there nothing more comes, and no departure so far
-- waits on a duty that leaves later
pub record ForgetfulSwept {N V W X : Type 0} (net : Network N V W ℕ X) (le same : V → V → Bool)
    (wle : W → W → Bool) (i : ℕ) (pools : List (List (V × W)))
    (fronts : N → List (V × W)) (IsMade : X → Type 0) (arrivals : X → List (V × W)) : Type 0 where
  pub long : length pools ≡ i
  pub sealed : (x : X) → IsMade x → (e : N) → Member net.known e → net.arrives e ≡ x
      → net.leaves e < i
  pub arrived : (x : X) → IsMade x
      → Covers le same wle (λ v w. Member (arrivals x) (v, w)) (Arriving net fronts x)
  pub before : (g : ℕ) → g < i → (e : N) → Member net.known e
      → net.window (net.arrives e) g ≡ true → net.leaves e < i
  pub pooled : (g : ℕ) → g < i
      → Covers le same wle (λ v w. Member (get_or pools g []) (v, w)) (FromFronts net fronts g)
  pub filtered : (d : N) → Member net.known d → net.leaves d < i
      → IsLocal le wle (Shown net (get_or pools (net.leaves d) []) d) (fronts d)
