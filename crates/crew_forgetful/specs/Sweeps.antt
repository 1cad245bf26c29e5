-- A pass over the events of a network of items, by pools that cover and fronts that are filtered.
use Rattle.std.specs.Prelude.{◌≡◌, ℕ, ◌<◌, Bool, true, cond, List, [], ◌∷◌, ◌++◌, Option, Some, None, ℤ}
use Rattle.std.specs.Cmp.{IsTotalOrder}
use Rattle.std.specs.Cmp.Lexicographic.{slice_cmp}
use Rattle.std.specs.Ordering.{is_le}
use Rattle.std.specs.declared.cmp.Ordering.{Ordering}
use Rattle.std.specs.declared.cmp.Ordering.TheVariants.{Equal}
use Rattle.crew_resource.specs.Members.{Member}
use Rattle.crew_resource.specs.Labels.{IsFront, IsLocal}
use Rattle.crew_resource.specs.Events.{Network, FromPools, Arriving, view}
use Rattle.crew_resource.specs.Machinery.Paths.{PathTo, CleanPathTo}
use Rattle.crew_forgetful.specs.Forgetful.{Covers}

-- each entry of the pool that d leaves from, boarded
abbrev pub Shown : {N V W G X : Type 0} → Network N V W G X → List (V × W) → N → V → W → Type 0
Shown net pool d v w = Member (view net d pool) (v, w)

-- items with their keys, in whose order walks are compared; which may be first, and which may stand
-- just before which, by their events: a departure waits on the arrivals of its window
pub record Schedule (I X G K : Type 0) : Type 0 where
  pub known : List I
  pub key : I → K
  pub cmp : K → K → Ordering
  pub may_start : I → Bool
  pub may_follow : I → I → Bool
  pub window : X → G → Bool
  pub at_base : G → Bool
  -- rises from item to item
  pub rank : I → ℕ

pub record IsSchedule {I X G K : Type 0} (arrives : I → X) (leaves : I → G)
    (s : Schedule I X G K) : Type 0 where
  pub total : IsTotalOrder s.cmp
  pub exact : (a b : K) → s.cmp a b ≡ Equal → a ≡ b
  pub starts : (d : I) → s.may_start d ≡ s.at_base (leaves d)
  pub follows : (e d : I) → s.may_follow e d ≡ s.window (arrives e) (leaves d)
  pub rises : (e d : I) → Member s.known e → s.may_follow e d ≡ true → s.rank e < s.rank d

-- walks are lists of keys, compared key by key, a proper beginning first
abbrev pub walk_at_most : {K : Type 0} → (K → K → Ordering) → List K → List K → Bool
walk_at_most cmp w y = is_le (slice_cmp cmp w y)

-- the empty label stands at each departure of the base
abbrev pub network_of : {V I X G K : Type 0} → Schedule I X G K → (I → G) → (I → X) → (G → V)
    → (V → X → G → V) → (V → I → Option V) → Network I V (List K) G X
network_of s leaves arrives idle wait board = record {
  known = s.known;
  leaves = leaves;
  arrives = arrives;
  window = s.window;
  none = [];
  more = λ w d. w ++ s.key d ∷ [];
  idle = λ g. cond (s.at_base g) (Some (idle g)) None;
  wait = wait;
  board = board;
}

-- each departure's pool covers what the pools of its arrivals leave there, as these stand when it
-- comes; each of them covers what the fronts of the items leave that arrive there; and each front
-- is what dominance leaves of the labels that board
pub record IsCoveredPass {V I X G K : Type 0} (net : Network I V (List K) G X)
    (le same : V → V → Bool) (wle : List K → List K → Bool)
    (pools : G → List (V × List K)) (arrivals : G → X → List (V × List K))
    (fronts : I → List (V × List K)) : Type 0 where
  pub pooled : (d : I) → Member net.known d
      → Covers le same wle (λ v w. Member (pools (net.leaves d)) (v, w))
      (FromPools net (arrivals (net.leaves d)) (net.leaves d))
  pub arrived : (d : I) (x : X) → Member net.known d → net.window x (net.leaves d) ≡ true
      → Covers le same wle (λ v w. Member (arrivals (net.leaves d) x) (v, w))
      (Arriving net fronts x)
  pub filtered : (d : I) → Member net.known d
      → IsLocal le wle (Shown net (pools (net.leaves d)) d) (fronts d)

-- the entries are those of the front of d: of all legal lists of items that end with d
abbrev pub IsFrontOf : {V I X G K : Type 0} → Schedule I X G K → (V → V → Bool)
    → (List I → Option V) → I → List (V × List K) → Type 0
IsFrontOf s le value_of d entries =
    IsFront le (walk_at_most s.cmp) (PathTo s.key s.known s.may_start s.may_follow value_of d)
    (CleanPathTo le s.key s.known s.may_start s.may_follow value_of d) entries

-- values with the same sums tell one number of items
abbrev pub TellCount : {V : Type 0} → (V → V → Bool) → (V → ℤ) → Type 0
TellCount {V} same count = (a b : V) → same a b ≡ true → count a ≡ count b
