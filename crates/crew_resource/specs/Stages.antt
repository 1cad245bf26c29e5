-- A step in two stages: waiting from one item's arrival to a departure, and boarding an item there.
use Rattle.std.specs.Prelude.{◌≡◌, ℕ, suc, ◌≤◌, Bool, true, Option, Some, ℤ, pos, ◌+ℤ◌, ◌≤ℤ◌}
use Rattle.std.specs.declared.cmp.Ordering.{Ordering}
use Rattle.crew_resource.specs.Machinery.Sum.{capped, LiesWithin}

-- a step is a wait and a boarding, and both keep the order
pub record StagedLaws {V I X G : Type 0} (opens : I → Option V) (extends : V → I → I → Option V)
    (below : V → V → Bool) (arrives : I → X) (leaves : I → G) (idle : G → V)
    (wait : V → X → G → V) (board : V → I → Option V) : Type 0 where
  pub opening : (i : I) → opens i ≡ board (idle (leaves i)) i
  pub extension : (v : V) (last next : I)
      → extends v last next ≡ board (wait v (arrives last) (leaves next)) next
  pub wait_monotone : (a b : V) (x : X) (g : G) → below a b ≡ true
      → below (wait a x g) (wait b x g) ≡ true
  pub board_monotone : (a b c : V) (i : I) → below a b ≡ true → board b i ≡ Some c
      → (z : V) × (board a i ≡ Some z) × (below z c ≡ true)

-- both stages shift values: they make no two values one, reflect the order, and keep the listing
pub record ShiftLaws {V I X G : Type 0} (cmp : V → V → Ordering) (below : V → V → Bool)
    (wait : V → X → G → V) (board : V → I → Option V) : Type 0 where
  pub wait_strict : (a b : V) (x : X) (g : G) → wait a x g ≡ wait b x g → a ≡ b
  pub wait_reflects : (a b : V) (x : X) (g : G) → below (wait a x g) (wait b x g) ≡ true
      → below a b ≡ true
  pub wait_listed : (a b : V) (x : X) (g : G) → cmp (wait a x g) (wait b x g) ≡ cmp a b
  pub board_reflects : (a b y z : V) (i : I) → board a i ≡ Some y → board b i ≡ Some z
      → below y z ≡ true → below a b ≡ true
  pub board_listed : (a b y z : V) (i : I) → board a i ≡ Some y → board b i ≡ Some z
      → cmp y z ≡ cmp a b

-- the value tells the number of items, and nothing boards beyond the most
pub record CountingLaws {V I X G : Type 0} (count : V → ℤ) (most : ℕ) (idle : G → V)
    (wait : V → X → G → V) (board : V → I → Option V) : Type 0 where
  pub none_yet : (g : G) → count (idle g) ≡ pos 0
  pub none_more : (v : V) (x : X) (g : G) → count (wait v x g) ≡ count v
  pub one_more : (v z : V) (i : I) → board v i ≡ Some z → count z ≡ count v +ℤ pos 1
  pub ends : (v z : V) (i : I) → board v i ≡ Some z → count z ≤ℤ pos most

-- `ready n v`, `arrived n v`: v is within the bound for a list of n items, at a departure after it
-- and at its last arrival. The stages keep the bound, and within it each call may be made, where
-- sums over that many items fit
pub record BoundLaws {V I X G : Type 0} (is_sound : I → Type 0) (may_begin : G → Type 0)
    (may_follow : X → G → Type 0) (arrives : I → X) (leaves : I → G)
    (idle : G → V) (wait : V → X → G → V) (board : V → I → Option V)
    (can_start : I → Type 0) (can_extend : V → I → I → Type 0) (can_idle : G → Type 0)
    (can_wait : V → X → G → Type 0) (can_board : V → I → Type 0)
    (fits : ℕ → Type 0) (ready arrived : ℕ → V → Type 0) : Type 0 where
  pub idle_ready : (g : G) → may_begin g → ready 0 (idle g)
  pub wait_ready : (n : ℕ) (v : V) (x : X) (g : G) → may_follow x g → arrived n v
      → ready n (wait v x g)
  pub board_arrived : (n : ℕ) (v z : V) (i : I) → is_sound i → ready n v → board v i ≡ Some z
      → arrived (suc n) z
  pub fewer : (n k : ℕ) → k ≤ n → fits n → fits k
  pub starts : (i : I) → is_sound i → may_begin (leaves i) → fits 1 → can_start i
  pub extends : (n : ℕ) (v : V) (last next : I) → is_sound last → is_sound next
      → may_follow (arrives last) (leaves next) → fits (suc n) → arrived n v
      → can_extend v last next
  pub idles : (g : G) → may_begin g → fits 1 → can_idle g
  pub waits : (n : ℕ) (v : V) (x : X) (g : G) → may_follow x g → fits (suc n) → arrived n v
      → can_wait v x g
  pub boards : (n : ℕ) (v : V) (i : I) → is_sound i → fits (suc n) → ready n v → can_board v i

-- an amount that is added in stages: what each adds lies within a share
pub record AmountLaws {I X G : Type 0} (is_sound : I → Type 0) (may_begin : G → Type 0)
    (may_follow : X → G → Type 0) (idle : G → ℤ) (wait : X → G → ℤ) (own : I → ℤ)
    (share : ℕ) : Type 0 where
  pub idle_share : (g : G) → may_begin g → LiesWithin share (idle g)
  pub wait_share : (x : X) (g : G) → may_follow x g → LiesWithin share (wait x g)
  pub own_share : (i : I) → is_sound i → LiesWithin share (own i)

-- each stage of a sum adds a number, and the cap is looked at on boarding
abbrev pub shifted : {X G : Type 0} → (X → G → ℤ) → ℤ → X → G → ℤ
shifted add v x g = v +ℤ add x g

abbrev pub boarded : {I : Type 0} → Option ℤ → (I → ℤ) → ℤ → I → Option ℤ
boarded cap add v i = capped cap (v +ℤ add i)
