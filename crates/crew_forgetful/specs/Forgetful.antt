-- Labels whose values have a part that they may forget: dominance (Irnich and Desaulniers,
-- "Shortest Path Problems with Resource Constraints", 2005) where an extension may make two values
-- one. Two values may have the same sums, and that is never forgotten: of two values, one at most
-- the other, those whose sums differ keep sums that differ.
use Rattle.std.specs.Prelude.{◌≡◌, Bool, true, not, ◌&&◌, ◌||◌, List, Option, Some}
use Rattle.crew_resource.specs.Members.{Member}

-- what lies between values with the same sums has them too, and the stages keep the order. Only
-- sums that differ stay apart: of two values with the same sums the stages may make one, and two
-- values that neither is at most may come to stand in order
pub record Forgetful {N V G X : Type 0} (le same : V → V → Bool) (wait : V → X → G → V)
    (board : V → N → Option V) : Type 0 where
  pub same_itself : (a : V) → same a a ≡ true
  pub same_between : (a b c : V) → le a b ≡ true → le b c ≡ true → same a c ≡ true
      → (same a b ≡ true) × (same b c ≡ true)
  pub wait_monotone : (a b : V) (x : X) (g : G) → le a b ≡ true
      → le (wait a x g) (wait b x g) ≡ true
  pub wait_keeps : (a b : V) (x : X) (g : G) → le a b ≡ true
      → same (wait a x g) (wait b x g) ≡ true → same a b ≡ true
  pub board_monotone : (a b c : V) (d : N) → le a b ≡ true → board b d ≡ Some c
      → (z : V) × (board a d ≡ Some z) × (le z c ≡ true)
  pub board_keeps : (a b y z : V) (d : N) → le a b ≡ true → board a d ≡ Some y
      → board b d ≡ Some z → same y z ≡ true → same a b ≡ true

-- the label (v, w) may stand for the label (x, y) at an event: its value is at most the other's,
-- and its walk too unless the sums differ
abbrev pub StandsFor : {V W : Type 0} → (V → V → Bool) → (V → V → Bool) → (W → W → Bool) → V → W
    → V → W → Type 0
StandsFor le same wle v w x y = (le v x ≡ true) × (same v x ≡ true → wle w y ≡ true)

-- the test of it
abbrev pub stands : {V W : Type 0} → (V → V → Bool) → (V → V → Bool) → (W → W → Bool) → V → W → V
    → W → Bool
stands le same wle v w x y = le v x && (not (same v x) || wle w y)

-- each part is a candidate, and for each candidate a part may stand
pub record Covers {V W : Type 0} (le same : V → V → Bool) (wle : W → W → Bool)
    (Part Candidate : V → W → Type 0) : Type 0 where
  pub part : (v : V) (w : W) → Part v w → Candidate v w
  pub under : (x : V) (y : W) → Candidate x y → (v : V) × (w : W) × Part v w
      × StandsFor le same wle v w x y

-- the entries are those candidates for which no other may stand
pub record IsPool {V W : Type 0} (le same : V → V → Bool) (wle : W → W → Bool)
    (Candidate : V → W → Type 0) (entries : List (V × W)) : Type 0 where
  pub among : (v : V) (w : W) → Member entries (v, w) → Candidate v w
  pub covers : (x : V) (y : W) → Candidate x y → (v : V) × (w : W) × Member entries (v, w)
      × StandsFor le same wle v w x y
  pub alone : (v : V) (w : W) (x : V) (y : W) → Member entries (v, w) → Member entries (x, y)
      → StandsFor le same wle v w x y → (v ≡ x) × (w ≡ y)
