-- Two resources side by side: the value is the pair of both values.
use Rattle.std.specs.Prelude.{ℕ, Option, Some, None}

-- both values, or none
abbrev pub both : {A B : Type 0} → Option A → Option B → Option (A × B)
both None b = None
both (Some a) None = None
both (Some a) (Some b) = Some (a, b)

-- the pair of what each gives
abbrev pub both_extend : {A B I : Type 0} → (A → I → I → Option A) → (B → I → I → Option B)
    → A × B → I → I → Option (A × B)
both_extend f g v last next = both (f v.0 last next) (g v.1 last next)

abbrev pub both_wait : {A B X G : Type 0} → (A → X → G → A) → (B → X → G → B) → A × B → X → G
    → A × B
both_wait f h v x g = (f v.0 x g, h v.1 x g)

abbrev pub both_board : {A B I : Type 0} → (A → I → Option A) → (B → I → Option B) → A × B → I
    → Option (A × B)
both_board f h v i = both (f v.0 i) (h v.1 i)

-- the first side's, or else the second's
abbrev pub either_side : Option ℕ → Option ℕ → Option ℕ
either_side None b = b
either_side (Some a) b = Some a

-- of two numbers the one that belongs to that side
abbrev pub side_of : {C : Type 0} → Option ℕ → C → C → C
side_of None a b = b
side_of (Some m) a b = a
