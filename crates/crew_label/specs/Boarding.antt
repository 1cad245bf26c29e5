-- Labels after a stage: those of a pool that board an item, and labels that wait.
use Rattle.std.specs.Prelude.{◌≡◌, ℕ, ◌+◌, Bool, true, List, [], ◌∷◌, ◌++◌, Option, Some, None, slice_get}
use Rattle.crew_resource.specs.Members.{Member}
use Rattle.crew_label.specs.Walks.{walk_of}
use Rattle.crew_label.specs.declared.label.Label.{Label}
use Rattle.crew_label.specs.declared.label.Link.{Link}

-- a value, if there is one, at the end of a walk that ends with the link
abbrev pub linked : {V : Type 0} → Option V → Link → List (Label V)
linked None link = []
linked (Some v) link = record { value = v; before = Some link } ∷ []

-- the labels of a pool that board a duty by its number, from a place on, each with a link to where
-- it stood
abbrev pub boarded_from : {V : Type 0} → (V → Option V) → ℕ → ℕ → List (Label V) → List (Label V)
boarded_from board duty place [] = []
boarded_from board duty place (l ∷ ls) =
    linked (board l.value) (record { duty = duty; place = place })
    ++ boarded_from board duty (place + 1) ls

-- a label whose value has moved on
abbrev pub waited_label : {V : Type 0} → (V → V) → Label V → Label V
waited_label wait l = record { value = wait l.value; before = l.before }

-- the links of a duty, by its number, lead to the labels of a pool, by place; walks end with its rank
pub record LeadInto {V : Type 0} (leads : Link → Bool) (trail : Link → List ℕ) (duty rank : ℕ)
    (pool : List (Label V)) : Type 0 where
  pub there : (k : ℕ) (l : Label V) → slice_get pool k ≡ Some l
      → leads (record { duty = duty; place = k }) ≡ true
  pub walk : (k : ℕ) (l : Label V) → slice_get pool k ≡ Some l
      → trail (record { duty = duty; place = k }) ≡ walk_of trail l.before ++ rank ∷ []

-- each value is one that a rest goes by
abbrev pub AreRested : {V : Type 0} → (V → V) → List (Label V) → Type 0
AreRested {V} rested labels = (l : Label V) → Member labels l → (v : V) × (l.value ≡ rested v)
