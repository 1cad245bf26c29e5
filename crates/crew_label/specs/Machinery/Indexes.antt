-- Labels by their marks: blocks of entries, and groups of blocks.
use Rattle.std.specs.Prelude.{◌≡◌, Bool, true, false, ◌&&◌, ℕ, ◌+◌, List, [], ◌∷◌, Option, Some, None, ℤ, Vec, int_le, slice_get}
use Rattle.std.specs.Global.{Global}
use Rattle.std.specs.List.{list_any}
use Rattle.crew_resource.specs.Members.{Member}
use Rattle.crew_label.specs.Machinery.Marks.{are_at_most, mark_at}
use Rattle.crew_label.specs.Machinery.Rules.{same_by}
use Rattle.crew_label.specs.Pools.{stands_label}
use Rattle.crew_label.specs.declared.blocks.Block.{Block}
use Rattle.crew_label.specs.declared.blocks.Entry.{Entry}
use Rattle.crew_label.specs.declared.index.Group.{Group}
use Rattle.crew_label.specs.declared.label.Label.{Label}
use Rattle.crew_label.specs.declared.label.Link.{Link}
use Rattle.crew_label.specs.declared.parts.Cut.{Cut}
use Rattle.crew_label.specs.declared.seen.Seen.{Seen}
use Rattle.crew_label.specs.declared.stand.Rule.{Rule}

-- a block has the entry, and its least marks are at most the entry's
pub record IsHeld (blocks : List Block) (e : Entry) : Type 0 where
  pub block : Block
  pub among : Member blocks block
  pub below : are_at_most block.least e.marks ≡ true
  pub has : Member block.entries.items e

-- a group has such a block, and its least marks are at most the entry's
pub record IsGrouped (groups : List Group) (e : Entry) : Type 0 where
  pub group : Group
  pub among : Member groups group
  pub below : are_at_most group.least e.marks ≡ true
  pub held : IsHeld group.blocks.items e

-- an entry for each element, from a place on
abbrev pub entries_from : {X : Type 0} → (X → List ℤ) → ℕ → List X → List Entry
entries_from marks k [] = []
entries_from marks k (x ∷ xs) =
    record { marks = marks x; place = k } ∷ entries_from marks (k + 1) xs

-- what a test says of what stands at a place
abbrev pub passes : {X : Type 0} → (X → Bool) → Option X → Bool
passes test None = false
passes test (Some x) = test x

-- the mark at the cut of what stands at a place is at most the cut's middle
abbrev pub is_low : {V : Type 0} → List (Seen V) → Cut → ℕ → Bool
is_low list c place =
    passes (λ s. int_le (mark_at c.at s.marks.now) c.middle) (slice_get list place)

-- one of the parts has the place
abbrev pub IsPlaced : List (Vec ℕ Global) → ℕ → Type 0
IsPlaced parts place = (part : Vec ℕ Global) × Member parts part × Member part.items place

-- whether the label at a place may stand for a label
abbrev pub test_at : {V : Type 0} → (V → V → Bool) → (V → V → Bool) → (Link → List ℕ) → Rule
    → List (Seen V) → Label V → ℕ → Bool
test_at below same trail rule others label place =
    passes (λ s. stands_label below (same_by below same rule) trail s.label.now label)
    (slice_get others place)

-- what is found at marks of at most so much: by entries, blocks and groups
abbrev pub finds_entry : (ℕ → Bool) → List ℤ → Entry → Bool
finds_entry test most e = are_at_most e.marks most && test e.place

abbrev pub finds_block : (ℕ → Bool) → List ℤ → Block → Bool
finds_block test most b =
    are_at_most b.least most && list_any (finds_entry test most) b.entries.items

abbrev pub finds_group : (ℕ → Bool) → List ℤ → Group → Bool
finds_group test most g =
    are_at_most g.least most && list_any (finds_block test most) g.blocks.items
