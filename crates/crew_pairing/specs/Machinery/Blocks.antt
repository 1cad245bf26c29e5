-- Duties in blocks.
use Rattle.std.specs.Prelude.{◌≡◌, ◌≤◌, ◌<◌, ◌+◌, ◌-◌, ℕ, List, Some, drop, length, slice_get, take}
use Rattle.std.specs.List.{flat_map}
use Rattle.std.specs.Arc.{arc_value}
use Rattle.crew_pairing.specs.declared.duty.Duty.{Duty}
use Rattle.crew_pairing.specs.declared.duties.Block.{Block}

-- the duties of a block
abbrev pub block_duties : Block → List Duty
block_duties block = (arc_value block.duties).items

-- the duties of all blocks, in order
abbrev pub all_in : List Block → List Duty
all_in blocks = flat_map block_duties blocks

-- the duties between two places
abbrev pub part_of : List Duty → ℕ → ℕ → List Duty
part_of duties from to = take (to - from) (drop from duties)

-- the duty at a place stands in this block
abbrev pub StandsIn : List Block → ℕ → Block → Type 0
StandsIn blocks place block = (block.start ≤ place) × (place < block.start + length (block_duties block))
    × (block.start + length (block_duties block) ≤ length (all_in blocks))
    × (part_of (all_in blocks) block.start (block.start + length (block_duties block)) ≡ block_duties block)

-- of each duty, its block is told
abbrev pub AreLaid : List Block → List ℕ → Type 0
AreLaid blocks places = (length places ≡ length (all_in blocks)) × (length blocks ≤ length places)
    × ((place at : ℕ) → slice_get places place ≡ Some at
    → (block : Block) × (slice_get blocks at ≡ Some block) × StandsIn blocks place block)
