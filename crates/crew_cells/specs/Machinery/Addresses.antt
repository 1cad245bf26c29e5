-- How the slots of a table are tagged, and which tokens are of them.
use Rattle.std.specs.Prelude.{◌≡◌, ℕ, ◌<◌, List, [], ◌∷◌, length, slice_index_or}
use Rattle.boxcar.specs.Slot.{Named}

-- the tag of slot j is the name of the basis and j
abbrev pub AreAddressed : ℕ → List Named → Type 0
AreAddressed name slots = (j : ℕ) (d : Named) → j < length slots → (slice_index_or slots j d).tag ≡ name ∷ j ∷ []

-- each token is of the slot at its place
abbrev pub AreOf : {W : Type 0} → List W → List Named → (W → ℕ) → Type 0
AreOf {W} tokens slots name_of = (j : ℕ) (w : W) (d : Named) → j < length tokens → name_of (slice_index_or tokens j w) ≡ (slice_index_or slots j d).id
