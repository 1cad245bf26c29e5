-- Rules that allow one value a cell.
use Rattle.std.specs.Prelude.{◌≡◌, ℕ}

-- what holds in a cell is what a function of the basis and the cell's number gives
abbrev pub IsFunctional : {B T : Type 0} → (B → ℕ → T → Type 0) → (B → ℕ → T) → Type 0
IsFunctional {B} {T} holds value_at = (basis : B) (number : ℕ) (value : T) → holds basis number value → value ≡ value_at basis number
