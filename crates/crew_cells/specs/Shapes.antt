-- What a contract sees of a table of cells.
use Rattle.std.specs.Prelude.{ℕ}
use base.Stored.{Coded, coded×, coded_ℕ, coded_via}

-- what the values in the cells are made of, and how many cells there are
pub record CellsOver (B : Type 0) : Type 0 where
  pub basis : B
  pub count : ℕ

-- a table is stored as the pair of its fields
abbrev pub cells_code : {B : Type 0} → Coded B → Coded (CellsOver B)
cells_code {B} c = coded_via (coded× c coded_ℕ) (λ (t : CellsOver B). (t.basis, t.count)) (λ x y e i. record { basis = (e i).0; count = (e i).1 })
