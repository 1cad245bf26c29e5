-- The cells of a pass.
use Rattle.std.specs.Prelude.{◌≡◌, ℕ, IfSome, length}
use Rattle.crew_cells.specs.Shapes.{CellsOver}
use Rattle.crew_pass.specs.Machinery.Beside.{AreBeside}
use Rattle.crew_pass.specs.Machinery.Terms.{IsBasisOf}
use Rattle.crew_pass.specs.declared.cells.Cells.{Cells}
use Rattle.crew_pass.specs.declared.ground.Basis.{Basis}
use Rattle.crew_pass.specs.declared.ground.Ground.{Ground}

-- so many cells over what a pass goes by
pub record AreCellsOver {R : Type 0} (over : Ground R) (cells : CellsOver (Basis R)) (many : ℕ)
    : Type 0 where
  pub basis : IsBasisOf over cells.basis
  pub count : cells.count ≡ many

-- cells for all pools of a pass, and an earlier pass beside which it goes, if there is one
pub record AreCells {R V : Type 0} (over : Ground R) (cells : Cells R V) : Type 0 where
  pub beside : IfSome cells.beside (AreBeside over)
  pub departures : AreCellsOver over cells.departures (length over.net.now.by_report)
  pub arrivals : AreCellsOver over cells.arrivals (length over.net.now.arrivals)
  pub rested : AreCellsOver over cells.rested (length over.net.now.arrivals)
  pub fronts : AreCellsOver over cells.fronts (length over.net.now.duties)
  pub downs : AreCellsOver over cells.downs (length over.net.now.arrivals)
  pub ups : AreCellsOver over cells.ups (length over.net.now.arrivals)
