use Rattle.std.proofs.Common.{◌≡◌, length}
use Rattle.crew_cells.specs.Machinery.Addresses.{AreAddressed}
use Rattle.crew_cells.proofs.cells.OnceCells.new.Given as goal

abbrev pub invariant-loop-number : goal.invariant-loop-number
invariant-loop-number g l = (length l.slots.items ≡ l.number) × AreAddressed l.of.of l.slots.items
