use Rattle.std.proofs.Common.{◌≡◌, length}
use Rattle.crew_cells.specs.Machinery.Addresses.{AreOf}
use Rattle.crew_cells.proofs.cells.OnceCells.full.Given as goal

abbrev pub invariant-loop-number : goal.invariant-loop-number
invariant-loop-number g l = (length l.written.items ≡ l.number) × AreOf l.written.items l.self-inside.slots.items (λ w. w.of)
