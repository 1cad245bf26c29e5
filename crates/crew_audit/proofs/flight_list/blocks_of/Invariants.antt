use Rattle.crew_audit.specs.Machinery.Leaving.{AreBlocks}
use Rattle.crew_audit.proofs.flight_list.blocks_of.Given as goal

abbrev pub invariant-loop : goal.invariant-loop
invariant-loop l = AreBlocks l.flights l.blocks.items
