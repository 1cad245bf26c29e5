use Rattle.crew_net.specs.Positions.{in_order}
use Rattle.crew_pass.specs.Machinery.Twins.{IsTwin}
use Rattle.crew_pass.proofs.Twinned.{AreSoFar}
use Rattle.crew_pass.proofs.twins.twins_in_order.Given as goal

abbrev pub invariant-loop-place : goal.invariant-loop-place
invariant-loop-place l = AreSoFar (IsTwin (in_order l.net) (in_order l.earlier)) l.place-index l.twins.items
