use Rattle.crew_pass.specs.Machinery.Twins.{IsTwinByNumber}
use Rattle.crew_pass.proofs.Twinned.{AreSoFar}
use Rattle.crew_pass.proofs.twins.duty_twins.Given as goal

abbrev pub invariant-loop-rank : goal.invariant-loop-rank
invariant-loop-rank l =
    AreSoFar (IsTwinByNumber l.net.duties l.earlier.duties l.numbers l.ranks) l.rank l.twins.items
