use Rattle.crew_carry.proofs.Standing.{AreTold}
use Rattle.crew_carry.proofs.places.missing_of.Given as goal

abbrev pub invariant-loop-walk : goal.invariant-loop-walk
invariant-loop-walk l = AreTold l.twins l.from l.walk l.lacks.items l.missing.items
