use Rattle.crew_numbers.specs.Machinery.Taken.{AreTaken}
use Rattle.crew_numbers.proofs.taking.take_all.Given as goal

-- each duty so far has its number
abbrev pub invariant-loop-rank : goal.invariant-loop-rank
invariant-loop-rank l = AreTaken l.kept l.fn.keys l.rank l.numbers.items l.keys
