use Rattle.crew_lines.specs.Known.{PassesWithin, ahead}
use Rattle.crew_lines.proofs.search.pass_line.Given as goal

-- nothing is passed but some of the line
abbrev pub invariant-loop : goal.invariant-loop
invariant-loop g l = PassesWithin (ahead g.R.Read.remaining l.fn.held l.fn.reader) (ahead g.R.Read.remaining l.held l.reader)
