use Rattle.std.specs.Io.KnownBytes.{Keeps}
use Rattle.crew_lines.specs.Known.{ahead}
use Rattle.crew_lines.proofs.search.find_line.Given as goal

-- nothing is passed
abbrev pub invariant-loop : goal.invariant-loop
invariant-loop g l = Keeps (ahead g.R.Read.remaining l.fn.held l.fn.reader) (ahead g.R.Read.remaining l.held l.reader)
