use Rattle.std.proofs.Common.{ℕ, ◌<◌}
use Rattle.crew_lines.specs.Names.{bytes_of_name}
use Rattle.crew_serve.specs.Rosters.{HasAt}
use Rattle.crew_serve.proofs.roster.Roster.find.Given as goal

abbrev pub invariant-loop-desk : goal.invariant-loop-desk
invariant-loop-desk l = (k : ℕ) → k < l.desk → ¬ (HasAt l.self k (bytes_of_name l.name))
