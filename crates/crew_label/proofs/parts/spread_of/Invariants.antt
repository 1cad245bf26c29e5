use Rattle.std.proofs.Common.{length, ◌-◌}
use Rattle.crew_label.proofs.parts.spread_of.Given as goal

abbrev pub decreases-loop-at : goal.decreases-loop-at
decreases-loop-at g l = length l.places - l.at
