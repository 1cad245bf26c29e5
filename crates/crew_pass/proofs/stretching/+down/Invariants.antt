use Rattle.std.proofs.Common.{◌-◌}
use Rattle.crew_pass.proofs.stretching.+down.Given as goal

abbrev pub decreases-stretch_down : goal.decreases-stretch_down
decreases-stretch_down g l = l.middle - l.from
