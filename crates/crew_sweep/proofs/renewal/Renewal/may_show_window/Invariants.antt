use Rattle.std.proofs.Common.{◌≡◌}
use Rattle.crew_sweep.specs.Machinery.Beside.{StandsBeside}
use Rattle.crew_sweep.proofs.renewal.Renewal.may_show_window.Given as goal

-- it stands as it stood, but for what was made
abbrev pub invariant-loop-offset : goal.invariant-loop-offset
invariant-loop-offset l = StandsBeside l.earlier l.ground l.self × (l.self.passing.passed ≡ l.fn.self.passing.passed)
