use Rattle.std.proofs.Common.{◌≡◌, ◌≤◌}
use Rattle.crew_sweep.specs.Machinery.Parts.{IsPart}
use Rattle.crew_sweep.proofs.slide.Slide.go_on.Given as goal

-- so far
abbrev pub invariant-loop-place : goal.invariant-loop-place
invariant-loop-place l =
    IsPart l.walks l.held l.fn.self.middle l.place l.self.after
    × (l.fn.self.end ≤ l.place)
    × (l.self.before ≡ l.fn.self.before)
    × (l.self.middle ≡ l.fn.self.middle)
