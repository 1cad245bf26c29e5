use Rattle.std.proofs.Common.{◌≡◌, take}
use Rattle.crew_label.specs.Boarding.{boarded_from}
use Rattle.crew_pass.proofs.boards.boarded.Given as goal

-- the labels so far
abbrev pub invariant-loop-place : goal.invariant-loop-place
invariant-loop-place g l = l.front.items ≡ boarded_from (λ v. g.R.Staged.boards l.resource v l.duty) l.fn.number 0 (take l.place l.labels)
