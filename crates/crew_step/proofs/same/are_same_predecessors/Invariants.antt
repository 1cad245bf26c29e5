use Rattle.std.proofs.Common.{◌≡◌, take}
use Rattle.crew_step.specs.Machinery.Feeds.{feed_of}
use Rattle.crew_step.proofs.same.are_same_predecessors.Given as goal

abbrev pub invariant-loop-place : goal.invariant-loop-place
invariant-loop-place l = feed_of (take l.place l.a) ≡ feed_of (take l.place l.b)
