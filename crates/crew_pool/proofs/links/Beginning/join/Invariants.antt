use Rattle.std.proofs.Common.{◌≡◌, take}
use Rattle.crew_pool.proofs.links.Beginning.join.Given as goal

abbrev pub invariant-loop-place : goal.invariant-loop-place
invariant-loop-place l = l.all.items ≡ take l.place l.self
