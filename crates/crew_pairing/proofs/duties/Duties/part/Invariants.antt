use Rattle.std.proofs.Common.{◌≡◌, ◌-◌, drop, take}
use Rattle.crew_pairing.proofs.duties.Duties.part.Given as goal

abbrev pub invariant-loop-place : goal.invariant-loop-place
invariant-loop-place l = l.copy.items ≡ take (l.place - l.from) (drop l.from l.self)
