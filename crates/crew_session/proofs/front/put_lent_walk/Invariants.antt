use Rattle.std.proofs.Common.{◌≡◌, ◌++◌, drop, map}
use Rattle.crew_session.specs.Lines.{after_first, key_text, walk_text}
use Rattle.crew_session.proofs.front.put_lent_walk.Given as goal

abbrev pub invariant-loop-place : goal.invariant-loop-place
invariant-loop-place l = l.line.items ++ after_first 32 (map key_text (drop l.place l.walk)) ≡ l.fn.line.items ++ walk_text l.walk
