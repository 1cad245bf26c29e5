use Rattle.std.proofs.Common.{◌≡◌, ◌++◌, drop, map}
use Rattle.crew_session.specs.Lines.{after_first, key_text, walk_text}
use Rattle.crew_session.proofs.lines.put_walk.Given as goal

abbrev pub invariant-loop-key : goal.invariant-loop-key
invariant-loop-key l = l.line.items ++ after_first 32 (map key_text (drop l.key-index l.others)) ≡ l.fn.line.items ++ walk_text l.walk
