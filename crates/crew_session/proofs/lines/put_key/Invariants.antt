use Rattle.std.proofs.Common.{◌≡◌, ◌++◌, drop, map}
use Rattle.crew_session.specs.Lines.{after_first, key_text, leg_text}
use Rattle.crew_session.proofs.lines.put_key.Given as goal

abbrev pub invariant-loop-leg : goal.invariant-loop-leg
invariant-loop-leg l = l.line.items ++ after_first 45 (map leg_text (drop l.leg-index l.others)) ≡ l.fn.line.items ++ key_text l.key
