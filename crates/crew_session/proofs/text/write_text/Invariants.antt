use Rattle.std.proofs.Common.{◌≡◌, ◌++◌, ℕ, List, length}
use Rattle.std.specs.Io.KnownBytes.{Appends}
use Rattle.crew_session.proofs.text.write_text.Given as goal

-- what is written is the text so far
abbrev pub invariant-loop-rest : goal.invariant-loop-rest
invariant-loop-rest g l = (part : List ℕ) × (l.fn.text ≡ part ++ l.rest) × Appends (g.W.Write.contents l.fn.writer) (g.W.Write.contents l.writer) part

abbrev pub decreases-loop-rest : goal.decreases-loop-rest
decreases-loop-rest g l = length l.rest
