use Rattle.std.proofs.Common.{◌≡◌, ◌+◌, ◌≤◌, drop, length}
use Rattle.crew_serve.specs.Answers.{lines_of}
use Rattle.crew_serve.specs.Machinery.Layouts.{begin_in}
use Rattle.crew_serve.proofs.answer.count_lines.Given as goal

abbrev pub invariant-loop-byte : goal.invariant-loop-byte
invariant-loop-byte l = (l.count + begin_in l.starts (length (lines_of (drop l.byte-index l.text))) ≡ length (lines_of l.text)) × (l.count ≤ l.byte-index)
