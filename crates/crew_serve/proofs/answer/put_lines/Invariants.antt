use Rattle.std.proofs.Common.{◌≡◌, ◌++◌, drop}
use Rattle.std.specs.List.{flat_map}
use Rattle.crew_serve.specs.Answers.{lines_of, named_line}
use Rattle.crew_serve.specs.Machinery.Layouts.{laid}
use Rattle.crew_serve.proofs.answer.put_lines.Given as goal

abbrev pub invariant-loop-byte : goal.invariant-loop-byte
invariant-loop-byte l = l.out.items ++ laid l.starts l.name (lines_of (drop l.byte-index l.text)) ≡ l.fn.out.items ++ flat_map (named_line l.name) (lines_of l.text)
