use Rattle.std.proofs.Common.{◌≡◌, ◌++◌, drop}
use Rattle.crew_serve.specs.Clients.{told_verdicts}
use Rattle.crew_version.specs.Versions.{verdicts_of}
use Rattle.crew_serve.proofs.desk.put_verdicts.Given as goal

abbrev pub invariant-loop-edit : goal.invariant-loop-edit
invariant-loop-edit l = l.text.items ++ told_verdicts (drop l.edit-index l.waiting) (verdicts_of l.version.entries) ≡ l.fn.text.items ++ told_verdicts l.waiting (verdicts_of l.version.entries)
