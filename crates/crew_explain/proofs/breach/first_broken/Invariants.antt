use Rattle.std.proofs.Common.{◌≡◌, drop}
use Rattle.crew_explain.specs.Rules.{first_of}
use Rattle.crew_explain.proofs.breach.first_broken.Given as goal

abbrev pub invariant-loop-holds : goal.invariant-loop-holds
invariant-loop-holds l = first_of (drop l.holds-index l.rules) ≡ first_of l.rules
