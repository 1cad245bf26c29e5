use Rattle.std.proofs.Common.{◌≡◌, drop}
use Rattle.crew_explain.specs.Machinery.Firsts.{earliest}
use Rattle.crew_explain.proofs.breach.earliest.Given as goal

abbrev pub invariant-loop-breach : goal.invariant-loop-breach
invariant-loop-breach l = earliest (drop l.breach-index l.breaches) ≡ earliest l.breaches
