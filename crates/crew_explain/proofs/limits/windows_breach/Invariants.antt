use Rattle.std.proofs.Common.{◌≡◌, ◌+◌, drop}
use Rattle.crew_explain.specs.Rules.{first_of, windows}
use Rattle.crew_explain.proofs.limits.windows_breach.Given as goal

abbrev pub invariant-loop-duty : goal.invariant-loop-duty
invariant-loop-duty l = record {
  rest : first_of (windows l.fn.settings l.fn.duties l.place (drop l.duty-index l.duties)) ≡ first_of (windows l.fn.settings l.fn.duties 1 l.fn.duties);
  place : l.place ≡ l.duty-index + 1;
}
