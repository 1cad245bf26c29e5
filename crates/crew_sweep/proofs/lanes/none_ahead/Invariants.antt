use Rattle.std.proofs.Common.{Some}
use Rattle.crew_resource.specs.Members.{Member}
use Rattle.crew_sweep.specs.declared.windows.Waiting.{Waiting}
use Rattle.crew_sweep.proofs.lanes.none_ahead.Given as goal

abbrev pub invariant-loop : goal.invariant-loop
invariant-loop l = (w : Waiting) → Member l.ahead.items (Some w) → ⊥
