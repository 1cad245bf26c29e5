use Rattle.std.proofs.Common.{◌≡◌, true, take, Some}
use Rattle.std.specs.Prelude.{slice_get}
use Rattle.crew_resource.specs.Members.{Member}
use Rattle.crew_label.specs.declared.label.Label.{Label}
use Rattle.crew_label.proofs.aboard.run_len.Given as goal

abbrev pub invariant-loop-place : goal.invariant-loop-place
invariant-loop-place g l =
    (x m : Label g.row.R-Value.Denot) → slice_get l.labels 0 ≡ Some x → Member (take l.place l.labels) m → g.R.Forgets.same_sums x.value m.value ≡ true
