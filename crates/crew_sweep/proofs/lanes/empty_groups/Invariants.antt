use Rattle.std.proofs.Common.{◌≡◌, []}
use Rattle.std.specs.Global.{Global}
use Rattle.std.specs.Prelude.{Vec}
use Rattle.crew_resource.specs.Members.{Member}
use Rattle.crew_sweep.specs.declared.lanes.Lane.{Lane}
use Rattle.crew_sweep.proofs.lanes.empty_groups.Given as goal

abbrev pub invariant-loop : goal.invariant-loop
invariant-loop l = (group : Vec Lane Global) → Member l.groups.items group → group.items ≡ []
