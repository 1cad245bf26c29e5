use Rattle.std.proofs.Common.{◌≡◌, take}
use Rattle.std.specs.Prelude.{flat_map}
use Rattle.crew_net.specs.Machinery.Runs.{run_keys}
use Rattle.crew_net.proofs.runs.gathered.Given as goal

abbrev pub invariant-loop-run : goal.invariant-loop-run
invariant-loop-run l = l.gathered.items ≡ flat_map (run_keys l.keys) (take l.run-index l.run-items)
