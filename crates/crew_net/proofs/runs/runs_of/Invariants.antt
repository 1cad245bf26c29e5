use Rattle.std.proofs.Common.{◌≡◌, ◌≤◌, length, take}
use Rattle.std.specs.Prelude.{flat_map}
use Rattle.crew_net.specs.Machinery.Runs.{IsRunOf, run_keys}
use Rattle.crew_resource.specs.Members.{Each}
use Rattle.crew_net.proofs.runs.runs_of.Given as goal

-- the runs so far hold all keys up to where the next one begins
abbrev pub invariant-loop-place : goal.invariant-loop-place
invariant-loop-place l =
    (flat_map (run_keys l.keys) l.runs.items ≡ take l.from l.keys) × Each (IsRunOf (length l.keys)) l.runs.items × (l.from ≤ length l.keys) × (l.from ≤ l.place)
