-- Runs of keys that stand side by side.
use Rattle.std.specs.Prelude.{◌≤◌, ◌-◌, ℕ, List, take, drop}
use Rattle.crew_net.specs.declared.runs.Run.{Run}

-- the keys of a run
abbrev pub run_keys : List ℕ → Run → List ℕ
run_keys keys run = take (run.end - run.from) (drop run.from keys)

-- it lies among so many
pub record IsRunOf (count : ℕ) (run : Run) : Type 0 where
  pub ordered : run.from ≤ run.end
  pub within : run.end ≤ count
