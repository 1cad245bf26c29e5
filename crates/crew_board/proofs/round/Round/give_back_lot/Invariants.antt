use Rattle.std.proofs.Common.{◌≡◌, ◌≤◌, Bool, List, take}
use Rattle.crew_board.specs.Lots.{freed_of}
use Rattle.crew_board.specs.Machinery.Turns.{TakesBackEach}
use Rattle.crew_board.proofs.round.Round.give_back_lot.Given as goal

-- the jobs so far are taken back, and counted
abbrev pub invariant-loop-job : goal.invariant-loop-job
invariant-loop-job l = (l.self.ground ≡ l.initial.self.ground)
    × (l.count ≤ l.job-index)
    × ((freed : List Bool) × TakesBackEach l.initial.self (take l.job-index l.job-items) freed l.self × (l.count ≡ freed_of freed))
