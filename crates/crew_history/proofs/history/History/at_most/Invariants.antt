use Rattle.std.proofs.Common.{◌≡◌, true, take}
use Rattle.crew_history.specs.Histories.{is_no_more_from}
use Rattle.crew_history.specs.HistoryValues.{periods_of}
use Rattle.crew_history.proofs.history.History.at_most.Given as goal

abbrev pub invariant-loop-i : goal.invariant-loop-i
invariant-loop-i l = is_no_more_from (periods_of l.self) (periods_of l.other) (take l.i l.self.periods) ≡ true
