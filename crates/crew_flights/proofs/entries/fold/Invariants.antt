use Rattle.std.proofs.Common.{◌≡◌, take}
use Rattle.crew_flights.specs.Fold.{HasTaken, fold_of}
use Rattle.crew_flights.proofs.entries.fold.Given as goal

abbrev pub invariant-loop-entry : goal.invariant-loop-entry
invariant-loop-entry l = record { taken : HasTaken (take l.entry-index l.entries) l.fold; verdicts : (fold_of (take l.entry-index l.entries)).1 ≡ l.verdicts.items }
