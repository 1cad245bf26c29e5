use Rattle.std.proofs.Common.{◌≡◌, ◌++◌, List, take}
use Rattle.crew_flights.specs.Fold.{HasTaken}
use Rattle.crew_flights.specs.declared.entries.Entry.{Entry}
use Rattle.crew_version.specs.Versions.{verdicts_of}
use Rattle.crew_version.proofs.draft.fold_on.Given as goal

abbrev pub invariant-loop-entry : goal.invariant-loop-entry
invariant-loop-entry l =
    (earlier : List Entry) → HasTaken earlier l.fn.fold
    → HasTaken (earlier ++ take l.entry-index l.entries) l.fold × (verdicts_of (earlier ++ take l.entry-index l.entries) ≡ verdicts_of earlier ++ l.verdicts.items)
