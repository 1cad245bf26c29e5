use Rattle.crew_numbers.proofs.Keeping.{AreKeptSo, keys_of}
use Rattle.crew_numbers.proofs.kept.kept_numbers.Given as goal

abbrev pub invariant-loop-rank : goal.invariant-loop-rank
invariant-loop-rank l =
    AreKeptSo (keys_of l.old.duties) (keys_of l.new.duties) l.numbers l.rank l.kept.items
