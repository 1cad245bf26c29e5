use Rattle.crew_resource.specs.Members.{Each, Member}
use Rattle.crew_solve.proofs.Lent.{Entry}
use Rattle.crew_solve.proofs.same_front.are_entries_of.Given as goal

-- those gone over are the other's, and so are all that are still to come of it
abbrev pub invariant-loop-entry : goal.invariant-loop-entry
invariant-loop-entry l = Each (Member l.other) l.yielded × ((e : Entry) → Member l.left e → Member l.other e)
