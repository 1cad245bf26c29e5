use Rattle.std.proofs.Common.{sym}
use Rattle.crew_solve.specs.Machinery.Homes.{home_from}
use Rattle.crew_solve.proofs.floors.keep_of_departure_by_floor.Goals as goal

pub returns-then-not-may_want-clause-kept : goal.returns-then-not-may_want-clause-kept
returns-then-not-may_want-clause-kept c = sym (c.may_want.ensures c.if-not-may_want.true (home_from c.args.sweep.now c.args.index) c.requires.floor)
