use Rattle.crew_solve.specs.Machinery.Homes.{home_from}
use Rattle.crew_solve.proofs.Flooring.{keeps-all, keeps-none}
use Rattle.crew_solve.proofs.floors.keep_low_of_departure.Goals as goal

pub returns-then-not-is_low-clause-kept : goal.returns-then-not-is_low-clause-kept
returns-then-not-is_low-clause-kept c = keeps-none (home_from c.args.sweep.now c.args.index) c.args.kept.now

pub returns-clause-kept : goal.returns-clause-kept
returns-clause-kept c = keeps-all (home_from c.args.sweep.now c.args.index) c.args.kept.now _ c.in_ok-floor.ensures.kept
