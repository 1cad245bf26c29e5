use Rattle.crew_numbers.proofs.Takes.{left-none}
use Rattle.crew_numbers.proofs.taking.leave_all.Goals as goal

pub loop-number-init : goal.loop-number-init
loop-number-init c = left-none c.args.keys.now c.args.ranks.now
