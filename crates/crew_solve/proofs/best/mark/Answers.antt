use Rattle.crew_solve.proofs.Marking.{set-mark}
use Rattle.crew_solve.proofs.best.mark.Goals as goal

pub returns : goal.returns
returns c = λ k m. set-mark c.args.marks.now c.args.walk k m
