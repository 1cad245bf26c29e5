use Rattle.crew_answers.proofs.ShortPartials.{not-long}
use Rattle.crew_answers.proofs.ShortBests.{best-from-long, best-to-long, scratch-from-long, scratch-to-long}
use Rattle.crew_answers.proofs.laws.short_answers_are_as_before.Goals as goal

pub returns-clause-best : goal.returns-clause-best
returns-clause-best c = λ s t best sound short. (
  best-to-long s t sound (not-long s short) best,
  best-from-long s t sound (not-long s short) best,
)

pub returns-clause-long : goal.returns-clause-long
returns-clause-long c = λ s t front best sound short. scratch-to-long s t sound (not-long s short) front best

pub returns-clause-short : goal.returns-clause-short
returns-clause-short c = λ s t front best sound short. scratch-from-long s t sound (not-long s short) front best
