use Rattle.crew_answers.proofs.ShortPartials.{no-past, not-long, partial-from-long, partial-to-long}
use Rattle.crew_answers.proofs.laws.short_partials_are_as_before.Goals as goal

pub returns-clause-short : goal.returns-clause-short
returns-clause-short c = λ s t base first others sound short. partial-from-long s t base first others sound (not-long s short)

pub returns-clause-long : goal.returns-clause-long
returns-clause-long c = λ s t base first others sound short. partial-to-long s t base first others sound (not-long s short)

pub returns-clause-vector : goal.returns-clause-vector
returns-clause-vector c = λ s price first others short. no-past s price first others (not-long s short)
