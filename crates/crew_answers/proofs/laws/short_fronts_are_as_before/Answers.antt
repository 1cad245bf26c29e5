use Rattle.crew_answers.specs.ShortPairings.{with_no_past}
use Rattle.crew_answers.proofs.ShortPartials.{not-long}
use Rattle.crew_answers.proofs.ShortFronts.{at-from-long, at-to-long, clean-from-long, clean-to-long, front-from-long, front-no-past, front-to-long, no-past-at-most}
use Rattle.crew_answers.proofs.laws.short_fronts_are_as_before.Goals as goal

pub returns-clause-at_most : goal.returns-clause-at_most
returns-clause-at_most c = no-past-at-most

pub returns-clause-at : goal.returns-clause-at
returns-clause-at c = λ s t base price d v w sound short. (
  at-to-long s t base price sound (not-long s short) d v w,
  at-from-long s t base price sound (not-long s short) d (with_no_past v) w,
)

pub returns-clause-clean : goal.returns-clause-clean
returns-clause-clean c = λ s t base price d v w sound short. (
  clean-to-long s t base price sound (not-long s short) d v w,
  clean-from-long s t base price sound (not-long s short) d (with_no_past v) w,
)

pub returns-clause-long : goal.returns-clause-long
returns-clause-long c = λ s t base price d entries sound short. front-to-long s t base price sound (not-long s short) d entries

pub returns-clause-short : goal.returns-clause-short
returns-clause-short c = λ s t base price d entries sound short front. (
  front-from-long s t base price sound (not-long s short) d entries front,
  front-no-past s t base price sound (not-long s short) d entries front,
)
