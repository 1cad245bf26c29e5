use Rattle.crew_answers.proofs.ShortLocals.{local-from-long, local-no-past, local-to-long}
use Rattle.crew_answers.proofs.ShortPartials.{not-long}
use Rattle.crew_answers.proofs.laws.short_local_entries_are_as_before.Goals as goal

pub returns-clause-long : goal.returns-clause-long
returns-clause-long c = λ s base price d feed entries short. local-to-long s (not-long s short) base price d feed entries

pub returns-clause-short : goal.returns-clause-short
returns-clause-short c = λ s base price d feed entries short local. (
  local-from-long s (not-long s short) base price d feed entries local,
  local-no-past s (not-long s short) base price d feed entries local,
)
