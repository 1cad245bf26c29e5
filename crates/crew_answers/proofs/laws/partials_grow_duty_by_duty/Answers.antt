use Rattle.std.proofs.Common.{pos}
use Rattle.crew_answers.proofs.Grown.{beginning, first-in, first-out, partial-in, partial-out}
use Rattle.crew_answers.proofs.laws.partials_grow_duty_by_duty.Goals as goal

pub returns-clause-first : goal.returns-clause-first
returns-clause-first c = λ s t base price d range sound legal leaves. (first-in s t base price sound range d legal leaves, first-out s t base price sound range d)

pub returns-clause-next : goal.returns-clause-next
returns-clause-next c = λ s t base price first others d range sound p legal after. (
  partial-in s t base price sound range first others d p legal after,
  partial-out s t base price sound range first others d p legal after,
)

pub returns-clause-beginning : goal.returns-clause-beginning
returns-clause-beginning c = λ s t base first taken left range sound. beginning s t base (pos 0) sound range first taken left
