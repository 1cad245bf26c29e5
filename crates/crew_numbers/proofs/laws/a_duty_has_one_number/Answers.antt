use Rattle.crew_numbers.proofs.Shown.{a-number, one-number}
use Rattle.crew_numbers.proofs.laws.a_duty_has_one_number.Goals as goal

pub returns-clause-some : goal.returns-clause-some
returns-clause-some c = a-number

pub returns-clause-one : goal.returns-clause-one
returns-clause-one c = one-number
