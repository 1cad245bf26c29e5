use Rattle.std.proofs.Common.{refl}
use Rattle.crew_vector.proofs.Fitting.{all-fit}
use Rattle.crew_answers.proofs.InRange.{checked-short}
use Rattle.crew_answers.proofs.laws.sums_fit.Goals as goal

pub returns-clause-most : goal.returns-clause-most
returns-clause-most c = λ s price. refl

pub returns-clause-fits : goal.returns-clause-fits
returns-clause-fits c = λ s price n range base_price few. (all-fit (record s { away_cap = 8_280 }) price (checked-short s range) base_price n few, (tt, tt))
