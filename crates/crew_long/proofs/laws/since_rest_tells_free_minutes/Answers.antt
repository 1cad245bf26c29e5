use Rattle.crew_long.proofs.RestValues.{rest_value, value_frees, rest_off}
use Rattle.crew_long.proofs.laws.since_rest_tells_free_minutes.Goals as goal

pub returns-clause-value : goal.returns-clause-value
returns-clause-value c = λ s. rest_value s.is_on

pub returns-clause-free : goal.returns-clause-free
returns-clause-free c = λ s. value_frees s.is_on

pub returns-clause-off : goal.returns-clause-off
returns-clause-off c = λ s. rest_off s.is_on
