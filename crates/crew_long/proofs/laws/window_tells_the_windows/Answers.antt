use Rattle.crew_long.proofs.WindowValues.{window_value, value_keeps, window_off}
use Rattle.crew_long.proofs.laws.window_tells_the_windows.Goals as goal

pub returns-clause-value : goal.returns-clause-value
returns-clause-value c = λ s. window_value s.is_on s.cap

pub returns-clause-keeps : goal.returns-clause-keeps
returns-clause-keeps c = λ s. value_keeps s.is_on s.cap

pub returns-clause-off : goal.returns-clause-off
returns-clause-off c = λ s. window_off s.is_on s.cap
