-- Histories of fixed size.
use Rattle.std.specs.Prelude.{Bool, take, List, ℤ}
use Rattle.crew_history.specs.Histories.{is_no_more}
use Rattle.crew_history.specs.declared.history.History.{History}

abbrev pub periods_of : History → List (ℤ × ℤ)
periods_of v = take v.len v.periods

-- after every instant no more duty minutes
abbrev pub history_at_most : History → History → Bool
history_at_most a b = is_no_more (periods_of a) (periods_of b)
