use Rattle.crew_history.proofs.FixedHistories.{history_order, at_most_is, at_most_yes}
use Rattle.crew_history.proofs.laws.fixed_histories_are_ordered.Goals as goal

pub returns-clause-order : goal.returns-clause-order
returns-clause-order c = history_order

pub returns-clause-minutes : goal.returns-clause-minutes
returns-clause-minutes c = λ a b. (λ t. at_most_is a b t, λ m. at_most_yes a b m)
