use Rattle.crew_history.proofs.Histories.{ends_before_cut, grown_history, grown_monotone, boarded_monotone, cut_grows_the_same}
use Rattle.crew_history.proofs.Uncut.{grown_reflects}
use Rattle.crew_history.proofs.laws.histories_grow_in_order.Goals as goal

pub returns-clause-history : goal.returns-clause-history
returns-clause-history c = grown_history

pub returns-clause-order : goal.returns-clause-order
returns-clause-order c = grown_monotone

pub returns-clause-boards : goal.returns-clause-boards
returns-clause-boards c = boarded_monotone

pub returns-clause-cut_before : goal.returns-clause-cut_before
returns-clause-cut_before c = λ window a h p i e l k. cut_grows_the_same window a h p i e (ends_before_cut a h p.0 e) l k

pub returns-clause-uncut : goal.returns-clause-uncut
returns-clause-uncut c = grown_reflects
