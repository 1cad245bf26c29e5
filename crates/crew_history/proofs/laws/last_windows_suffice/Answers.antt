use Rattle.crew_history.proofs.Histories.{ends_suffice, last_window_suffices, grown_has_all}
use Rattle.crew_history.proofs.laws.last_windows_suffice.Goals as goal

pub returns-clause-each : goal.returns-clause-each
returns-clause-each c = ends_suffice

pub returns-clause-one_more : goal.returns-clause-one_more
returns-clause-one_more c = last_window_suffices

pub returns-clause-in_the_cut : goal.returns-clause-in_the_cut
returns-clause-in_the_cut c = grown_has_all
