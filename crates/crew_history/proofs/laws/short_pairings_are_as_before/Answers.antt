use Rattle.crew_history.proofs.ShortPairings.{long_from_short, short_from_long}
use Rattle.crew_history.proofs.laws.short_pairings_are_as_before.Goals as goal

pub returns-clause-long : goal.returns-clause-long
returns-clause-long c = long_from_short

pub returns-clause-short : goal.returns-clause-short
returns-clause-short c = short_from_long
