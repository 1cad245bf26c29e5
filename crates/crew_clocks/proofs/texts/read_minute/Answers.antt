use Rattle.crew_clocks.proofs.TextFacts.{read-years}
use Rattle.crew_clocks.proofs.texts.read_minute.Goals as goal

pub returns-in-Some-clause-years : goal.returns-in-Some-clause-years
returns-in-Some-clause-years c = read-years c.minute_of.result c.in-Some.parts c.in-Some.ensures.bound.0 c.minute_of.ensures
