use Rattle.crew_records.proofs.DashFacts.{at-dash, without-dash}
use Rattle.crew_records.proofs.fields.cut.Goals as goal

pub returns-in-None : goal.returns-in-None
returns-in-None c = without-dash c.args.field.now c.in-None.ensures

pub returns-in-Some : goal.returns-in-Some
returns-in-Some c = at-dash c.args.field.now c.in-Some.at c.in-Some.ensures
