use Rattle.crew_records.proofs.SpaceFacts.{at-space, without-space}
use Rattle.crew_records.proofs.fields.cut_space.Goals as goal

pub returns-in-None : goal.returns-in-None
returns-in-None c = without-space c.args.field.now c.in-None.ensures

pub returns-in-Some : goal.returns-in-Some
returns-in-Some c = at-space c.args.field.now c.in-Some.at c.in-Some.ensures
