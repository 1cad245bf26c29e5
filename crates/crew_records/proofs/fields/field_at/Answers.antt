use Rattle.std.proofs.Common.{◌∙◌, sym}
use Rattle.csv.specs.Records.{fields_of}
use Rattle.crew_records.proofs.DropFacts.{field_of_drop}
use Rattle.crew_records.proofs.fields.field_at.Goals as goal

pub returns : goal.returns
returns c = c.field.ensures ∙ sym (field_of_drop c.args.at c.args.i (fields_of c.args.row.now))
