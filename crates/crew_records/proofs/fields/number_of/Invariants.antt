use Rattle.std.proofs.Common.{◌≡◌, drop}
use Rattle.crew_records.specs.Fields.{read_on}
use Rattle.crew_records.proofs.fields.number_of.Given as goal

abbrev pub invariant-loop-digit : goal.invariant-loop-digit
invariant-loop-digit l = read_on l.number (drop l.digit-index l.digits) ≡ read_on 0 l.digits
