use Rattle.std.proofs.Common.{arith}
use Rattle.std.proofs.lemmas.Grind.{common_steps}
use Rattle.crew_records.proofs.fields.read_leg.Goals as goal

pub returns-in_err-read_id-in-Some-eq100-default : goal.returns-in_err-read_id-in-Some-eq100-default
returns-in_err-read_id-in-Some-eq100-default c = grind (arith, common_steps)

pub returns-in_err-read_id-in_default : goal.returns-in_err-read_id-in_default
returns-in_err-read_id-in_default c = grind (arith, common_steps)

pub returns-in_ok-read_id-in-Some-eq100-default : goal.returns-in_ok-read_id-in-Some-eq100-default
returns-in_ok-read_id-in-Some-eq100-default c = grind (arith, common_steps)

pub returns-in_ok-read_id-in_default : goal.returns-in_ok-read_id-in_default
returns-in_ok-read_id-in_default c = grind (arith, common_steps)
