use Rattle.std.proofs.Common.{[], refl}
use Rattle.crew_duty.proofs.totals.Totals.of.Goals as goal

pub returns : goal.returns
returns c = c.after.ensures [] (record { deadheads = refl; segments = refl; fly = refl; price = refl })
