use Rattle.std.proofs.Common.{arith}
use Rattle.jiff_core.proofs.SignedLemmas.{signed_casts}
use Rattle.crew_clocks.proofs.CivilFacts.{year-known}
use Rattle.crew_clocks.proofs.texts.year_of.Goals as goal

pub overflow_cast-result : goal.overflow_cast-result
overflow_cast-result c = let y = year-known c.args.date c.requires in grind (arith, signed_casts)

pub returns : goal.returns
returns c = let y = year-known c.args.date c.requires in grind (arith, signed_casts)
