use Rattle.std.proofs.Common.{◌≡◌, map}
use Rattle.crew_pairing.specs.Machinery.Blocks.{part_of}
use Rattle.crew_duty.specs.Machinery.Prices.{under_prices}
use Rattle.crew_duty.proofs.priced.keep_prices.Given as goal

abbrev pub invariant-loop-place : goal.invariant-loop-place
invariant-loop-place l = map (under_prices l.prices) (part_of l.duties l.from l.place) ≡ part_of l.duties l.from l.place
