-- The price of a base, as a word of the machine.
use Rattle.std.proofs.Common.{◌≡◌, ℤ, to_z, of_z, w64, arith}
use Rattle.std.specs.Prelude.{FitsSigned}
use Rattle.std.proofs.lemmas.Int.{ints, to_z-of_z}
use Rattle.crew_flights.specs.Timetable.{IsBasePrice}

price-fits : (p : ℤ) → IsBasePrice p → FitsSigned w64 p
price-fits p h = let a = h.least in let b = h.most in grind (arith, ints)

pub base-price : (p : ℤ) → IsBasePrice p → to_z w64 (of_z w64 p) ≡ p
base-price p h = to_z-of_z w64 p (price-fits p h)
