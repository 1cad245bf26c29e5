-- Legs: 14 CFR 117.3 (flight segment, deadhead transportation).
use Rattle.std.specs.Prelude.{◌≡◌, ◌+◌, ◌*◌, ◌/◌, ◌%◌, ℕ, Bool, nat_eq, if◌then◌else◌}
use Rattle.std.proofs.Common.{arith}
use Rattle.std.proofs.lemmas.Bool.Decides.{nat_tests}

-- a flight, by its number, that the crew flies or rides as passengers
pub record Leg : Type 0 where
  pub flight : ℕ
  pub deadhead : Bool

-- a leg as one number: twice the flight's, and one more where the crew rides
abbrev pub number_of : Leg → ℕ
number_of l = l.flight * 2 + (if l.deadhead then 1 else 0)

abbrev pub leg_of_number : ℕ → Leg
leg_of_number n = record { flight = n / 2; deadhead = nat_eq (n % 2) 1 }

pub number-back : (n : ℕ) → number_of (leg_of_number n) ≡ n
number-back n = grind (arith, nat_tests)
