-- Dominance among vectors: one is at most another where none of its parts is greater (Irnich and
-- Desaulniers 2005), and then costs no more.
use Rattle.std.specs.Prelude.{◌≡◌, Bool, true, ◌&&◌, ℤ, ◌≤ℤ◌, int_le}
use Rattle.std.specs.Int.{int_max}
use Rattle.std.proofs.Common.{arith}
use Rattle.std.proofs.lemmas.Bool.{and_parts}
use Rattle.std.proofs.lemmas.Int.{ints}
use Rattle.crew_resource.specs.Resource.{RespectsOrder}
use Rattle.crew_pairing.specs.Vectors.{reduced_cost}
use Rattle.crew_pairing.specs.declared.vector.PairingVector.{PairingVector}

-- no part is greater
abbrev pub is_at_most : PairingVector → PairingVector → Bool
is_at_most a b =
    (int_le a.duty_pay b.duty_pay &&
    (int_le a.trip_rig b.trip_rig && int_le a.guarantee b.guarantee))
    && ((int_le a.fdp b.fdp && int_le a.fly b.fly) &&
    (int_le a.duties b.duties && int_le a.away b.away))

greatest : (a b c x y z : ℤ) → int_le a x ≡ true → int_le b y ≡ true → int_le c z ≡ true
    → int_max (int_max a b) c ≤ℤ int_max (int_max x y) z
greatest a b c x y z h i j = grind (arith, ints)

pub cost_respects : RespectsOrder is_at_most reduced_cost
cost_respects a b h =
    let money = and_parts _ _ (and_parts _ _ h).0 in
    let rest = and_parts _ _ money.1 in
    greatest a.duty_pay a.trip_rig a.guarantee b.duty_pay b.trip_rig b.guarantee money.0 rest.0
    rest.1
