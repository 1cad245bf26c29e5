-- The resource counts duties, and its sums fit.
use Rattle.std.proofs.Common.{◌≡◌, ◌≤◌, ℕ, suc, true, ℤ, pos, negsuc, ap, arith}
use Rattle.std.specs.Prelude.{unsigned_abs}
use Rattle.std.proofs.Math.Nat.{mul-le-mul_left}
use Rattle.std.proofs.lemmas.Bool.{and_parts}
use Rattle.std.proofs.lemmas.Int.{ints}
use Rattle.crew_anchor.specs.Machinery.Bounds.{fits_in, share}
use Rattle.crew_anchor.specs.Stages.{anchored_resource}
use Rattle.crew_flights.specs.Timetable.{IsBasePrice}
use Rattle.crew_forgetful.specs.Machinery.Sums.{is_same}
use Rattle.crew_pairing.specs.declared.vector.PairingVector.{PairingVector}
use Rattle.crew_rules.specs.Settings.{IsChecked}
use Rattle.crew_rules.specs.declared.settings.Settings.{Settings}
use Rattle.crew_vector.specs.Dominance.{is_at_most}
use Rattle.crew_vector.specs.Machinery.Named.{named_order}

pub same-count : (a b : PairingVector) → is_same is_at_most a b ≡ true → a.duties ≡ b.duties
same-count a b h =
    let k = and_parts (is_at_most a b) (is_at_most b a) h in
    ap (λ z. z.duties) (named_order.antisymmetric a b k.0 k.1)

size : (price : ℤ) → IsBasePrice price → unsigned_abs price ≤ 1_000_000_000
size (pos n) h = let m = h.most in omega (arith, ints)
size (negsuc n) h = let l = h.least in omega (arith, ints)

share-most : (s : Settings) (price : ℤ) → IsChecked s → IsBasePrice price → share (anchored_resource s price) ≤ 40_000_000_000
share-most s price checked base =
    let p = size price base in
    let rig = checked.trip_rig in
    let guarantee = checked.guarantee in
    omega (arith, p, rig, guarantee)

pub all-fit : (s : Settings) (price : ℤ) → IsChecked s → IsBasePrice price → (n : ℕ) → n ≤ 100_000 → fits_in (anchored_resource s price) n
all-fit s price checked base n few =
    let most = share-most s price checked base in
    let left = mul-le-mul_left (suc n) most in
    omega (arith, left, few)
