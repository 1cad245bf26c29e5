use Rattle.std.proofs.Common.{◌≡◌, ◌<◌, ◌^◌, ◌+ℤ◌, ◌-ℤ◌, ◌≤ℤ◌, ◌∙◌, ap, arith, of_z, pos, refl, to_z, w32, w64, ℕ, ℤ}
use Rattle.std.proofs.lemmas.Int.{ints}
use Rattle.crew_pairing.specs.Events.{IsSound}
use Rattle.crew_pairing.specs.declared.duty.Duty.{Duty}
use Rattle.crew_resource.specs.Machinery.Sum.{LiesWithin}
use Rattle.crew_anchor.proofs.Shifting.{same-parts}
use Rattle.crew_anchor.proofs.resource.AnchoredResource.with_duty.Goals as goal

-- what a part or a sum is read back as
abbrev held : ℤ → ℤ
held z = to_z w64 (of_z w64 z)

held-is : (z : ℤ) → LiesWithin (2 ^ 62) z → held z ≡ z
held-is z h =
    let a = h.least in
    let b = h.most in
    omega (arith, ints, a, b)

held-sum : (a b c : ℤ) → LiesWithin (2 ^ 62) a → LiesWithin 8_000_020_000 b → c ≡ b → held (held a +ℤ c) ≡ a +ℤ b
held-sum a b c h k e =
    let ha = h.least in
    let hb = h.most in
    let ka = k.least in
    let kb = k.most in
    omega (arith, ints, ha, hb, ka, kb, e)

held-less : (a b c : ℤ) → LiesWithin (2 ^ 62) a → LiesWithin 8_000_000_000 b → c ≡ a → held (c -ℤ held b) ≡ a -ℤ b
held-less a b c h k e =
    let ha = h.least in
    let hb = h.most in
    let ka = k.least in
    let kb = k.most in
    omega (arith, ints, ha, hb, ka, kb, e)

-- a part of a duty that was widened
widened : (z r : ℤ) → pos 0 ≤ℤ z → z ≤ℤ pos 20_000 → r ≡ to_z w32 (of_z w32 z) → held r ≡ z
widened z r h k e = omega (arith, ints, h, k, e)

module _ (d : Duty) (sound : IsSound d) where
  price-within : LiesWithin 8_000_000_000 d.price
  price-within =
      let a = sound.price in
      let b = sound.price_most in
      record { least = omega (arith, ints, a); most = b }

  pay-within : LiesWithin 8_000_020_000 (d.pay -ℤ d.price)
  pay-within =
      let a = sound.price in
      let b = sound.price_most in
      let p = sound.pay in
      let q = sound.pay_most in
      record { least = omega (arith, ints, b, p); most = omega (arith, ints, a, q) }

small-wide : (z : ℤ) → pos 0 ≤ℤ z → z ≤ℤ pos 20_000 → LiesWithin (2 ^ 62) z
small-wide z h k = record { least = omega (arith, ints, h); most = omega (arith, ints, k) }

small-within : (z : ℤ) → pos 0 ≤ℤ z → z ≤ℤ pos 20_000 → LiesWithin 8_000_020_000 z
small-within z h k = record { least = omega (arith, ints, h); most = omega (arith, ints, k) }

small-most : (z : ℤ) → z ≤ℤ pos 840 → z ≤ℤ pos 20_000
small-most z h = omega (arith, ints, h)

less-most : (z : ℤ) → z ≤ℤ pos 540 → z ≤ℤ pos 20_000
less-most z h = omega (arith, ints, h)

one-within : LiesWithin 8_000_020_000 (pos 1)
one-within = record { least = omega (arith, ints); most = omega (arith, ints) }

points-within : (n : ℕ) → n < 4_294_967_296 → LiesWithin (2 ^ 62) (pos n)
points-within n h = record { least = omega (arith, ints, h); most = omega (arith, ints, h) }

points-less : (n : ℕ) (price : ℤ) → n < 4_294_967_296 → LiesWithin 8_000_000_000 price → LiesWithin 12_294_967_296 (pos n -ℤ price)
points-less n price h k =
    let a = k.least in
    let b = k.most in
    record { least = omega (arith, ints, b); most = omega (arith, ints, a, h) }

held-more : (a b c : ℤ) → LiesWithin (2 ^ 62) a → LiesWithin 12_294_967_296 b → c ≡ b → held (held a +ℤ c) ≡ a +ℤ b
held-more a b c h k e =
    let ha = h.least in
    let hb = h.most in
    let ka = k.least in
    let kb = k.most in
    omega (arith, ints, ha, hb, ka, kb, e)

pub returns : goal.returns
returns c =
    let r = c.args.self.now in
    let v = c.args.value.now in
    let d = c.args.duty.now in
    let sound = c.requires.0 in
    let within = c.requires.1 in
    let price = price-within d sound in
    let fits : r.guarantee < 4_294_967_296 = omega arith in
    let pay = held-less d.pay d.price (held c.from.result) (small-wide d.pay sound.pay sound.pay_most) price (widened d.pay c.from.result sound.pay sound.pay_most c.from.ensures) in
    let points = held-less (pos r.guarantee) d.price (held c.from-2.result) (points-within r.guarantee fits) price (ap held c.from-2.ensures ∙ held-is (pos r.guarantee) (points-within r.guarantee fits)) in
    let fdp_most = small-most d.fdp sound.fdp_most in
    let fly_most = less-most d.fly sound.fly_most in
    same-parts _ _ _ _ _ _ _ _ _ _ _ _ _ _
    (held-sum v.duty_pay (d.pay -ℤ d.price) (held (held c.from.result -ℤ held d.price)) within.duty_pay (pay-within d sound) pay)
    (held-less v.trip_rig d.price (held v.trip_rig) within.trip_rig price (held-is v.trip_rig within.trip_rig))
    (held-more v.guarantee (pos r.guarantee -ℤ d.price) (held (held c.from-2.result -ℤ held d.price)) within.guarantee (points-less r.guarantee d.price fits price) points)
    (held-sum v.fdp d.fdp (held c.from-3.result) within.fdp (small-within d.fdp sound.fdp fdp_most) (widened d.fdp c.from-3.result sound.fdp fdp_most c.from-3.ensures))
    (held-sum v.fly d.fly (held c.from-4.result) within.fly (small-within d.fly sound.fly fly_most) (widened d.fly c.from-4.result sound.fly fly_most c.from-4.ensures))
    (held-sum v.duties (pos 1) (pos 1) within.duties one-within refl)
    (held-is v.away within.away)
