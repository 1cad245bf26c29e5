-- What a rest and a duty add to a part, and the laws that let the parts stand in stages.
use Rattle.std.specs.Prelude.{ℕ, ◌+◌, ◌*◌, ◌≤◌, ℤ, pos, negsuc, ◌-ℤ◌, ◌*ℤ◌, ◌≤ℤ◌, neg_ℤ, unsigned_abs}
use Rattle.std.proofs.Common.{arith}
use Rattle.std.proofs.Math.Nat.{mul-le-mul_left}
use Rattle.std.proofs.lemmas.Int.{ints}
use Rattle.crew_pairing.specs.Events.{IsSound, MayFollow}
use Rattle.crew_pairing.specs.declared.duty.Duty.{Duty}
use Rattle.crew_pairing.specs.declared.events.Arrival.{Arrival}
use Rattle.crew_pairing.specs.declared.events.Departure.{Departure}
use Rattle.crew_resource.specs.Stages.{AmountLaws}
use Rattle.crew_resource.specs.Machinery.Sum.{LiesWithin}
use Rattle.crew_resource.specs.Machinery.SumStages.{still}

-- duty pays, less prices
abbrev pub pay_own : Duty → ℤ
pay_own d = d.pay -ℤ d.price

-- the trip rig, less prices
abbrev pub rig_own : ℕ → Duty → ℤ
rig_own rate d = pos rate *ℤ (d.release -ℤ d.report) -ℤ d.price

abbrev pub rig_wait : ℕ → Arrival → Departure → ℤ
rig_wait rate x g = pos rate *ℤ (g.report -ℤ x.release)

-- the guarantee, less prices
abbrev pub guarantee_own : ℕ → Duty → ℤ
guarantee_own points d = pos points -ℤ d.price

-- minutes away
abbrev pub away_own : Duty → ℤ
away_own d = d.release -ℤ d.report

abbrev pub away_wait : Arrival → Departure → ℤ
away_wait x g = g.report -ℤ x.release

-- an amount of duties meets the laws of stages
abbrev pub Laws : (Departure → ℤ) → (Arrival → Departure → ℤ) → (Duty → ℤ) → ℕ → Type 0
Laws idle wait own share = AmountLaws IsSound (λ _. Unit {0}) MayFollow idle wait own share

less : (base_price : ℤ) (more : ℕ) → LiesWithin (unsigned_abs base_price + more) (neg_ℤ base_price)
less (pos n) more = record { least = omega (arith, ints); most = omega (arith, ints) }
less (negsuc n) more = record { least = omega (arith, ints); most = omega (arith, ints) }

within : (z : ℤ) (n m : ℕ) → LiesWithin n z → n ≤ m → LiesWithin m z
within z n m h k = let l = h.least in let u = h.most in record
    { least = omega (arith, ints); most = omega (arith, ints) }

between : (z : ℤ) (n : ℕ) → pos 0 ≤ℤ z → z ≤ℤ pos n → LiesWithin n z
between z n h k = record { least = omega (arith, ints); most = omega (arith, ints) }

-- so many for each of at most so many minutes
pub rate_share : (rate n : ℕ) (z : ℤ) → pos 0 ≤ℤ z → z ≤ℤ pos n → (pos 0 ≤ℤ (pos rate *ℤ z))
    × ((pos rate *ℤ z) ≤ℤ pos (rate * n))
rate_share rate n (pos m) h k =
    let l : m ≤ n = omega (arith, ints) in
    let p = mul-le-mul_left rate l in
    (omega (arith, ints), omega (arith, ints, p))
rate_share rate n (negsuc m) h k = absurd (omega (arith, ints))

pub pay_laws : (base_price : ℤ)
    → Laws (λ _. neg_ℤ base_price) (λ _ _. pos 0) pay_own (unsigned_abs base_price + 8_000_020_000)
pay_laws base_price = record {
  idle_share = λ g b. less base_price 8_000_020_000;
  wait_share = λ x g f. still (unsigned_abs base_price + 8_000_020_000);
  own_share = λ d s. record {
    least = omega (arith, ints, s.pay, s.price_most);
    most = omega
        (arith, ints, s.pay_most, s.price);
  };
}

pub rig_laws : (rate : ℕ) (base_price : ℤ)
    → Laws (λ _. neg_ℤ base_price) (rig_wait rate) (rig_own rate)
    (rate * 10_000 + unsigned_abs base_price + 8_000_000_000)
rig_laws rate base_price = record {
  idle_share = λ g b. within (neg_ℤ base_price) (unsigned_abs base_price + 8_000_000_000)
      (rate * 10_000 + unsigned_abs base_price + 8_000_000_000) (less base_price 8_000_000_000)
      (omega arith);
  wait_share = λ x g f.
      let least : pos 0 ≤ℤ (g.report -ℤ x.release) = omega (arith, ints, f.rest) in
      let most : (g.report -ℤ x.release) ≤ℤ pos 10_000 = omega (arith, ints, f.rest_most) in
      let r = rate_share rate 10_000 (g.report -ℤ x.release) least most in
      within (rig_wait rate x g) (rate * 10_000)
      (rate * 10_000 + unsigned_abs base_price + 8_000_000_000)
      (between (rig_wait rate x g) (rate * 10_000) r.0 r.1) (omega arith);
  own_share = λ d s.
      let most : (d.release -ℤ d.report) ≤ℤ pos 10_000 = omega (arith, ints, s.elapsed_most) in
      let r = rate_share rate 10_000 (d.release -ℤ d.report) s.elapsed most in
      record {
        least = omega (arith, ints, r.0, s.price_most);
        most = omega
            (arith, ints, r.1, s.price);
      };
}

pub guarantee_laws : (points : ℕ) (base_price : ℤ)
    → Laws (λ _. neg_ℤ base_price) (λ _ _. pos 0) (guarantee_own points)
    (points + unsigned_abs base_price + 8_000_000_000)
guarantee_laws points base_price = record {
  idle_share = λ g b. within (neg_ℤ base_price) (unsigned_abs base_price + 8_000_000_000)
      (points + unsigned_abs base_price + 8_000_000_000) (less base_price 8_000_000_000)
      (omega arith);
  wait_share = λ x g f. still (points + unsigned_abs base_price + 8_000_000_000);
  own_share = λ d s. record {
    least = omega (arith, ints, s.price_most);
    most = omega
        (arith, ints, s.price);
  };
}

pub fdp_laws : Laws (λ _. pos 0) (λ _ _. pos 0) (λ d. d.fdp) 840
fdp_laws = record {
  idle_share = λ g b. still 840;
  wait_share = λ x g f. still 840;
  own_share = λ d s. between d.fdp 840 s.fdp s.fdp_most;
}

pub fly_laws : Laws (λ _. pos 0) (λ _ _. pos 0) (λ d. d.fly) 540
fly_laws = record {
  idle_share = λ g b. still 540;
  wait_share = λ x g f. still 540;
  own_share = λ d s. between d.fly 540 s.fly s.fly_most;
}

pub away_laws : Laws (λ _. pos 0) away_wait away_own 8_280
away_laws = record {
  idle_share = λ g b. still 8_280;
  wait_share = λ x g f. between (away_wait x g) 8_280 (omega (arith, ints, f.rest))
      f.rest_most;
  own_share = λ d s. between (away_own d) 8_280 s.elapsed
      (omega (arith, ints, s.elapsed_most));
}
