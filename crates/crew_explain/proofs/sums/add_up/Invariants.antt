use Rattle.std.proofs.Common.{◌≡◌, ◌*◌, ◌-ℤ◌, ◌≤ℤ◌, pos, take}
use Rattle.crew_pairing.specs.Legality.{total}
use Rattle.crew_explain.proofs.sums.add_up.Given as goal

abbrev pub invariant-loop-duty : goal.invariant-loop-duty
invariant-loop-duty l = record {
  fdp : l.sums.fdp ≡ total (λ d. d.fdp) (take l.duty-index l.duties);
  fly : l.sums.fly ≡ total (λ d. d.fly) (take l.duty-index l.duties);
  pay : l.sums.pay ≡ total (λ d. d.pay) (take l.duty-index l.duties);
  price : l.sums.price ≡ total (λ d. d.price) (take l.duty-index l.duties);
  fdp_least : (pos 0 -ℤ pos (100_000_000 * l.duty-index)) ≤ℤ l.sums.fdp;
  fdp_most : l.sums.fdp ≤ℤ pos (100_000_000 * l.duty-index);
  fly_least : (pos 0 -ℤ pos (1_000_000_000 * l.duty-index)) ≤ℤ l.sums.fly;
  fly_most : l.sums.fly ≤ℤ pos (1_000_000_000 * l.duty-index);
  pay_least : (pos 0 -ℤ pos (10_000_000_000 * l.duty-index)) ≤ℤ l.sums.pay;
  pay_most : l.sums.pay ≤ℤ pos (10_000_000_000 * l.duty-index);
  price_least : (pos 0 -ℤ pos (10_000_000_000 * l.duty-index)) ≤ℤ l.sums.price;
  price_most : l.sums.price ≤ℤ pos (10_000_000_000 * l.duty-index);
}
