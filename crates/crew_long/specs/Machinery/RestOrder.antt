-- Ends of rests are ordered.
use Rattle.std.specs.Prelude.{◌≡◌, true, ℤ, int_le}
use Rattle.std.specs.Ordering.{int_cmp}
use Rattle.std.specs.Cmp.{IsTotalOrder, int_cmp_total}
use Rattle.std.specs.declared.cmp.Ordering.TheVariants.{Equal}
use Rattle.std.proofs.Common.{refl, ap, arith}
use Rattle.std.proofs.lemmas.Cmp.{int_ranked}
use Rattle.std.proofs.lemmas.Int.{ints}
use Rattle.crew_resource.specs.Resource.{OrderLaws}
use Rattle.crew_long.specs.RestEnds.{rest_end_cmp, rest_end_at_most}
use Rattle.crew_long.specs.declared.rest_end.RestEnd.{RestEnd}

pub rest_end_cmp_total : IsTotalOrder rest_end_cmp
rest_end_cmp_total = record {
  antisymm = λ x y. int_cmp_total.antisymm y.minute x.minute;
  trans = λ x y z h k. int_cmp_total.trans z.minute y.minute x.minute k h;
  congr = λ x y z e. alike x.minute y.minute z.minute e;
}
  where
    same : (a b : ℤ) → int_cmp a b ≡ Equal → a ≡ b
    same a b e = let r = int_ranked a b (int_cmp a b) refl in grind (arith, ints)

    alike : (a b c : ℤ) → int_cmp b a ≡ Equal → int_cmp c a ≡ int_cmp c b
    alike a b c e = let q : b ≡ a = same b a e in ap (λ z. int_cmp c z) (let r : a ≡ b = (cc) in r)

pub same_end : (a b : RestEnd) → a.minute ≡ b.minute → a ≡ b
same_end a b e = ap (λ z. let r : RestEnd = record { minute = z } in r) e

pub rest_end_order : OrderLaws rest_end_cmp rest_end_at_most
rest_end_order = record {
  exact = λ a b e. same_end a b (exact b.minute a.minute e);
  reflexive = λ a. itself a.minute;
  transitive = λ a b c h k. through a.minute b.minute c.minute h k;
  antisymmetric = λ a b h k. same_end a b (both a.minute b.minute h k);
}
  where
    exact : (a b : ℤ) → int_cmp a b ≡ Equal → b ≡ a
    exact a b e = let r = int_ranked a b (int_cmp a b) refl in grind (arith, ints)

    itself : (a : ℤ) → int_le a a ≡ true
    itself a = grind (arith, ints)

    through : (a b c : ℤ) → int_le b a ≡ true → int_le c b ≡ true → int_le c a ≡ true
    through a b c h k = grind (arith, ints)

    both : (a b : ℤ) → int_le b a ≡ true → int_le a b ≡ true → a ≡ b
    both a b h k = grind (arith, ints)
