-- What either rule keeps to.
use Rattle.std.proofs.Common.{◌≡◌, ℕ, Bool, true, Ordering, pos, ap}
use Rattle.std.proofs.lemmas.Bool.{and_from, and_parts}
use Rattle.crew_resource.specs.Resource.{OrderLaws}
use Rattle.crew_label.specs.Machinery.Rules.{same_by}
use Rattle.crew_label.specs.declared.stand.Rule.{Rule}
use Rattle.crew_label.specs.declared.stand.Rule.TheVariants.{Sums, Values}

module _ {V : Type 0} (cmp : V → V → Ordering) (below same : V → V → Bool) (order : OrderLaws cmp below) (same_itself : (a : V) → same a a ≡ true)
    (same_between : (a b c : V) → below a b ≡ true → below b c ≡ true → same a c ≡ true → (same a b ≡ true) × (same b c ≡ true)) where
  pub rule_laws : (rule : Rule) → ((a : V) → same_by below same rule a a ≡ true)
      × ((a b c : V) → below a b ≡ true → below b c ≡ true → same_by below same rule a c ≡ true → (same_by below same rule a b ≡ true) × (same_by below same rule b c ≡ true))
  rule_laws Sums = (same_itself, same_between)
  rule_laws Values = (
    λ a. and_from (below a a) (below a a) (order.reflexive a) (order.reflexive a),
    λ a b c h k e.
        let f = and_parts (below a c) (below c a) e in (
          and_from (below a b) (below b a) h (order.transitive b c a k f.1),
          and_from (below b c) (below c b) k (order.transitive c a b f.1 h),
        ),
  )

  -- values between which walks decide count as many duties
  pub rule_tells : {C : Type 0} (count : V → C) → ((a b : V) → same a b ≡ true → count a ≡ count b) → (rule : Rule) (a b : V) → same_by below same rule a b ≡ true → count a ≡ count b
  rule_tells count tell Sums a b e = tell a b e
  rule_tells count tell Values a b e =
      let f = and_parts (below a b) (below b a) e in
      let equal : a ≡ b = order.antisymmetric a b f.0 f.1 in
      ap count equal

pub as_long : (m n : ℕ) → pos m ≡ pos n → m ≡ n
as_long m n e = (cc)
