-- Fronts are pools of their own labels.
use Rattle.std.proofs.Common.{◌≡◌, ℕ, Bool, true, List}
use Rattle.std.proofs.lemmas.Bool.{and_parts}
use Rattle.crew_resource.specs.Labels.{IsLocal}
use Rattle.crew_resource.specs.Members.{Member}
use Rattle.crew_resource.specs.Resource.{OrderLaws}
use Rattle.crew_resource.proofs.Values.{below_order}
use Rattle.std.specs.declared.cmp.Ordering.{Ordering}
use Rattle.crew_forgetful.specs.Forgetful.{IsPool}
use Rattle.crew_forgetful.specs.Machinery.Sums.{is_same}
use Rattle.crew_forgetful.proofs.Covered.{local_from_pool, stands_refl}
use Rattle.crew_label.specs.Walks.{ranks_at_most}
use Rattle.crew_label.proofs.MergedPools.{ranks_order, ranks_total}

module _ {V : Type 0} (cmp : V → V → Ordering) (below : V → V → Bool) (order : OrderLaws cmp below) where
  -- where walks decide between equal values alone, a pool is what dominance by values leaves
  pub front_from_pool : (itself : (a : V) → is_same below a a ≡ true)
      → (between : (a b c : V) → below a b ≡ true → below b c ≡ true → is_same below a c ≡ true → (is_same below a b ≡ true) × (is_same below b c ≡ true))
      → (C : V → List ℕ → Type 0) (entries : List (V × List ℕ)) → IsPool below (is_same below) ranks_at_most C entries → IsLocal below ranks_at_most C entries
  front_from_pool itself between C entries i =
      local_from_pool V (List ℕ) below (is_same below) ranks_at_most (below_order order) ranks_order itself between
      (λ a b h e. order.antisymmetric a b h (and_parts (below a b) (below b a) e).1) ranks_total C entries i

  pub front_itself : (same : V → V → Bool) (itself : (a : V) → same a a ≡ true)
      → (between : (a b c : V) → below a b ≡ true → below b c ≡ true → same a c ≡ true → (same a b ≡ true) × (same b c ≡ true))
      → (C : V → List ℕ → Type 0) (entries : List (V × List ℕ)) → IsLocal below ranks_at_most C entries
      → IsPool below same ranks_at_most (λ v w. Member entries (v, w)) entries
  front_itself same itself between C entries i = record {
    among = λ v w m. m;
    covers = λ x y m. (x, y, m, stands_refl V (List ℕ) below same ranks_at_most (below_order order) ranks_order itself between x y);
    alone = λ v w x y m n s. i.alone v w x y m n s.0;
  }
