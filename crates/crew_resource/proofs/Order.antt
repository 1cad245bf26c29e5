-- Orders that are tests, and what an unbeaten vector is.
use Rattle.std.proofs.Common.{◌≡◌, Bool, true, sym, ◌∙◌, ap, ⊎_elim}
use Rattle.std.proofs.lemmas.Bool.{cases_Bool, false≢true}
use Rattle.std.specs.declared.cmp.Ordering.{Ordering}
use Rattle.crew_resource.specs.Labels.{Beats}
use Rattle.crew_resource.specs.Resource.{OrderLaws}

-- a test that is a partial order
pub record IsOrder {V : Type 0} (le : V → V → Bool) : Type 0 where
  pub reflexive : (a : V) → le a a ≡ true
  pub transitive : (a b c : V) → le a b ≡ true → le b c ≡ true → le a c ≡ true
  pub antisymmetric : (a b : V) → le a b ≡ true → le b a ≡ true → a ≡ b

-- what is at most b and doesn't beat it is b
pub same_from_unbeaten : {V : Type 0} (le : V → V → Bool) → IsOrder le → (a b : V) → le a b ≡ true → (Beats le a b → ⊥) → a ≡ b
same_from_unbeaten le o a b h n =
    ⊎_elim (λ t. o.antisymmetric a b h t) (λ f. absurd (n (h, λ e. false≢true (sym f ∙ (ap (le b) e ∙ o.reflexive b))))) (cases_Bool (le b a))

-- the order of a resource's vectors is one
pub order : {V : Type 0} (cmp : V → V → Ordering) (below : V → V → Bool) → OrderLaws cmp below → IsOrder below
order cmp below laws = record { reflexive = laws.reflexive; transitive = laws.transitive; antisymmetric = laws.antisymmetric }
