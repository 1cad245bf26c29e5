-- The ranks so far: one more.
use Rattle.std.proofs.Common.{◌≡◌, ◌<◌, ◌+◌, ◌++◌, ◌∷◌, ◌⊎◌, [], inl, inr, ℕ, List, length, take, get_or, refl, sym, subst}
use Rattle.std.proofs.lemmas.List.{take_more}
use Rattle.crew_resource.specs.Members.{Member}
use Rattle.crew_resource.proofs.Members.{Member-append, Member-append_left, Member-append_right}

module _ (ranks : List ℕ) (i : ℕ) (h : i < length ranks) where
  more : take (i + 1) ranks ≡ take i ranks ++ get_or ranks i 0 ∷ []
  more = take_more ranks i 0 h

  pub taken-more : (rank : ℕ) → Member (take (i + 1) ranks) rank → Member (take i ranks) rank ⊎ (get_or ranks i 0 ≡ rank)
  taken-more rank m =
      elim (Member-append (take i ranks) (get_or ranks i 0 ∷ []) rank (subst (λ (rs : List ℕ). Member rs rank) more m)) as (λ _. Member (take i ranks) rank ⊎ (get_or ranks i 0 ≡ rank)) [
        | inl k ↦ inl k
        | inr k ↦ elim k as (λ _. Member (take i ranks) rank ⊎ (get_or ranks i 0 ≡ rank)) [ inl e ↦ inr e | inr z ↦ absurd z ]
      ]

  pub taken-before : (rank : ℕ) → Member (take i ranks) rank → Member (take (i + 1) ranks) rank
  taken-before rank k = subst (λ (rs : List ℕ). Member rs rank) (sym more) (Member-append_left (take i ranks) (get_or ranks i 0 ∷ []) rank k)

  pub taken-here : Member (take (i + 1) ranks) (get_or ranks i 0)
  taken-here = subst (λ (rs : List ℕ). Member rs (get_or ranks i 0)) (sym more) (Member-append_right (take i ranks) (get_or ranks i 0 ∷ []) (get_or ranks i 0) (inl refl))
