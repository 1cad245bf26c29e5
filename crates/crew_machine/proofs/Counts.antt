-- What the counts of a round tell.
use Rattle.std.proofs.Common.{◌≡◌, ◌+◌, ◌≤◌, List, [], ◌∷◌, inl, inr, refl, sym, ◌∙◌, ap, ⊎_elim, arith}
use Rattle.crew_machine.specs.Rounds.{progress_of}
use Rattle.crew_machine.specs.declared.rounds.Cell.{Cell}
use Rattle.crew_machine.specs.declared.rounds.Cell.TheVariants.{Waiting, Out, Done}
use Rattle.crew_resource.specs.Members.{Member}

module _ {N F : Type 0} where
  pub counts-fit : (cells : List (N × Cell F)) → (progress_of cells).done + (progress_of cells).out ≤ (progress_of cells).nodes
  counts-fit [] = omega arith
  counts-fit ((n, Waiting) ∷ cells) = let k = counts-fit cells in omega (arith, k)
  counts-fit ((n, Out) ∷ cells) = let k = counts-fit cells in omega (arith, k)
  counts-fit ((n, Done f) ∷ cells) = let k = counts-fit cells in omega (arith, k)

  done-cell : (x : N × Cell F) (n : N) (c : Cell F) (f : F) → x ≡ (n, c) → x.1 ≡ Done f → c ≡ Done f
  done-cell x n c f e d = sym (ap (λ (z : N × Cell F). z.1) e) ∙ d

  pub all-counted : (cells : List (N × Cell F)) → (progress_of cells).done ≡ (progress_of cells).nodes → (n : N) (c : Cell F) → Member cells (n, c) → (f : F) × (c ≡ Done f)
  all-counted [] e n c m = absurd m
  all-counted ((x, Waiting) ∷ cells) e n c m = absurd (let k = counts-fit cells in omega (arith, k, e))
  all-counted ((x, Out) ∷ cells) e n c m = absurd (let k = counts-fit cells in omega (arith, k, e))
  all-counted ((x, Done f) ∷ cells) e n c m = ⊎_elim (λ q. (f, done-cell (x, Done f) n c f q refl)) (λ k. all-counted cells (omega (arith, e)) n c k) m

  pub counted-all : (cells : List (N × Cell F)) → ((n : N) (c : Cell F) → Member cells (n, c) → (f : F) × (c ≡ Done f)) → (progress_of cells).done ≡ (progress_of cells).nodes
  counted-all [] h = refl
  counted-all ((x, Waiting) ∷ cells) h = absurd (let k = h x Waiting (inl refl) in let e = k.1 in let b : ⊥ = (cc) in b)
  counted-all ((x, Out) ∷ cells) h = absurd (let k = h x Out (inl refl) in let e = k.1 in let b : ⊥ = (cc) in b)
  counted-all ((x, Done f) ∷ cells) h = let k = counted-all cells (λ n c m. h n c (inr m)) in omega (arith, k)
