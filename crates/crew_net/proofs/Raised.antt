-- Numbers that are raised at the places of some ranks, one rank after another.
use Rattle.std.proofs.Common.{◌≡◌, ◌<◌, ◌≤◌, ◌+◌, ◌++◌, ◌∷◌, ◌⊎◌, [], inl, inr, ℕ, List, length, max, set, take, get_or, refl, sym, ap, subst, ◌∙◌, arith, ⊎_elim}
use Rattle.std.proofs.lemmas.Bool.Decides.{eqb_tells}
use Rattle.std.proofs.lemmas.Grind.{get_or-set_at}
use Rattle.std.proofs.lemmas.List.{get_or-set_other, take_more}
use Rattle.crew_resource.specs.Members.{Member}
use Rattle.crew_resource.proofs.Members.{Member-append, Member-append_left, Member-append_right}
use Rattle.crew_net.specs.Machinery.Raised.{IsRaised}

greater : (a b : ℕ) → (max a b ≡ a) ⊎ (max a b ≡ b)
greater a b = grind arith

-- one rank more
module _ (first next places ranks : List ℕ) (i layer : ℕ) (h : i < length ranks) (bound : get_or places (get_or ranks i 0) 0 < length next) where
  abbrev place : ℕ
  place = get_or places (get_or ranks i 0) 0

  abbrev now : List ℕ
  now = set next place (max (get_or next place 0) layer)

  more : take (i + 1) ranks ≡ take i ranks ++ get_or ranks i 0 ∷ []
  more = take_more ranks i 0 h

  here : get_or now place 0 ≡ max (get_or next place 0) layer
  here = get_or-set_at next place place (max (get_or next place 0) layer) 0 refl bound

  other : (k : ℕ) → (place ≡ k → ⊥) → get_or now k 0 ≡ get_or next k 0
  other k ne = get_or-set_other next place k (max (get_or next place 0) layer) 0 (λ e. ne (sym e))

  at-least : (k : ℕ) → get_or next k 0 ≤ get_or now k 0
  at-least k = ⊎_elim {C = get_or next k 0 ≤ get_or now k 0}
      (λ t. (let e = here in subst (λ (n : ℕ). get_or next n 0 ≤ get_or now n 0) t.1 (omega (arith, e))))
      (λ f. (let e = other k f.1 in omega (arith, e)))
      (eqb_tells place k)

  pub raise-kept : ((k : ℕ) → get_or first k 0 ≤ get_or next k 0) → (k : ℕ) → get_or first k 0 ≤ get_or now k 0
  raise-kept kept k = let a = kept k in let b = at-least k in omega (arith, a, b)

  pub raise-there : ((rank : ℕ) → Member (take i ranks) rank → layer ≤ get_or next (get_or places rank 0) 0)
      → (rank : ℕ) → Member (take (i + 1) ranks) rank → layer ≤ get_or now (get_or places rank 0) 0
  raise-there there rank m =
      ⊎_elim {C = layer ≤ get_or now (get_or places rank 0) 0}
      (λ k. (let a = there rank k in let b = at-least (get_or places rank 0) in omega (arith, a, b)))
      (λ k. ⊎_elim {C = layer ≤ get_or now (get_or places rank 0) 0}
      (λ e. subst (λ (r : ℕ). layer ≤ get_or now (get_or places r 0) 0) e (let v = here in omega (arith, v)))
      (λ z. absurd z) k)
      (Member-append (take i ranks) (get_or ranks i 0 ∷ []) rank (subst (λ (rs : List ℕ). Member rs rank) more m))

  later : (k n : ℕ) → IsRaised (take i ranks) places layer k n → IsRaised (take (i + 1) ranks) places layer k n
  later k n r = (r.0, r.1, subst (λ (rs : List ℕ). Member rs r.1) (sym more) (Member-append_left (take i ranks) (get_or ranks i 0 ∷ []) r.1 r.2), r.3)

  mine : Member (take (i + 1) ranks) (get_or ranks i 0)
  mine = subst (λ (rs : List ℕ). Member rs (get_or ranks i 0)) (sym more) (Member-append_right (take i ranks) (get_or ranks i 0 ∷ []) (get_or ranks i 0) (inl refl))

  abbrev From : ℕ → Type 0
  From k = (get_or now k 0 ≡ get_or first k 0) ⊎ IsRaised (take (i + 1) ranks) places layer k (get_or now k 0)

  as-before : (k : ℕ) → (get_or next k 0 ≡ get_or first k 0) ⊎ IsRaised (take i ranks) places layer k (get_or next k 0) → get_or now k 0 ≡ get_or next k 0 → From k
  as-before k was e = ⊎_elim {C = From k} (λ p. inl (e ∙ p)) (λ r. inr (subst (IsRaised (take (i + 1) ranks) places layer k) (sym e) (later k (get_or next k 0) r))) was

  pub raise-from : ((k : ℕ) → (get_or next k 0 ≡ get_or first k 0) ⊎ IsRaised (take i ranks) places layer k (get_or next k 0)) → (k : ℕ) → From k
  raise-from was k = ⊎_elim {C = From k}
      (λ t. ⊎_elim {C = From k}
      (λ e. as-before k (was k) (subst (λ (n : ℕ). get_or now n 0 ≡ get_or next n 0) t.1 (here ∙ e)))
      (λ e. inr (ap (λ (n : ℕ). get_or now n 0) (sym t.1) ∙ (here ∙ e), get_or ranks i 0, mine, t.1))
      (greater (get_or next place 0) layer))
      (λ f. as-before k (was k) (other k f.1))
      (eqb_tells place k)
