-- The loop over the departure events in order: one event more.
use Rattle.std.proofs.Common.{◌≡◌, ℕ, zero, suc, ◌+◌, ◌<◌, Bool, true, List, [], ◌∷◌, ◌++◌, length, get_or, ◌⊎◌, inl, inr, refl, sym, ◌∙◌, ap, subst, ⊎_elim, arith, length-append}
use Rattle.crew_resource.specs.Members.{Member}
use Rattle.crew_resource.specs.Labels.{IsLocal}
use Rattle.crew_resource.specs.Events.{Network, WaitLaws, view, FromFronts, FromPools, Arriving, Views, Swept}
use Rattle.crew_resource.proofs.Order.{IsOrder}
use Rattle.crew_resource.proofs.Covering.{IsCovering, local_of_all, covering_same}
use Rattle.crew_resource.proofs.Pools.{pool_from_pools}

pub get_old : {A : Type 0} (ps : List A) (p z : A) (g : ℕ) → g < length ps → get_or (ps ++ p ∷ []) g z ≡ get_or ps g z
get_old [] p z g h = absurd (omega arith)
get_old (q ∷ ps) p z zero h = refl
get_old (q ∷ ps) p z (suc g) h = get_old ps p z g (omega arith)

pub get_new : {A : Type 0} (ps : List A) (p z : A) (g : ℕ) → g ≡ length ps → get_or (ps ++ p ∷ []) g z ≡ p
get_new [] p z zero h = refl
get_new [] p z (suc g) h = absurd (omega arith)
get_new (q ∷ ps) p z zero h = absurd (omega arith)
get_new (q ∷ ps) p z (suc g) h = get_new ps p z g (omega arith)

below_or_at : (k i : ℕ) → k < i + 1 → (k < i) ⊎ (k ≡ i)
below_or_at k i h = grind arith

module _ (N V W X : Type 0) (net : Network N V W ℕ X) (le : V → V → Bool) (wle : W → W → Bool) where
  pub swept_none : (IsMade : X → Type 0) (arrivals : X → List (V × W)) → ((x : X) → IsMade x → ⊥) → Swept net le wle 0 [] IsMade arrivals
  swept_none IsMade arrivals none = record {
    long = refl;
    sealed = λ x m. absurd (none x m);
    arrived = λ x m. absurd (none x m);
    before = λ g h. absurd (omega (arith, h));
    pooled = λ g h. absurd (omega (arith, h));
  }

  -- more arrivals are made
  pub swept_made : (i : ℕ) (pools : List (List (V × W))) (IsMade IsMade' : X → Type 0) (arrivals arrivals' : X → List (V × W)) → Swept net le wle i pools IsMade arrivals
      → ((x : X) → IsMade x → IsMade' x)
      → ((x : X) → IsMade' x → ((e : N) → Member net.known e → net.arrives e ≡ x → net.leaves e < i) × IsLocal le wle (Arriving net (Views net pools) x) (arrivals' x))
      → Swept net le wle i pools IsMade' arrivals'
  swept_made i pools IsMade IsMade' arrivals arrivals' swept still each = record {
    long = swept.long;
    sealed = λ x m. (each x m).0;
    arrived = λ x m. (each x m).1;
    before = swept.before;
    pooled = swept.pooled;
  }

  module _ (order : IsOrder le) (walks : IsOrder wle) (waits : WaitLaws le net.wait) where
    -- one more pool changes no view of an earlier event
    views_old : (pools : List (List (V × W))) (pool : List (V × W)) (e : N) → net.leaves e < length pools → Views net (pools ++ pool ∷ []) e ≡ Views net pools e
    views_old pools pool e h = ap (view net e) (get_old pools pool [] (net.leaves e) h)

    module _ (i : ℕ) (pools : List (List (V × W))) (IsMade : X → Type 0) (arrivals : X → List (V × W)) (swept : Swept net le wle i pools IsMade arrivals) (pool : List (V × W)) where
      same_view : (x : X) → IsMade x → (e : N) → Member net.known e → net.arrives e ≡ x → Views net (pools ++ pool ∷ []) e ≡ Views net pools e
      same_view x m e known at =
          let k = swept.sealed x m e known at in
          let long = swept.long in
          views_old pools pool e (omega (arith, k, long))

      arriving_same : (x : X) → IsMade x → IsCovering le wle (Arriving net (Views net pools) x) (Arriving net (Views net (pools ++ pool ∷ [])) x)
      arriving_same x m = covering_same V W le wle order walks (Arriving net (Views net pools) x) (Arriving net (Views net (pools ++ pool ∷ [])) x)
          (λ v w s. (s.0, s.1, s.2, subst (λ (es : List (V × W)). Member es (v, w)) (sym (same_view x m s.0 s.1 s.2)) s.3))
          (λ v w s. (s.0, s.1, s.2, subst (λ (es : List (V × W)). Member es (v, w)) (same_view x m s.0 s.1 s.2) s.3))

      left_view : (e : N) → net.leaves e < i → Views net (pools ++ pool ∷ []) e ≡ Views net pools e
      left_view e h = let long = swept.long in views_old pools pool e (omega (arith, h, long))

      from_same : (g : ℕ) → ((e : N) → Member net.known e → net.window (net.arrives e) g ≡ true → net.leaves e < i) → IsCovering le wle (FromFronts net (Views net pools) g) (FromFronts net (Views net (pools ++ pool ∷ [])) g)
      from_same g left = covering_same V W le wle order walks (FromFronts net (Views net pools) g) (FromFronts net (Views net (pools ++ pool ∷ [])) g)
          (λ v w. ⊎_elim inl (λ s. inr (s.0, s.1, s.2, s.3, subst (λ (es : List (V × W)). Member es (s.1, w)) (sym (left_view s.0 (left s.0 s.2 s.3))) s.4, s.5)))
          (λ v w. ⊎_elim inl (λ s. inr (s.0, s.1, s.2, s.3, subst (λ (es : List (V × W)). Member es (s.1, w)) (left_view s.0 (left s.0 s.2 s.3)) s.4, s.5)))

      -- one departure more, which waits on no duty that leaves later, with what the fronts so far leave
      pub swept_with : ((e : N) → Member net.known e → net.window (net.arrives e) i ≡ true → net.leaves e < i) → IsLocal le wle (FromFronts net (Views net pools) i) pool → Swept net le wle (i + 1) (pools ++ pool ∷ []) IsMade arrivals
      swept_with left local =
          let long = swept.long in
          let later = λ (e : N) (h : net.leaves e < i). (let q : net.leaves e < i + 1 = omega (arith, h) in q) in
          let before = λ (g : ℕ) (h : g < i + 1). ⊎_elim {C = (e : N) → Member net.known e → net.window (net.arrives e) g ≡ true → net.leaves e < i} (swept.before g) (λ k. subst (λ n. (e : N) → Member net.known e → net.window (net.arrives e) n ≡ true → net.leaves e < i) (sym k) left) (below_or_at g i h) in
          record {
            long = length-append pools (pool ∷ []) ∙ ap (λ n. n + 1) long;
            sealed = λ x m e known at. let k = swept.sealed x m e known at in omega (arith, k);
            arrived = λ x m. local_of_all V W le wle order walks (Arriving net (Views net pools) x) (Arriving net (Views net (pools ++ pool ∷ [])) x) (arriving_same x m) (arrivals x) (swept.arrived x m);
            before = λ g h e known open'. later e (before g h e known open');
            pooled = λ g h.
                local_of_all V W le wle order walks (FromFronts net (Views net pools) g) (FromFronts net (Views net (pools ++ pool ∷ [])) g) (from_same g (before g h)) (get_or (pools ++ pool ∷ []) g [])
                (⊎_elim
                (λ k. subst (IsLocal le wle (FromFronts net (Views net pools) g)) (sym (get_old pools pool [] g (omega (arith, k, long)))) (swept.pooled g k))
                (λ k. subst (IsLocal le wle (FromFronts net (Views net pools) g)) (sym (get_new pools pool [] g (omega (arith, k, long))))
                (subst (λ n. IsLocal le wle (FromFronts net (Views net pools) n) pool) (sym k) local))
                (below_or_at g i h));
          }

      -- which waits on arrivals that are made, with what these leave
      pub swept_more : ((x : X) → net.window x i ≡ true → IsMade x) → IsLocal le wle (FromPools net arrivals i) pool → Swept net le wle (i + 1) (pools ++ pool ∷ []) IsMade arrivals
      swept_more made local = swept_with (λ e known open'. swept.sealed (net.arrives e) (made (net.arrives e) open') e known refl)
          (pool_from_pools N V W ℕ X net le wle order walks waits (Views net pools) arrivals i (λ x open'. swept.arrived x (made x open')) pool local)
