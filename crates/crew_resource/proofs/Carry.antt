-- A node that no change reaches has the same partials, and so the same front.
use Rattle.std.proofs.Common.{◌≡◌, ℕ, zero, suc, ◌+◌, ◌<◌, Bool, List, Option, inl, inr, sym, ◌∙◌, ⊎_elim, arith}
use Rattle.crew_resource.specs.Members.{Member}
use Rattle.crew_resource.specs.Labels.{Undominated, IsFront}
use Rattle.crew_resource.proofs.Step.{Step, Rules}

-- from the first graph to the second, along what is the same in both
module _ (N V W : Type 0) (one : N → W) (more : W → N → W) (le : V → V → Bool) (wle : W → W → Bool)
    (opens opens' : N → Option V) (ext ext' : V → N → N → Option V) (preds preds' : N → List N)
    (rank : N → ℕ) (rises : (e d : N) → Member (preds d) e → rank e < rank d)
    (Same : N → Type 0)
    (same_opens : (d : N) → Same d → opens d ≡ opens' d)
    (same_ext : (u : V) (e d : N) → Same d → ext u e d ≡ ext' u e d)
    (same_preds : (d e : N) → Same d → Member (preds d) e → Member (preds' d) e × Same e) where
  -- what holds by one step from what holds before carries over
  pub carried_below : (P Q : N → V → W → Type 0)
      → ((d : N) (v : V) (w : W) → P d v w → Step N V W one more opens ext (λ e d. Member (preds d) e) P d v w)
      → ((d : N) (v : V) (w : W) → Same d → P d v w → Step N V W one more opens' ext' (λ e d. Member (preds' d) e) Q d v w → Q d v w)
      → (n : ℕ) (d : N) → rank d < n → Same d → (v : V) (w : W) → P d v w → Q d v w
  carried_below P Q out in' zero d h s v w p = absurd (omega arith)
  carried_below P Q out in' (suc n) d h s v w p = in' d v w s p (⊎_elim
      (λ o. inl (o.0, sym (same_opens d s) ∙ o.1))
      (λ k.
      let r : rank k.0 < rank d = rises k.0 d k.3 in
      let a = same_preds d k.0 s k.3 in
      inr (k.0, k.1, k.2, a.0, carried_below P Q out in' n k.0 (omega arith) a.1 k.1 k.2 k.4, sym (same_ext k.1 k.0 d s) ∙ k.5, k.6))
      (out d v w p))

  pub carried : (P Q : N → V → W → Type 0)
      → ((d : N) (v : V) (w : W) → P d v w → Step N V W one more opens ext (λ e d. Member (preds d) e) P d v w)
      → ((d : N) (v : V) (w : W) → Same d → P d v w → Step N V W one more opens' ext' (λ e d. Member (preds' d) e) Q d v w → Q d v w)
      → (d : N) → Same d → (v : V) (w : W) → P d v w → Q d v w
  carried P Q out in' d s v w p = carried_below P Q out in' (rank d + 1) d (omega arith) s v w p

module _ (N V W : Type 0) (one : N → W) (more : W → N → W) (le : V → V → Bool) (wle : W → W → Bool)
    (opens opens' : N → Option V) (ext ext' : V → N → N → Option V) (preds preds' : N → List N)
    (At Clean At' Clean' : N → V → W → Type 0)
    (rules : Rules N V W one more opens ext (λ e d. Member (preds d) e) le wle At Clean)
    (rules' : Rules N V W one more opens' ext' (λ e d. Member (preds' d) e) le wle At' Clean')
    (rank : N → ℕ) (rises : (e d : N) → Member (preds d) e → rank e < rank d) (rises' : (e d : N) → Member (preds' d) e → rank e < rank d)
    (Same : N → Type 0)
    (same_opens : (d : N) → Same d → opens d ≡ opens' d)
    (same_ext : (u : V) (e d : N) → Same d → ext u e d ≡ ext' u e d)
    (same_preds : (d e : N) → Same d → Member (preds d) e → Member (preds' d) e × Same e)
    (same_preds' : (d e : N) → Same d → Member (preds' d) e → Member (preds d) e × Same e) where
  at_there : (d : N) → Same d → (v : V) (w : W) → At d v w → At' d v w
  at_there = carried N V W one more le wle opens opens' ext ext' preds preds' rank rises Same same_opens same_ext same_preds At At' rules.at_out (λ d v w s p q. rules'.at_in d v w q)

  at_back : (d : N) → Same d → (v : V) (w : W) → At' d v w → At d v w
  at_back = carried N V W one more le wle opens' opens ext' ext preds' preds rank rises' Same (λ d s. sym (same_opens d s)) (λ u e d s. sym (same_ext u e d s)) same_preds' At' At rules'.at_out (λ d v w s p q. rules.at_in d v w q)

  undominated_there : (d : N) → Same d → (v : V) → Undominated le (At d) v → Undominated le (At' d) v
  undominated_there d s v u = record { walk = u.walk; has = at_there d s v u.walk u.has; unbeaten = λ x y a. u.unbeaten x y (at_back d s x y a) }

  undominated_back : (d : N) → Same d → (v : V) → Undominated le (At' d) v → Undominated le (At d) v
  undominated_back d s v u = record { walk = u.walk; has = at_back d s v u.walk u.has; unbeaten = λ x y a. u.unbeaten x y (at_there d s x y a) }

  clean_there : (d : N) → Same d → (v : V) (w : W) → Clean d v w → Clean' d v w
  clean_there = carried N V W one more le wle opens opens' ext ext' preds preds' rank rises Same same_opens same_ext same_preds Clean Clean' rules.clean_out
      (λ d v w s p q. rules'.clean_in d v w q (undominated_there d s v (rules.clean_undominated d v w p)))

  clean_back : (d : N) → Same d → (v : V) (w : W) → Clean' d v w → Clean d v w
  clean_back = carried N V W one more le wle opens' opens ext' ext preds' preds rank rises' Same (λ d s. sym (same_opens d s)) (λ u e d s. sym (same_ext u e d s)) same_preds' Clean' Clean rules'.clean_out
      (λ d v w s p q. rules.clean_in d v w q (undominated_back d s v (rules'.clean_undominated d v w p)))

  -- the front is the same
  pub front_kept : (d : N) → Same d → (entries : List (V × W)) → IsFront le wle (At d) (Clean d) entries → IsFront le wle (At' d) (Clean' d) entries
  front_kept d s entries f = record {
    clean = λ v w m. clean_there d s v w (f.clean v w m);
    undominated = λ v w m. undominated_there d s v (f.undominated v w m);
    least = λ v w y m k. f.least v w y m (clean_back d s v y k);
    every = λ v u. f.every v (undominated_back d s v u);
  }
