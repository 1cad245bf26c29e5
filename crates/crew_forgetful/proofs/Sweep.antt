-- The sweep over the events where boarding may forget: pools that cover, and filtered views, give each duty its front.
use Rattle.std.proofs.Common.{◌≡◌, ℕ, zero, suc, ◌+◌, ◌<◌, Bool, true, List, [], ◌∷◌, ◌++◌, get_or, Option, ◌⊎◌, inl, inr, refl, sym, ◌∙◌, ap, subst, ⊎_elim, arith, length-append}
use Rattle.crew_resource.specs.Members.{Member}
use Rattle.crew_resource.specs.Labels.{IsFront, IsLocal}
use Rattle.crew_resource.specs.Events.{Network, CountLaws, StageLaws, FromFronts, FromPools, Arriving}
use Rattle.crew_resource.proofs.Order.{IsOrder}
use Rattle.crew_resource.proofs.Step as Step
use Rattle.crew_resource.proofs.Step.{Rules, step_covers, step_front}
use Rattle.crew_resource.proofs.Pools.{and_then_out}
use Rattle.crew_resource.proofs.Loop.{get_old, get_new}
use Rattle.crew_forgetful.specs.Forgetful.{Forgetful, Covers}
use Rattle.crew_forgetful.specs.Machinery.Swept.{ForgetfulSwept}
use Rattle.crew_forgetful.specs.Sweeps.{Shown}
use Rattle.crew_forgetful.proofs.Covered.{covers_trans, covers_same}
use Rattle.crew_forgetful.proofs.Views.{waited_pools_cover, filtered_view_local}

module _ (N V W G X : Type 0) (net : Network N V W G X) (one : N → W) (opens : N → Option V) (ext : V → N → N → Option V) (Arc : N → N → Type 0)
    (stages : StageLaws net one opens ext Arc)
    (le same : V → V → Bool) (wle : W → W → Bool) (At Clean : N → V → W → Type 0)
    (rules : Rules N V W one net.more opens ext Arc le wle At Clean)
    (rank : N → ℕ) (rises : (e d : N) → Arc e d → rank e < rank d)
    (Fits : V → W → Type 0) (counts : CountLaws net wle Fits) (alike : (a b : V) (w : W) → same a b ≡ true → Fits a w → Fits b w)
    (forgetful : Forgetful le same net.wait net.board) where
  abbrev pub Right : N → List (V × W) → Type 0
  Right d entries = IsFront le wle (At d) (Clean d) entries × Step.Covers N V W one net.more opens ext Arc le (At d) entries

  -- the number of duties in a partial's sums is its walk's
  fits_below : (n : ℕ) (d : N) → rank d < n → (v : V) (w : W) → At d v w → Fits v w
  fits_below zero d h v w a = absurd (omega arith)
  fits_below (suc n) d h v w a = ⊎_elim
      (λ o.
      let k = and_then_out (λ u. net.board u d) (net.idle (net.leaves d)) v (sym (stages.opens_by d) ∙ o.1) in
      subst (λ z. Fits v z) (sym (o.0 ∙ stages.one_by d)) (counts.board k.0 v net.none d (counts.idle (net.leaves d) k.0 k.1) k.2))
      (λ s.
      let r : rank s.0 < rank d = rises s.0 d s.3 in
      let before = fits_below n s.0 (omega arith) s.1 s.2 s.4 in
      subst (λ z. Fits v z) (sym s.6)
      (counts.board (net.wait s.1 (net.arrives s.0) (net.leaves d)) v s.2 d
      (counts.wait s.1 s.2 (net.arrives s.0) (net.leaves d) before)
      (sym (stages.ext_by s.1 s.0 d s.3) ∙ s.5)))
      (rules.at_out d v w a)

  pub at_fits : (d : N) (v : V) (w : W) → At d v w → Fits v w
  at_fits d v w a = fits_below (rank d + 1) d (omega arith) v w a

  -- pools that cover what the fronts leave at their events, and each front the local part of its view
  module _ (fronts : N → List (V × W)) (pools : G → List (V × W))
      (pool_covers : (d : N) → Member net.known d → Covers le same wle (λ v w. Member (pools (net.leaves d)) (v, w)) (FromFronts net fronts (net.leaves d)))
      (front_local : (d : N) → Member net.known d → IsLocal le wle (Shown net (pools (net.leaves d)) d) (fronts d)) where
    right_step : (d : N) → Member net.known d → ((e : N) → Arc e d → Right e (fronts e)) → Right d (fronts d)
    right_step d known before =
        let local = filtered_view_local N V W G X net le same wle rules.order rules.walks forgetful Fits counts alike one opens ext Arc stages fronts d
        (λ e u w a m. at_fits e u w (rules.clean_at e u w ((before e a).0.clean u w m)))
        (pools (net.leaves d)) (pool_covers d known) (fronts d) (front_local d known) in (
          step_front N V W one net.more opens ext Arc le wle At Clean rules fronts d (fronts d) (λ e a. (before e a).0) (λ e a. (before e a).1) local,
          step_covers N V W one net.more opens ext Arc le wle At Clean rules fronts d (fronts d) (λ e a. (before e a).0) (λ e a. (before e a).1) local,
        )

    right_below : (n : ℕ) (d : N) → rank d < n → Member net.known d → Right d (fronts d)
    right_below zero d h known = absurd (omega arith)
    right_below (suc n) d h known = right_step d known (λ e a.
        let r : rank e < rank d = rises e d a in
        right_below n e (omega arith) (stages.arc_out e d a).0)

    pub forgetful_right : (d : N) → Member net.known d → Right d (fronts d)
    forgetful_right d known = right_below (rank d + 1) d (omega arith) known

  -- pools from arrival pools, these from the filtered fronts
  pub forgetful_sweep : (fronts : N → List (V × W)) (pools : G → List (V × W)) (arrivals : X → List (V × W))
      → ((d : N) → Member net.known d → Covers le same wle (λ v w. Member (pools (net.leaves d)) (v, w)) (FromPools net arrivals (net.leaves d)))
      → ((x : X) → Covers le same wle (λ v w. Member (arrivals x) (v, w)) (Arriving net fronts x))
      → ((d : N) → Member net.known d → IsLocal le wle (Shown net (pools (net.leaves d)) d) (fronts d))
      → (d : N) → Member net.known d → Right d (fronts d)
  forgetful_sweep fronts pools arrivals pool_covers arrival_covers front_local =
      forgetful_right fronts pools
      (λ d known. covers_trans V W le same wle rules.order rules.walks forgetful.same_itself forgetful.same_between
      (λ v w. Member (pools (net.leaves d)) (v, w)) (FromPools net arrivals (net.leaves d)) (FromFronts net fronts (net.leaves d))
      (pool_covers d known)
      (waited_pools_cover N V W G X net le same wle rules.order rules.walks forgetful fronts arrivals (net.leaves d) (λ x _. arrival_covers x)))
      front_local

below_or_at : (k i : ℕ) → k < i + 1 → (k < i) ⊎ (k ≡ i)
below_or_at k i h = grind arith

-- the loop over the departure events in order
module _ (N V W X : Type 0) (net : Network N V W ℕ X) (le same : V → V → Bool) (wle : W → W → Bool) where
  pub forgetful_swept_none : (fronts : N → List (V × W)) (IsMade : X → Type 0) (arrivals : X → List (V × W)) → ((x : X) → IsMade x → ⊥) → ForgetfulSwept net le same wle 0 [] fronts IsMade arrivals
  forgetful_swept_none fronts IsMade arrivals none = record {
    long = refl;
    sealed = λ x m. absurd (none x m);
    arrived = λ x m. absurd (none x m);
    before = λ g h. absurd (omega (arith, h));
    pooled = λ g h. absurd (omega (arith, h));
    filtered = λ d known h. absurd (omega (arith, h));
  }

  -- more arrivals are made
  pub forgetful_swept_made : (i : ℕ) (pools : List (List (V × W))) (fronts : N → List (V × W)) (IsMade IsMade' : X → Type 0) (arrivals arrivals' : X → List (V × W)) → ForgetfulSwept net le same wle i pools fronts IsMade arrivals
      → ((x : X) → IsMade' x → ((e : N) → Member net.known e → net.arrives e ≡ x → net.leaves e < i) × Covers le same wle (λ v w. Member (arrivals' x) (v, w)) (Arriving net fronts x))
      → ForgetfulSwept net le same wle i pools fronts IsMade' arrivals'
  forgetful_swept_made i pools fronts IsMade IsMade' arrivals arrivals' swept each = record {
    long = swept.long;
    sealed = λ x m. (each x m).0;
    arrived = λ x m. (each x m).1;
    before = swept.before;
    pooled = swept.pooled;
    filtered = swept.filtered;
  }

  module _ (order : IsOrder le) (walks : IsOrder wle) (forgetful : Forgetful le same net.wait net.board)
      (i : ℕ) (pools : List (List (V × W))) (fronts : N → List (V × W)) (IsMade : X → Type 0) (arrivals : X → List (V × W)) (swept : ForgetfulSwept net le same wle i pools fronts IsMade arrivals)
      (pool : List (V × W)) (fronts' : N → List (V × W)) (kept : (e : N) → Member net.known e → net.leaves e < i → fronts' e ≡ fronts e) where
    there : (e : N) → Member net.known e → net.leaves e < i → (v : V) (w : W) → Member (fronts e) (v, w) → Member (fronts' e) (v, w)
    there e known h v w m = subst (λ (es : List (V × W)). Member es (v, w)) (sym (kept e known h)) m

    back : (e : N) → Member net.known e → net.leaves e < i → (v : V) (w : W) → Member (fronts' e) (v, w) → Member (fronts e) (v, w)
    back e known h v w m = subst (λ (es : List (V × W)). Member es (v, w)) (kept e known h) m

    arriving_same : (x : X) → IsMade x → Covers le same wle (Arriving net fronts x) (Arriving net fronts' x)
    arriving_same x m = covers_same V W le same wle order walks forgetful.same_itself forgetful.same_between (Arriving net fronts x) (Arriving net fronts' x)
        (λ v w s. (s.0, s.1, s.2, there s.0 s.1 (swept.sealed x m s.0 s.1 s.2) v w s.3))
        (λ v w s. (s.0, s.1, s.2, back s.0 s.1 (swept.sealed x m s.0 s.1 s.2) v w s.3))

    from_same : (g : ℕ) → ((e : N) → Member net.known e → net.window (net.arrives e) g ≡ true → net.leaves e < i) → Covers le same wle (FromFronts net fronts g) (FromFronts net fronts' g)
    from_same g left = covers_same V W le same wle order walks forgetful.same_itself forgetful.same_between (FromFronts net fronts g) (FromFronts net fronts' g)
        (λ v w. ⊎_elim inl (λ s. inr (s.0, s.1, s.2, s.3, there s.0 s.2 (left s.0 s.2 s.3) s.1 w s.4, s.5)))
        (λ v w. ⊎_elim inl (λ s. inr (s.0, s.1, s.2, s.3, back s.0 s.2 (left s.0 s.2 s.3) s.1 w s.4, s.5)))

    -- one departure more, which waits on no duty that leaves later, with what covers the labels that the fronts so far
    -- leave it, and the fronts of its duties
    pub forgetful_swept_with : ((e : N) → Member net.known e → net.window (net.arrives e) i ≡ true → net.leaves e < i)
        → Covers le same wle (λ v w. Member pool (v, w)) (FromFronts net fronts i)
        → ((d : N) → Member net.known d → net.leaves d ≡ i → IsLocal le wle (Shown net pool d) (fronts' d))
        → ForgetfulSwept net le same wle (i + 1) (pools ++ pool ∷ []) fronts' IsMade arrivals
    forgetful_swept_with left covering local =
        let long = swept.long in
        let later = λ (e : N) (h : net.leaves e < i). (let q : net.leaves e < i + 1 = omega (arith, h) in q) in
        let before = λ (g : ℕ) (h : g < i + 1). ⊎_elim {C = (e : N) → Member net.known e → net.window (net.arrives e) g ≡ true → net.leaves e < i} (swept.before g) (λ k. subst (λ n. (e : N) → Member net.known e → net.window (net.arrives e) n ≡ true → net.leaves e < i) (sym k) left) (below_or_at g i h) in
        let chain = λ (p : List (V × W)) (g : ℕ) (h : g < i + 1) (c : Covers le same wle (λ v w. Member p (v, w)) (FromFronts net fronts g)).
        covers_trans V W le same wle order walks forgetful.same_itself forgetful.same_between (λ v w. Member p (v, w)) (FromFronts net fronts g) (FromFronts net fronts' g) c (from_same g (before g h)) in
        record {
          long = length-append pools (pool ∷ []) ∙ ap (λ n. n + 1) long;
          sealed = λ x m e known at. let k = swept.sealed x m e known at in omega (arith, k);
          arrived = λ x m. covers_trans V W le same wle order walks forgetful.same_itself forgetful.same_between (λ v w. Member (arrivals x) (v, w)) (Arriving net fronts x) (Arriving net fronts' x) (swept.arrived x m) (arriving_same x m);
          before = λ g h e known open'. later e (before g h e known open');
          pooled = λ g h.
              chain (get_or (pools ++ pool ∷ []) g []) g h
              (⊎_elim
              (λ k. subst (λ (p : List (V × W)). Covers le same wle (λ v w. Member p (v, w)) (FromFronts net fronts g)) (sym (get_old pools pool [] g (omega (arith, k, long)))) (swept.pooled g k))
              (λ k. subst (λ (p : List (V × W)). Covers le same wle (λ v w. Member p (v, w)) (FromFronts net fronts g)) (sym (get_new pools pool [] g (omega (arith, k, long))))
              (subst (λ n. Covers le same wle (λ v w. Member pool (v, w)) (FromFronts net fronts n)) (sym k) covering))
              (below_or_at g i h));
          filtered = λ d known h. ⊎_elim
              (λ k.
              subst (λ (p : List (V × W)). IsLocal le wle (Shown net p d) (fronts' d)) (sym (get_old pools pool [] (net.leaves d) (omega (arith, k, long))))
              (subst (λ (es : List (V × W)). IsLocal le wle (Shown net (get_or pools (net.leaves d) []) d) es) (sym (kept d known k)) (swept.filtered d known k)))
              (λ k. subst (λ (p : List (V × W)). IsLocal le wle (Shown net p d) (fronts' d)) (sym (get_new pools pool [] (net.leaves d) (omega (arith, k, long)))) (local d known k))
              (below_or_at (net.leaves d) i h);
        }

    -- which waits on arrivals that are made, with what covers the labels that these leave
    pub forgetful_swept_more : ((x : X) → net.window x i ≡ true → IsMade x)
        → Covers le same wle (λ v w. Member pool (v, w)) (FromPools net arrivals i)
        → ((d : N) → Member net.known d → net.leaves d ≡ i → IsLocal le wle (Shown net pool d) (fronts' d))
        → ForgetfulSwept net le same wle (i + 1) (pools ++ pool ∷ []) fronts' IsMade arrivals
    forgetful_swept_more made covering local = forgetful_swept_with
        (λ e known open'. swept.sealed (net.arrives e) (made (net.arrives e) open') e known refl)
        (covers_trans V W le same wle order walks forgetful.same_itself forgetful.same_between (λ v w. Member pool (v, w)) (FromPools net arrivals i) (FromFronts net fronts i) covering
        (waited_pools_cover N V W ℕ X net le same wle order walks forgetful fronts arrivals i (λ x open'. swept.arrived x (made x open'))))
        local

-- after the last departure the fronts of all duties are right
module _ (N V W X : Type 0) (net : Network N V W ℕ X) (one : N → W) (opens : N → Option V) (ext : V → N → N → Option V) (Arc : N → N → Type 0)
    (stages : StageLaws net one opens ext Arc)
    (le same : V → V → Bool) (wle : W → W → Bool) (At Clean : N → V → W → Type 0)
    (rules : Rules N V W one net.more opens ext Arc le wle At Clean)
    (rank : N → ℕ) (rises : (e d : N) → Arc e d → rank e < rank d)
    (Fits : V → W → Type 0) (counts : CountLaws net wle Fits) (alike : (a b : V) (w : W) → same a b ≡ true → Fits a w → Fits b w)
    (forgetful : Forgetful le same net.wait net.board) where
  pub forgetful_swept_right : (i : ℕ) (pools : List (List (V × W))) (fronts : N → List (V × W)) (IsMade : X → Type 0) (arrivals : X → List (V × W)) → ForgetfulSwept net le same wle i pools fronts IsMade arrivals
      → ((d : N) → Member net.known d → net.leaves d < i)
      → (d : N) → Member net.known d → IsFront le wle (At d) (Clean d) (fronts d) × Step.Covers N V W one net.more opens ext Arc le (At d) (fronts d)
  forgetful_swept_right i pools fronts IsMade arrivals swept all d known =
      forgetful_right N V W ℕ X net one opens ext Arc stages le same wle At Clean rules rank rises Fits counts alike forgetful
      fronts (λ g. get_or pools g []) (λ d known. swept.pooled (net.leaves d) (all d known)) (λ d known. swept.filtered d known (all d known)) d known
