-- The sweep over the events: pools that are local at each event give each duty its front.
use Rattle.std.proofs.Common.{ℕ, zero, suc, ◌+◌, ◌<◌, Bool, List, Option, sym, ◌∙◌, ap, subst, ⊎_elim, arith}
use Rattle.crew_resource.specs.Members.{Member}
use Rattle.crew_resource.specs.Labels.{IsFront, IsLocal}
use Rattle.crew_resource.specs.Events.{Network, WaitLaws, BoardLaws, Reflects, CountLaws, StageLaws, view, FromFronts, FromPools, Arriving}
use Rattle.crew_resource.proofs.Order.{IsOrder}
use Rattle.crew_resource.proofs.Step.{Rules, Covers, step_covers, step_front}
use Rattle.crew_resource.proofs.Covering.{IsCovering, local_of_part}
use Rattle.crew_resource.proofs.Pools.{filtered_local, view_out, pool_from_pools, and_then_out, some_same}

module _ (N V W G X : Type 0) (net : Network N V W G X) (one : N → W) (opens : N → Option V) (ext : V → N → N → Option V) (Arc : N → N → Type 0)
    (stages : StageLaws net one opens ext Arc)
    (le : V → V → Bool) (wle : W → W → Bool) (At Clean : N → V → W → Type 0)
    (rules : Rules N V W one net.more opens ext Arc le wle At Clean)
    (rank : N → ℕ) (rises : (e d : N) → Arc e d → rank e < rank d)
    (Fits : V → W → Type 0) (counts : CountLaws net wle Fits) (boards : BoardLaws le net.board) where
  abbrev pub Right : N → List (V × W) → Type 0
  Right d entries = IsFront le wle (At d) (Clean d) entries × Covers N V W one net.more opens ext Arc le (At d) entries

  -- the number of duties in a partial's vector is its walk's
  fits_below : (n : ℕ) (d : N) → rank d < n → (v : V) (w : W) → At d v w → Fits v w
  fits_below zero d h v w a = absurd (omega arith)
  fits_below (suc n) d h v w a = ⊎_elim
      (λ o.
      let k = and_then_out (λ u. net.board u d) (net.idle (net.leaves d)) v (sym (stages.opens_by d) ∙ o.1) in
      subst (λ z. Fits v z) (sym (o.0 ∙ stages.one_by d)) (counts.board k.0 v net.none d (counts.idle (net.leaves d) k.0 k.1) k.2))
      (λ s.
      let r : rank s.0 < rank d = rises s.0 d s.3 in
      let before = fits_below n s.0 (omega arith) s.1 s.2 s.4 in
      subst (λ z. Fits v z) (sym s.6)
      (counts.board (net.wait s.1 (net.arrives s.0) (net.leaves d)) v s.2 d
      (counts.wait s.1 s.2 (net.arrives s.0) (net.leaves d) before)
      (sym (stages.ext_by s.1 s.0 d s.3) ∙ s.5)))
      (rules.at_out d v w a)

  pub at_fits : (d : N) (v : V) (w : W) → At d v w → Fits v w
  at_fits d v w a = fits_below (rank d + 1) d (omega arith) v w a

  -- pools from the duties' fronts, and each front the local part of its view
  module _ (fronts : N → List (V × W)) (pools : G → List (V × W))
      (pool_local : (d : N) → Member net.known d → IsLocal le wle (FromFronts net fronts (net.leaves d)) (pools (net.leaves d)))
      (front_local : (d : N) → Member net.known d → IsLocal le wle (λ v w. Member (view net d (pools (net.leaves d))) (v, w)) (fronts d)) where
    right_step : (d : N) → Member net.known d → ((e : N) → Arc e d → Right e (fronts e)) → Right d (fronts d)
    right_step d known before =
        let local = filtered_local N V W G X net le wle rules.order rules.walks one opens ext Arc stages Fits counts boards fronts d
        (λ e u w a m. at_fits e u w (rules.clean_at e u w ((before e a).0.clean u w m)))
        (pools (net.leaves d)) (pool_local d known) (fronts d) (front_local d known) in (
          step_front N V W one net.more opens ext Arc le wle At Clean rules fronts d (fronts d) (λ e a. (before e a).0) (λ e a. (before e a).1) local,
          step_covers N V W one net.more opens ext Arc le wle At Clean rules fronts d (fronts d) (λ e a. (before e a).0) (λ e a. (before e a).1) local,
        )

    right_below : (n : ℕ) (d : N) → rank d < n → Member net.known d → Right d (fronts d)
    right_below zero d h known = absurd (omega arith)
    right_below (suc n) d h known = right_step d known (λ e a.
        let r : rank e < rank d = rises e d a in
        right_below n e (omega arith) (stages.arc_out e d a).0)

    pub filtered_right : (d : N) → Member net.known d → Right d (fronts d)
    filtered_right d known = right_below (rank d + 1) d (omega arith) known

  -- pools from arrival pools
  pub filtered_sweep : WaitLaws le net.wait → (fronts : N → List (V × W)) (pools : G → List (V × W)) (arrivals : X → List (V × W))
      → ((d : N) → Member net.known d → IsLocal le wle (FromPools net arrivals (net.leaves d)) (pools (net.leaves d)))
      → ((x : X) → IsLocal le wle (Arriving net fronts x) (arrivals x))
      → ((d : N) → Member net.known d → IsLocal le wle (λ v w. Member (view net d (pools (net.leaves d))) (v, w)) (fronts d))
      → (d : N) → Member net.known d → Right d (fronts d)
  filtered_sweep waits fronts pools arrivals pool_local arrival_local front_local =
      filtered_right fronts pools
      (λ d known. pool_from_pools N V W G X net le wle rules.order rules.walks waits fronts arrivals (net.leaves d) (λ x _. arrival_local x) (pools (net.leaves d)) (pool_local d known))
      front_local

  -- where boarding reflects the order: the view is the front
  module _ (reflects : Reflects le net.board) (pools : G → List (V × W)) where
    abbrev pub Shown : N → List (V × W)
    Shown d = view net d (pools (net.leaves d))

    view_own : (d : N) → IsLocal le wle (FromFronts net Shown (net.leaves d)) (pools (net.leaves d)) → IsLocal le wle (λ v w. Member (Shown d) (v, w)) (Shown d)
    view_own d local = record {
      among = λ v w m. m;
      covers = λ x y m. (x, y, m, rules.order.reflexive x, λ _. rules.walks.reflexive y);
      alone = λ v w x y m n h.
          let a = view_out N V W G X net d (pools (net.leaves d)) v w m in
          let b = view_out N V W G X net d (pools (net.leaves d)) x y n in
          let same = local.alone a.0 a.1 b.0 b.1 a.2 b.2 (reflects a.0 b.0 v x d a.3 b.3 h) in
          (some_same v x (net.board b.0 d) (ap (λ z. net.board z d) (sym same.0) ∙ a.3) b.3, a.4 ∙ (ap (λ z. net.more z d) same.1 ∙ sym b.4));
    }

    pub views_right : ((d : N) → Member net.known d → IsLocal le wle (FromFronts net Shown (net.leaves d)) (pools (net.leaves d)))
        → (d : N) → Member net.known d → Right d (Shown d)
    views_right pool_local = filtered_right Shown pools pool_local (λ d known. view_own d (pool_local d known))

    pub sweep : WaitLaws le net.wait → (arrivals : X → List (V × W))
        → ((d : N) → Member net.known d → IsLocal le wle (FromPools net arrivals (net.leaves d)) (pools (net.leaves d)))
        → ((x : X) → IsLocal le wle (Arriving net Shown x) (arrivals x))
        → (d : N) → Member net.known d → Right d (Shown d)
    sweep waits arrivals pool_local arrival_local =
        views_right (λ d known. pool_from_pools N V W G X net le wle rules.order rules.walks waits Shown arrivals (net.leaves d) (λ x _. arrival_local x) (pools (net.leaves d)) (pool_local d known))

-- an arrival pool is the same from the views as from the fronts, which are their local parts
module _ (N V W G X : Type 0) (net : Network N V W G X) (le : V → V → Bool) (wle : W → W → Bool) (order : IsOrder le) (walks : IsOrder wle)
    (fronts views : N → List (V × W)) (x : X)
    (front_local : (d : N) → Member net.known d → IsLocal le wle (λ v w. Member (views d) (v, w)) (fronts d)) where
  pub fronts_cover_views : IsCovering le wle (Arriving net fronts x) (Arriving net views x)
  fronts_cover_views = record {
    part = λ v w s. (s.0, s.1, s.2, (front_local s.0 s.1).among v w s.3);
    under = λ v w s.
        let k = (front_local s.0 s.1).covers v w s.3 in
        (k.0, k.1, (s.0, s.1, s.2, k.2), k.3, k.4);
  }

  pub arrival_of_fronts : (entries : List (V × W)) → IsLocal le wle (Arriving net views x) entries → IsLocal le wle (Arriving net fronts x) entries
  arrival_of_fronts entries = local_of_part V W le wle order walks (Arriving net fronts x) (Arriving net views x) fronts_cover_views entries
