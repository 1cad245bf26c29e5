-- Views of pools by the rule that looks at walks: filtered, they are the fronts that all labels give.
use Rattle.std.proofs.Common.{◌≡◌, Bool, true, List, Option, Some, None, inl, inr, refl, sym, ◌∙◌, ap, subst, ⊎_elim}
use Rattle.std.specs.Option.{option_and_then}
use Rattle.crew_resource.specs.Members.{Member}
use Rattle.crew_resource.specs.Labels.{IsLocal, IsCovering}
use Rattle.crew_resource.specs.Events.{Network, CountLaws, StageLaws, FromFronts, FromPools, Arriving}
use Rattle.crew_resource.proofs.Order.{IsOrder}
use Rattle.crew_resource.proofs.Step.{Step}
use Rattle.crew_resource.proofs.Pools.{view_in, view_out, and_then_out}
use Rattle.crew_resource.proofs.Covering.{local_of_all, local_of_part}
use Rattle.crew_forgetful.specs.Forgetful.{Forgetful, Covers}
use Rattle.crew_forgetful.specs.Machinery.Swept.{Boarded}
use Rattle.crew_forgetful.specs.Sweeps.{Shown}
use Rattle.crew_forgetful.proofs.Covered.{covers_plainly}

and_then_in : {A B : Type 0} (f : A → Option B) (o : Option A) (a : A) (b : B) → o ≡ Some a → f a ≡ Some b → option_and_then f o ≡ Some b
and_then_in f None a b e k = absurd (let q : ⊥ = (cc) in q)
and_then_in f (Some x) a b e k = let q : x ≡ a = (cc) in ap f q ∙ k

module _ (N V W G X : Type 0) (net : Network N V W G X) (le same : V → V → Bool) (wle : W → W → Bool)
    (order : IsOrder le) (walks : IsOrder wle) (forgetful : Forgetful le same net.wait net.board) where
  -- waiting: the arrival pools stand in place of the duties' fronts
  pub waited_pools_cover : (fronts : N → List (V × W)) (arrivals : X → List (V × W)) (g : G)
      → ((x : X) → net.window x g ≡ true → Covers le same wle (λ v w. Member (arrivals x) (v, w)) (Arriving net fronts x))
      → Covers le same wle (FromPools net arrivals g) (FromFronts net fronts g)
  waited_pools_cover fronts arrivals g covering = record {
    part = λ v w. ⊎_elim inl (λ s.
        let k = (covering s.0 s.2).part s.1 w s.3 in
        inr (k.0, s.1, k.1, ap (λ x. net.window x g) k.2 ∙ s.2, k.3, s.4 ∙ ap (λ x. net.wait s.1 x g) (sym k.2)));
    under = λ x y. ⊎_elim
        (λ o. (x, y, inl o, (order.reflexive x, λ _. walks.reflexive y)))
        (λ s.
        let at = net.arrives s.0 in
        let k = (covering at s.3).under s.1 y (s.0, s.2, refl, s.4) in (
          net.wait k.0 at g,
          k.1,
          inr (at, k.0, s.3, k.2, refl),
          (
            subst (λ z. le (net.wait k.0 at g) z ≡ true) (sym s.5) (forgetful.wait_monotone k.0 s.1 at g k.3.0),
            λ e. k.3.1 (forgetful.wait_keeps k.0 s.1 at g k.3.0 (subst (λ z. same (net.wait k.0 at g) z ≡ true) s.5 e)),
          ),
        ));
  }

  module _ (Fits : V → W → Type 0) (counts : CountLaws net wle Fits) (alike : (a b : V) (w : W) → same a b ≡ true → Fits a w → Fits b w) where
    -- a pool that covers the labels of an event shows at d what covers the labels that board d
    pub boarded_pools_cover : (Label : V → W → Type 0) (fitting : (v : V) (w : W) → Label v w → Fits v w)
        → (pool : List (V × W)) → Covers le same wle (λ v w. Member pool (v, w)) Label
        → (d : N) → Covers le same wle (Shown net pool d) (Boarded net Label d)
    boarded_pools_cover Label fitting pool covering d = record {
      part = λ z y m.
          let k = view_out N V W G X net d pool z y m in
          (k.0, k.1, covering.part k.0 k.1 k.2, k.3, k.4);
      under = λ x y c.
          let k = covering.under c.0 c.1 c.2 in
          let b = forgetful.board_monotone k.0 c.0 x d k.3.0 c.3 in (
            b.0,
            net.more k.1 d,
            view_in N V W G X net d pool k.0 k.1 b.0 k.2 b.1,
            (
              b.2,
              λ e.
                  let kept : same k.0 c.0 ≡ true = forgetful.board_keeps k.0 c.0 b.0 x d k.3.0 b.1 c.3 e in
                  let fits : Fits c.0 k.1 = alike k.0 c.0 k.1 kept (fitting k.0 k.1 (covering.part k.0 k.1 k.2)) in
                  subst (λ z. wle (net.more k.1 d) z ≡ true) (sym c.4) (counts.more_mono c.0 k.1 c.1 d fits (fitting c.0 c.1 c.2) (k.3.1 kept)),
            ),
          );
    }

    -- so with dominance by values at the duty, the entries are those that all labels leave there
    pub covered_views_leave_the_same_front : (Label : V → W → Type 0) (fitting : (v : V) (w : W) → Label v w → Fits v w)
        → (pool : List (V × W)) → Covers le same wle (λ v w. Member pool (v, w)) Label
        → (d : N) (entries : List (V × W))
        → (IsLocal le wle (Shown net pool d) entries → IsLocal le wle (Boarded net Label d) entries)
        × (IsLocal le wle (Boarded net Label d) entries → IsLocal le wle (Shown net pool d) entries)
    covered_views_leave_the_same_front Label fitting pool covering d entries =
        let plain : IsCovering le wle (Shown net pool d) (Boarded net Label d) =
        covers_plainly V W le same wle order walks forgetful.same_itself forgetful.same_between (Shown net pool d) (Boarded net Label d) (boarded_pools_cover Label fitting pool covering d) in (
          local_of_all V W le wle order walks (Shown net pool d) (Boarded net Label d) plain entries,
          local_of_part V W le wle order walks (Shown net pool d) (Boarded net Label d) plain entries,
        )

    module _ (one : N → W) (opens : N → Option V) (ext : V → N → N → Option V) (Arc : N → N → Type 0) (stages : StageLaws net one opens ext Arc)
        (fronts : N → List (V × W)) (d : N) where
      abbrev pub Candidate : V → W → Type 0
      Candidate = Step N V W one net.more opens ext Arc (λ e u y. Member (fronts e) (u, y)) d

      -- the labels of the departure event that board d are the candidates of d
      pub boarded_candidate : (z : V) (y : W) → Boarded net (FromFronts net fronts (net.leaves d)) d z y → Candidate z y
      boarded_candidate z y s = ⊎_elim
          (λ o. inl (s.4 ∙ (ap (λ y. net.more y d) o.0 ∙ sym (stages.one_by d)), stages.opens_by d ∙ and_then_in (λ u. net.board u d) (net.idle (net.leaves d)) s.0 z o.1 s.3))
          (λ c. let arc = stages.arc_in c.0 d c.2 c.3 in
          inr (c.0, c.1, s.1, arc, c.4, stages.ext_by c.1 c.0 d arc ∙ (ap (λ u. net.board u d) (sym c.5) ∙ s.3), s.4))
          s.2

      pub unboarded : (z : V) (y : W) → Candidate z y → Boarded net (FromFronts net fronts (net.leaves d)) d z y
      unboarded z y = ⊎_elim
          (λ o.
          let k = and_then_out (λ u. net.board u d) (net.idle (net.leaves d)) z (sym (stages.opens_by d) ∙ o.1) in
          (k.0, net.none, inl (refl, k.1), k.2, o.0 ∙ stages.one_by d))
          (λ s.
          let a = stages.arc_out s.0 d s.3 in
          (net.wait s.1 (net.arrives s.0) (net.leaves d), s.2, inr (s.0, s.1, a.0, a.1, s.4, refl), sym (stages.ext_by s.1 s.0 d s.3) ∙ s.5, s.6))

      pub from_fits : (fitting : (e : N) (u : V) (w : W) → Arc e d → Member (fronts e) (u, w) → Fits u w)
          → (v : V) (w : W) → FromFronts net fronts (net.leaves d) v w → Fits v w
      from_fits fitting v w = ⊎_elim
          (λ o. subst (λ z. Fits v z) (sym o.0) (counts.idle (net.leaves d) v o.1))
          (λ s. subst (λ z. Fits z w) (sym s.5) (counts.wait s.1 w (net.arrives s.0) (net.leaves d) (fitting s.0 s.1 w (stages.arc_in s.0 d s.2 s.3) s.4)))

      -- the entries of the view of a pool that covers the departure's labels, filtered, are those of all candidates of d
      pub filtered_view_local : (fitting : (e : N) (u : V) (w : W) → Arc e d → Member (fronts e) (u, w) → Fits u w)
          → (pool : List (V × W)) → Covers le same wle (λ v w. Member pool (v, w)) (FromFronts net fronts (net.leaves d))
          → (entries : List (V × W)) → IsLocal le wle (Shown net pool d) entries → IsLocal le wle Candidate entries
      filtered_view_local fitting pool covering entries local =
          let k = (covered_views_leave_the_same_front (FromFronts net fronts (net.leaves d)) (from_fits fitting) pool covering d entries).0 local in
          record {
            among = λ v w m. boarded_candidate v w (k.among v w m);
            covers = λ x y c. k.covers x y (unboarded x y c);
            alone = k.alone;
          }
