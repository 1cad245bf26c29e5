-- The pool of a departure event, and its view at each duty that leaves then.
use Rattle.std.proofs.Common.{◌≡◌, Bool, true, List, Option, Some, None, inl, inr, refl, sym, ◌∙◌, ap, subst, ⊎_elim}
use Rattle.std.specs.Option.{option_and_then}
use Rattle.crew_resource.specs.Members.{Member}
use Rattle.crew_resource.specs.Labels.{IsLocal}
use Rattle.crew_resource.specs.Events.{Network, WaitLaws, BoardLaws, Reflects, CountLaws, StageLaws, labelled, view, FromFronts, FromPools, Arriving}
use Rattle.crew_resource.proofs.Order.{IsOrder}
use Rattle.crew_resource.proofs.Step.{Step}
use Rattle.crew_resource.proofs.Members.{Member-flat_map_in, Member-flat_map_out}
use Rattle.crew_resource.proofs.Covering.{IsCovering, local_of_all}

-- what reflects the order keeps values apart
pub strict_from_reflects : {N V : Type 0} (le : V → V → Bool) (board : V → N → Option V) → IsOrder le → Reflects le board
    → (a b c : V) (d : N) → le a b ≡ true → board a d ≡ Some c → board b d ≡ Some c → a ≡ b
strict_from_reflects le board order reflects a b c d h p q = order.antisymmetric a b h (reflects b a c c d q p (order.reflexive c))

and_then_in : {A B : Type 0} (f : A → Option B) (o : Option A) (a : A) (b : B) → o ≡ Some a → f a ≡ Some b → option_and_then f o ≡ Some b
and_then_in f None a b e k = absurd (let q : ⊥ = (cc) in q)
and_then_in f (Some x) a b e k = let q : x ≡ a = (cc) in ap f q ∙ k

pub and_then_out : {A B : Type 0} (f : A → Option B) (o : Option A) (b : B) → option_and_then f o ≡ Some b → (a : A) × (o ≡ Some a) × (f a ≡ Some b)
and_then_out f None b e = absurd (let q : ⊥ = (cc) in q)
and_then_out f (Some x) b e = (x, refl, e)

pub some_same : {A : Type 0} (a b : A) (o : Option A) → o ≡ Some a → o ≡ Some b → a ≡ b
some_same a b o p q = cc

labelled_out : {V W : Type 0} (o : Option V) (y : W) (v : V) (w : W) → Member (labelled o y) (v, w) → (o ≡ Some v) × (w ≡ y)
labelled_out None y v w m = absurd m
labelled_out (Some x) y v w (inl e) = (ap (λ p. Some p.0) e, ap (λ p. p.1) (sym e))
labelled_out (Some x) y v w (inr b) = absurd b

labelled_in : {V W : Type 0} (o : Option V) (y : W) (v : V) → o ≡ Some v → Member (labelled o y) (v, y)
labelled_in None y v e = absurd (let q : ⊥ = (cc) in q)
labelled_in (Some x) y v e = inl (let q : x ≡ v = (cc) in ap (λ z. (z, y)) q)

module _ (N V W G X : Type 0) (net : Network N V W G X) where
  -- an entry of the view is an entry of the pool that boards
  pub view_out : (d : N) (pool : List (V × W)) (z : V) (w : W) → Member (view net d pool) (z, w)
      → (v : V) × (y : W) × Member pool (v, y) × (net.board v d ≡ Some z) × (w ≡ net.more y d)
  view_out d pool z w m =
      let k = Member-flat_map_out (λ (e : V × W). labelled (net.board e.0 d) (net.more e.1 d)) pool (z, w) m in
      let o = labelled_out (net.board k.0.0 d) (net.more k.0.1 d) z w k.2 in
      (k.0.0, k.0.1, k.1, o.0, o.1)

  pub view_in : (d : N) (pool : List (V × W)) (v : V) (y : W) (z : V) → Member pool (v, y) → net.board v d ≡ Some z → Member (view net d pool) (z, net.more y d)
  view_in d pool v y z m e = Member-flat_map_in (λ (q : V × W). labelled (net.board q.0 d) (net.more q.1 d)) pool (v, y) (z, net.more y d) m (labelled_in (net.board v d) (net.more y d) z e)

  module _ (le : V → V → Bool) (wle : W → W → Bool) (order : IsOrder le) (walks : IsOrder wle) where
    -- waiting: the arrival pools stand in place of the duties' fronts
    pub pools_cover : WaitLaws le net.wait → (fronts : N → List (V × W)) (arrivals : X → List (V × W)) (g : G)
        → ((x : X) → net.window x g ≡ true → IsLocal le wle (Arriving net fronts x) (arrivals x))
        → IsCovering le wle (FromPools net arrivals g) (FromFronts net fronts g)
    pools_cover laws fronts arrivals g local = record {
      part = λ v w. ⊎_elim inl (λ s.
          let k = (local s.0 s.2).among s.1 w s.3 in
          inr (k.0, s.1, k.1, ap (λ x. net.window x g) k.2 ∙ s.2, k.3, s.4 ∙ ap (λ x. net.wait s.1 x g) (sym k.2)));
      under = λ x y. ⊎_elim
          (λ o. (x, y, inl o, order.reflexive x, λ _. walks.reflexive y))
          (λ s.
          let at = net.arrives s.0 in
          let k = (local at s.3).covers s.1 y (s.0, s.2, refl, s.4) in (
            net.wait k.0 at g,
            k.1,
            inr (at, k.0, s.3, k.2, refl),
            subst (λ z. le (net.wait k.0 at g) z ≡ true) (sym s.5) (laws.monotone k.0 s.1 at g k.3),
            λ e. k.4 (laws.strict k.0 s.1 at g k.3 (e ∙ s.5)),
          ));
    }

    -- so the pool of a departure event is the same from either
    pub pool_from_pools : WaitLaws le net.wait → (fronts : N → List (V × W)) (arrivals : X → List (V × W)) (g : G)
        → ((x : X) → net.window x g ≡ true → IsLocal le wle (Arriving net fronts x) (arrivals x))
        → (pool : List (V × W)) → IsLocal le wle (FromPools net arrivals g) pool → IsLocal le wle (FromFronts net fronts g) pool
    pool_from_pools laws fronts arrivals g local pool = local_of_all V W le wle order walks (FromPools net arrivals g) (FromFronts net fronts g) (pools_cover laws fronts arrivals g local) pool

    module _ (one : N → W) (opens : N → Option V) (ext : V → N → N → Option V) (Arc : N → N → Type 0) (stages : StageLaws net one opens ext Arc)
        (Fits : V → W → Type 0) (counts : CountLaws net wle Fits)
        (boards : BoardLaws le net.board)
        (fronts : N → List (V × W)) (d : N) (fitting : (e : N) (u : V) (w : W) → Arc e d → Member (fronts e) (u, w) → Fits u w)
        (pool : List (V × W)) (local : IsLocal le wle (FromFronts net fronts (net.leaves d)) pool) where
      abbrev pub Candidate : V → W → Type 0
      Candidate = Step N V W one net.more opens ext Arc (λ e u y. Member (fronts e) (u, y)) d

      from_fits : (v : V) (w : W) → FromFronts net fronts (net.leaves d) v w → Fits v w
      from_fits v w = ⊎_elim
          (λ o. subst (λ z. Fits v z) (sym o.0) (counts.idle (net.leaves d) v o.1))
          (λ s. subst (λ z. Fits z w) (sym s.5) (counts.wait s.1 w (net.arrives s.0) (net.leaves d) (fitting s.0 s.1 w (stages.arc_in s.0 d s.2 s.3) s.4)))

      -- a candidate of the departure that boards is a candidate of the duty
      boarded_candidate : (v z : V) (w : W) → FromFronts net fronts (net.leaves d) v w → net.board v d ≡ Some z → Candidate z (net.more w d)
      boarded_candidate v z w c b = ⊎_elim
          (λ o. inl (ap (λ y. net.more y d) o.0 ∙ sym (stages.one_by d), stages.opens_by d ∙ and_then_in (λ u. net.board u d) (net.idle (net.leaves d)) v z o.1 b))
          (λ s. let arc = stages.arc_in s.0 d s.2 s.3 in
          inr (s.0, s.1, w, arc, s.4, stages.ext_by s.1 s.0 d arc ∙ (ap (λ u. net.board u d) (sym s.5) ∙ b), refl))
          c

      -- and each candidate of the duty is one that boards
      unboarded : (z : V) (y : W) → Candidate z y → (v : V) × (w : W) × FromFronts net fronts (net.leaves d) v w × (net.board v d ≡ Some z) × (y ≡ net.more w d)
      unboarded z y = ⊎_elim
          (λ o.
          let k = and_then_out (λ u. net.board u d) (net.idle (net.leaves d)) z (sym (stages.opens_by d) ∙ o.1) in
          (k.0, net.none, inl (refl, k.1), k.2, o.0 ∙ stages.one_by d))
          (λ s.
          let a = stages.arc_out s.0 d s.3 in
          (net.wait s.1 (net.arrives s.0) (net.leaves d), s.2, inr (s.0, s.1, a.0, a.1, s.4, refl), sym (stages.ext_by s.1 s.0 d s.3) ∙ s.5, s.6))

      -- the view covers the candidates of the duty
      pub view_covers : IsCovering le wle (λ v w. Member (view net d pool) (v, w)) Candidate
      view_covers = record {
        part = λ z w m.
            let k = view_out d pool z w m in
            subst (Candidate z) (sym k.4) (boarded_candidate k.0 z k.1 (local.among k.0 k.1 k.2) k.3);
        under = λ x y c.
            let s = unboarded x y c in
            let k = local.covers s.0 s.1 s.2 in
            let b = boards.monotone k.0 s.0 x d k.3 s.3 in (
              b.0,
              net.more k.1 d,
              view_in d pool k.0 k.1 b.0 k.2 b.1,
              b.2,
              λ e.
                  let same : k.0 ≡ s.0 = boards.strict k.0 s.0 x d k.3 (b.1 ∙ ap (λ z. Some z) e) s.3 in
                  let fits : Fits s.0 k.1 = subst (λ z. Fits z k.1) same (from_fits k.0 k.1 (local.among k.0 k.1 k.2)) in
                  subst (λ z. wle (net.more k.1 d) z ≡ true) (sym s.4) (counts.more_mono s.0 k.1 s.1 d fits (from_fits s.0 s.1 s.2) (k.4 same)),
            );
      }

      -- where boarding reflects the order, no entry of the view is at most another
      view_alone : Reflects le net.board → (v : V) (w : W) (x : V) (y : W) → Member (view net d pool) (v, w) → Member (view net d pool) (x, y) → le v x ≡ true → (v ≡ x) × (w ≡ y)
      view_alone reflects v w x y m n h =
          let a = view_out d pool v w m in
          let b = view_out d pool x y n in
          let same = local.alone a.0 a.1 b.0 b.1 a.2 b.2 (reflects a.0 b.0 v x d a.3 b.3 h) in
          (some_same v x (net.board b.0 d) (ap (λ z. net.board z d) (sym same.0) ∙ a.3) b.3, a.4 ∙ (ap (λ z. net.more z d) same.1 ∙ sym b.4))

      -- the view of the pool is the local part of the candidates of the duty, with no test of dominance
      pub view_local : Reflects le net.board → IsLocal le wle Candidate (view net d pool)
      view_local reflects = record {
        among = view_covers.part;
        covers = view_covers.under;
        alone = view_alone reflects;
      }

      -- where it does not reflect it, the local part of the view is
      pub filtered_local : (entries : List (V × W)) → IsLocal le wle (λ v w. Member (view net d pool) (v, w)) entries → IsLocal le wle Candidate entries
      filtered_local entries = local_of_all V W le wle order walks (λ v w. Member (view net d pool) (v, w)) Candidate view_covers entries
