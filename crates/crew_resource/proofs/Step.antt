-- The front of a node from the fronts of its predecessors.
use Rattle.std.proofs.Common.{◌≡◌, Bool, true, List, Option, Some, ◌⊎◌, inl, inr, refl, sym, subst, ⊎_elim}
use Rattle.crew_resource.specs.Members.{Member}
use Rattle.crew_resource.specs.Labels.{Undominated, IsFront, IsLocal}
use Rattle.crew_resource.proofs.Order.{IsOrder, same_from_unbeaten}

module _ (N V W : Type 0) (one : N → W) (more : W → N → W) (opens : N → Option V) (ext : V → N → N → Option V) (Arc : N → N → Type 0) where
  -- one step: the opening of d, or a walk with P at a node just before, extended by d
  abbrev pub Step : (N → V → W → Type 0) → N → V → W → Type 0
  Step P d v w =
      ((w ≡ one d) × (opens d ≡ Some v))
      ⊎ ((e : N) × (u : V) × (y : W) × Arc e d × P e u y × (ext u e d ≡ Some v) × (w ≡ more y d))

  Step-weaker : (P Q : N → V → W → Type 0) (d : N) → ((e : N) (u : V) (y : W) → Arc e d → P e u y → Q e u y) → (v : V) (w : W) → Step P d v w → Step Q d v w
  Step-weaker P Q d f v w = ⊎_elim inl (λ s. inr (s.0, s.1, s.2, s.3, f s.0 s.1 s.2 s.3 s.4, s.5, s.6))

  -- each partial at the node has a vector that an entry's is at most
  abbrev pub Covers : (V → V → Bool) → (V → W → Type 0) → List (V × W) → Type 0
  Covers le At entries = (x : V) (y : W) → At x y → (v : V) × (w : W) × Member entries (v, w) × (le v x ≡ true)

  -- what the definitions of partial and clean say of one more duty, and the laws of the resource
  pub record Rules (le : V → V → Bool) (wle : W → W → Bool) (At Clean : N → V → W → Type 0) : Type 0 where
    pub order : IsOrder le
    pub walks : IsOrder wle
    pub monotone : (a b c : V) (e d : N) → le a b ≡ true → ext b e d ≡ Some c → (x : V) × (ext a e d ≡ Some x) × (le x c ≡ true)
    pub at_in : (d : N) (v : V) (w : W) → Step At d v w → At d v w
    pub at_out : (d : N) (v : V) (w : W) → At d v w → Step At d v w
    pub clean_in : (d : N) (v : V) (w : W) → Step Clean d v w → Undominated le (At d) v → Clean d v w
    pub clean_out : (d : N) (v : V) (w : W) → Clean d v w → Step Clean d v w
    pub clean_at : (d : N) (v : V) (w : W) → Clean d v w → At d v w
    pub clean_undominated : (d : N) (v : V) (w : W) → Clean d v w → Undominated le (At d) v
    pub more_mono : (e d : N) (u : V) (y z : W) → At e u y → At e u z → wle y z ≡ true → wle (more y d) (more z d) ≡ true

  module _ (le : V → V → Bool) (wle : W → W → Bool) (At Clean : N → V → W → Type 0) (rules : Rules le wle At Clean)
      (fronts : N → List (V × W)) (d : N) (entries : List (V × W))
      (before : (e : N) → Arc e d → IsFront le wle (At e) (Clean e) (fronts e))
      (covered : (e : N) → Arc e d → Covers le (At e) (fronts e))
      (local : IsLocal le wle (Step (λ e u y. Member (fronts e) (u, y)) d) entries) where
    candidate_clean_step : (v : V) (w : W) → Step (λ e u y. Member (fronts e) (u, y)) d v w → Step Clean d v w
    candidate_clean_step v w = Step-weaker (λ e u y. Member (fronts e) (u, y)) Clean d (λ e u y a c. (before e a).clean u y c) v w

    candidate_at : (v : V) (w : W) → Step (λ e u y. Member (fronts e) (u, y)) d v w → At d v w
    candidate_at v w s = rules.at_in d v w (Step-weaker Clean At d (λ e u y a c. rules.clean_at e u y c) v w (candidate_clean_step v w s))

    -- under each partial lies a candidate
    candidate_below : (x : V) (y : W) → Step At d x y → (v : V) × (w : W) × Step (λ e u y. Member (fronts e) (u, y)) d v w × (le v x ≡ true)
    candidate_below x y (inl p) = (x, y, inl p, rules.order.reflexive x)
    candidate_below x y (inr s) =
        let under = covered s.0 s.3 s.1 s.2 s.4 in
        let step = rules.monotone under.0 s.1 x s.0 d under.3 s.5 in
        (step.0, more under.1 d, inr (s.0, under.0, under.1, s.3, under.2, step.1, refl), step.2)

    pub step_covers : Covers le (At d) entries
    step_covers x y a =
        let c = candidate_below x y (rules.at_out d x y a) in
        let k = local.covers c.0 c.1 c.2 in
        (k.0, k.1, k.2, rules.order.transitive k.0 c.0 x k.3 c.3)

    entry_undominated : (v : V) (w : W) → Member entries (v, w) → Undominated le (At d) v
    entry_undominated v w c = record {
      walk = w;
      has = candidate_at v w (local.among v w c);
      unbeaten = λ x y a b.
          let k = step_covers x y a in
          let same = local.alone k.0 k.1 v w k.2 c (rules.order.transitive k.0 x v k.3 b.0) in
          b.1 (rules.order.antisymmetric x v b.0 (subst (λ z. le z x ≡ true) same.0 k.3));
    }

    every_undominated : (v : V) → Undominated le (At d) v → (w : W) × Member entries (v, w)
    every_undominated v u =
        let k = step_covers v u.walk u.has in
        let same = same_from_unbeaten le rules.order k.0 v k.3 (u.unbeaten k.0 k.1 (candidate_at k.0 k.1 (local.among k.0 k.1 k.2))) in
        (k.1, subst (λ z. Member entries (z, k.1)) same k.2)

    -- the entry's walk is at most that of each candidate with its vector
    least_candidate : (v : V) (w y : W) → Member entries (v, w) → Step (λ e u y. Member (fronts e) (u, y)) d v y → wle w y ≡ true
    least_candidate v w y c s =
        let k = local.covers v y s in
        let same = local.alone k.0 k.1 v w k.2 c k.3 in
        subst (λ z. wle z y ≡ true) same.1 (k.4 same.0)

    least_step : (v : V) (w y : W) → Member entries (v, w) → Step Clean d v y → wle w y ≡ true
    least_step v w y c (inl p) = least_candidate v w y c (inl p)
    least_step v w y c (inr s) =
        let front = before s.0 s.3 in
        let p = front.every s.1 (rules.clean_undominated s.0 s.1 s.2 s.4) in
        let here = least_candidate v w (more p.0 d) c (inr (s.0, s.1, p.0, s.3, p.1, s.5, refl)) in
        let beyond = rules.more_mono s.0 d s.1 p.0 s.2 (rules.clean_at s.0 s.1 p.0 (front.clean s.1 p.0 p.1)) (rules.clean_at s.0 s.1 s.2 s.4) (front.least s.1 p.0 s.2 p.1 s.4) in
        subst (λ z. wle w z ≡ true) (sym s.6) (rules.walks.transitive w (more p.0 d) (more s.2 d) here beyond)

    -- the entries are the node's front
    pub step_front : IsFront le wle (At d) (Clean d) entries
    step_front = record {
      clean = λ v w c. rules.clean_in d v w (candidate_clean_step v w (local.among v w c)) (entry_undominated v w c);
      undominated = entry_undominated;
      least = λ v w y c k. least_step v w y c (rules.clean_out d v y k);
      every = every_undominated;
    }
