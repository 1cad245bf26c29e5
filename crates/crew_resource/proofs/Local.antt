-- A front is what the fronts before it leave: the converse of the step.
use Rattle.std.proofs.Common.{◌≡◌, Bool, true, List, Option, inl, inr, refl, sym, subst, ⊎_elim}
use Rattle.crew_resource.specs.Members.{Member}
use Rattle.crew_resource.specs.Labels.{Undominated, IsFront, IsLocal}
use Rattle.crew_resource.proofs.Order.{same_from_unbeaten}
use Rattle.crew_resource.proofs.Step.{Step, Rules, Covers}

module _ (N V W : Type 0) (one : N → W) (more : W → N → W) (opens : N → Option V) (ext : V → N → N → Option V) (Arc : N → N → Type 0)
    (le : V → V → Bool) (wle : W → W → Bool) (At Clean : N → V → W → Type 0)
    (rules : Rules N V W one more opens ext Arc le wle At Clean)
    (fronts : N → List (V × W)) (d : N) (entries : List (V × W))
    (before : (e : N) → Arc e d → IsFront le wle (At e) (Clean e) (fronts e))
    (front : IsFront le wle (At d) (Clean d) entries)
    (covers : Covers N V W one more opens ext Arc le (At d) entries) where
  abbrev pub Candidate : V → W → Type 0
  Candidate = Step N V W one more opens ext Arc (λ e u y. Member (fronts e) (u, y)) d

  -- a candidate is clean where its vector is undominated
  candidate_clean : (v : V) (w : W) → Candidate v w → Undominated le (At d) v → Clean d v w
  candidate_clean v w s u = rules.clean_in d v w (⊎_elim inl (λ k. inr (k.0, k.1, k.2, k.3, (before k.0 k.3).clean k.1 k.2 k.4, k.5, k.6)) s) u

  candidate_at : (v : V) (w : W) → Candidate v w → At d v w
  candidate_at v w s = rules.at_in d v w (⊎_elim inl (λ k. inr (k.0, k.1, k.2, k.3, rules.clean_at k.0 k.1 k.2 ((before k.0 k.3).clean k.1 k.2 k.4), k.5, k.6)) s)

  entry_candidate : (v : V) (w : W) → Member entries (v, w) → Candidate v w
  entry_candidate v w m =
      let c = front.clean v w m in
      ⊎_elim inl
      (λ k.
      let f = before k.0 k.3 in
      let p = f.every k.1 (rules.clean_undominated k.0 k.1 k.2 k.4) in
      let cand : Candidate v (more p.0 d) = inr (k.0, k.1, p.0, k.3, p.1, k.5, refl) in
      let up = front.least v w (more p.0 d) m (candidate_clean v (more p.0 d) cand (front.undominated v w m)) in
      let down = rules.more_mono k.0 d k.1 p.0 k.2 (rules.clean_at k.0 k.1 p.0 (f.clean k.1 p.0 p.1)) (rules.clean_at k.0 k.1 k.2 k.4) (f.least k.1 p.0 k.2 p.1 k.4) in
      let same = rules.walks.antisymmetric w (more p.0 d) up (subst (λ z. wle (more p.0 d) z ≡ true) (sym k.6) down) in
      subst (Candidate v) (sym same) cand)
      (rules.clean_out d v w c)

  pub local_from_front : IsLocal le wle Candidate entries
  local_from_front = record {
    among = entry_candidate;
    covers = λ x y s.
        let k = covers x y (candidate_at x y s) in
        (k.0, k.1, k.2, k.3, λ e. front.least k.0 k.1 y k.2 (subst (λ z. Clean d z y) (sym e) (candidate_clean x y s (subst (Undominated le (At d)) e (front.undominated k.0 k.1 k.2)))));
    alone = λ v w x y a b h.
        let u = front.undominated x y b in
        let same : v ≡ x = same_from_unbeaten le rules.order v x h (u.unbeaten v w (rules.clean_at d v w (front.clean v w a))) in
        let there : Member entries (x, w) = subst (λ z. Member entries (z, w)) same a in
        (same, rules.walks.antisymmetric w y (front.least x w y there (front.clean x y b)) (front.least x y w b (front.clean x w there)));
  }
