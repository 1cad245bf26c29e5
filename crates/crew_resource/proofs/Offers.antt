-- What one more candidate does to the entries.
use Rattle.std.proofs.Common.{◌≡◌, ◌≢◌, Bool, true, false, List, ◌⊎◌, inl, inr, sym, ◌∙◌, subst, ⊎_elim}
use Rattle.std.proofs.lemmas.Bool.{cases_Bool, false≢true}
use Rattle.crew_resource.specs.Members.{Member}
use Rattle.crew_resource.specs.Labels.{Beats, IsLocal}
use Rattle.crew_resource.proofs.Order.{IsOrder}

module _ (V W : Type 0) (le : V → V → Bool) (wle : W → W → Bool) (order : IsOrder le) (walks : IsOrder wle) where
  -- the candidates so far, and one more
  abbrev pub More : (V → W → Type 0) → V → W → V → W → Type 0
  More C v w x y = C x y ⊎ ((x ≡ v) × (y ≡ w))

  pub IsLocal-beaten : (C : V → W → Type 0) (old : List (V × W)) (v : V) (w : W) → IsLocal le wle C old
      → (u : V) (p : W) → Member old (u, p) → Beats le u v
      → IsLocal le wle (More C v w) old
  IsLocal-beaten C old v w i u p m b = record {
    among = λ x y h. inl (i.among x y h);
    covers = λ x y. ⊎_elim (i.covers x y) (λ e. (u, p, m, subst (λ z. le u z ≡ true) (sym e.0) b.0, λ q. absurd (b.1 (q ∙ e.0))));
    alone = i.alone;
  }

  -- no entry is at most v: those that v beats go, and it joins
  pub IsLocal-kept : (C : V → W → Type 0) (old new : List (V × W)) (v : V) (w : W) → IsLocal le wle C old
      → ((x : V) (y : W) → Member old (x, y) → le x v ≡ false)
      → ((x : V) (y : W) → Member new (x, y) → ((x ≡ v) × (y ≡ w)) ⊎ (Member old (x, y) × (le v x ≡ false)))
      → ((x : V) (y : W) → Member old (x, y) → le v x ≡ false → Member new (x, y))
      → Member new (v, w)
      → IsLocal le wle (More C v w) new
  IsLocal-kept C old new v w i none out in_old in_new = record {
    among = λ x y h. ⊎_elim inr (λ k. inl (i.among x y k.0)) (out x y h);
    covers = λ x y. ⊎_elim
        (λ c.
        let k = i.covers x y c in
        ⊎_elim
        (λ t. (
          v,
          w,
          in_new,
          order.transitive v k.0 x t k.3,
          λ e.
              absurd (false≢true (sym (none k.0 k.1 k.2) ∙ subst (λ z. le k.0 z ≡ true) (sym e) k.3)),
        ))
        (λ f. (k.0, k.1, in_old k.0 k.1 k.2 f, k.3, k.4))
        (cases_Bool (le v k.0)))
        (λ e. (v, w, in_new, subst (λ z. le v z ≡ true) (sym e.0) (order.reflexive v), λ _. subst (λ z. wle w z ≡ true) (sym e.1) (walks.reflexive w)));
    alone = λ a b x y ha hx h. ⊎_elim
        (λ ea. ⊎_elim
        (λ ex. (ea.0 ∙ sym ex.0, ea.1 ∙ sym ex.1))
        (λ kx. absurd (false≢true (sym kx.1 ∙ subst (λ z. le z x ≡ true) ea.0 h)))
        (out x y hx))
        (λ ka. ⊎_elim
        (λ ex. absurd (false≢true (sym (none a b ka.0) ∙ subst (λ z. le a z ≡ true) ex.0 h)))
        (λ kx. i.alone a b x y ka.0 kx.0 h)
        (out x y hx))
        (out a b ha);
  }

  -- v is there: the lesser walk stays
  pub IsLocal-tied : (C : V → W → Type 0) (old new : List (V × W)) (v : V) (w was now : W) → IsLocal le wle C old
      → Member old (v, was) → (now ≡ was) ⊎ (now ≡ w) → wle now was ≡ true → wle now w ≡ true
      → ((x : V) (y : W) → Member new (x, y) → ((x ≡ v) × (y ≡ now)) ⊎ (Member old (x, y) × (x ≢ v)))
      → ((x : V) (y : W) → Member old (x, y) → (x ≡ v) ⊎ Member new (x, y))
      → Member new (v, now)
      → IsLocal le wle (More C v w) new
  IsLocal-tied C old new v w was now i there one_of least_old least_new out in_old in_new = record {
    among = λ x y h. ⊎_elim
        (λ e. ⊎_elim
        (λ q. inl (let k : Member old (x, y) = subst (λ z. Member old (z, y)) (sym e.0) (subst (λ z. Member old (v, z)) (sym (e.1 ∙ q)) there) in i.among x y k))
        (λ q. inr (e.0, e.1 ∙ q))
        one_of)
        (λ k. inl (i.among x y k.0))
        (out x y h);
    covers = λ x y. ⊎_elim
        (λ c.
        let k = i.covers x y c in
        ⊎_elim
        (λ e. (
          v,
          now,
          in_new,
          subst (λ z. le z x ≡ true) e k.3,
          λ q.
              let tied = i.alone v was k.0 k.1 there k.2 (subst (λ z. le v z ≡ true) (sym e) (order.reflexive v)) in
              walks.transitive now was y least_old (subst (λ z. wle z y ≡ true) (sym tied.1) (k.4 (e ∙ q))),
        ))
        (λ m. (k.0, k.1, m, k.3, k.4))
        (in_old k.0 k.1 k.2))
        (λ e. (v, now, in_new, subst (λ z. le v z ≡ true) (sym e.0) (order.reflexive v), λ _. subst (λ z. wle now z ≡ true) (sym e.1) least_new));
    alone = λ a b x y ha hx h. ⊎_elim
        (λ ea. ⊎_elim
        (λ ex. (ea.0 ∙ sym ex.0, ea.1 ∙ sym ex.1))
        (λ kx. absurd (kx.1 (sym (i.alone v was x y there kx.0 (subst (λ z. le z x ≡ true) ea.0 h)).0)))
        (out x y hx))
        (λ ka. ⊎_elim
        (λ ex. absurd (ka.1 ((i.alone a b v was ka.0 there (subst (λ z. le a z ≡ true) ex.0 h)).0)))
        (λ kx. i.alone a b x y ka.0 kx.0 h)
        (out x y hx))
        (out a b ha);
  }
