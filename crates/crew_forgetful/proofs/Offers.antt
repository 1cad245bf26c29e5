-- What one more label does to a pool by the rule that looks at walks, and that each list of labels has a pool.
use Rattle.std.proofs.Common.{◌≡◌, Bool, true, false, not, List, [], ◌∷◌, ◌++◌, ◌⊎◌, inl, inr, refl, sym, ◌∙◌, ap, subst, ⊎_elim, ◌||◌}
use Rattle.std.specs.List.{filter, list_any}
use Rattle.std.proofs.lemmas.Bool.{cases_Bool, false≢true, not-true, not_from_false, and_parts, and_from}
use Rattle.crew_resource.specs.Members.{Member}
use Rattle.crew_resource.proofs.Order.{IsOrder}
use Rattle.crew_resource.proofs.Members.{Member-append, Member-append_left, Member-append_right, Member-filter_in, Member-filter_out, list_any_true, list_any_false}
use Rattle.crew_forgetful.specs.Forgetful.{StandsFor, stands, IsPool}
use Rattle.crew_forgetful.proofs.Covered.{stands_refl, stands_trans}

module _ (V W : Type 0) (le same : V → V → Bool) (wle : W → W → Bool) (order : IsOrder le) (walks : IsOrder wle)
    (same_itself : (a : V) → same a a ≡ true)
    (same_between : (a b c : V) → le a b ≡ true → le b c ≡ true → same a c ≡ true → (same a b ≡ true) × (same b c ≡ true)) where
  abbrev pub More : (V → W → Type 0) → V → W → V → W → Type 0
  More C v w x y = C x y ⊎ ((x ≡ v) × (y ≡ w))

  carried : (a : V) (p : W) (v : V) (w : W) (x : V) (y : W) → x ≡ v → y ≡ w → StandsFor le same wle a p v w → StandsFor le same wle a p x y
  carried a p v w x y e f h = subst (λ z. StandsFor le same wle a p z y) (sym e) (subst (λ z. StandsFor le same wle a p v z) (sym f) h)

  from : (v : V) (w : W) (x : V) (y : W) (a : V) (p : W) → x ≡ v → y ≡ w → StandsFor le same wle x y a p → StandsFor le same wle v w a p
  from v w x y a p e f h = subst (λ z. StandsFor le same wle z w a p) e (subst (λ z. StandsFor le same wle x z a p) f h)

  -- an entry stands for it
  pub pool_beaten : (C : V → W → Type 0) (old : List (V × W)) (v : V) (w : W) → IsPool le same wle C old
      → (u : V) (p : W) → Member old (u, p) → StandsFor le same wle u p v w
      → IsPool le same wle (More C v w) old
  pool_beaten C old v w i u p m h = record {
    among = λ x y k. inl (i.among x y k);
    covers = λ x y. ⊎_elim (i.covers x y) (λ e. (u, p, m, carried u p v w x y e.0 e.1 h));
    alone = i.alone;
  }

  -- none does: those that it stands for go, and it joins. There are no ties
  pub pool_kept : (C : V → W → Type 0) (old new : List (V × W)) (v : V) (w : W) → IsPool le same wle C old
      → ((x : V) (y : W) → Member old (x, y) → StandsFor le same wle x y v w → ⊥)
      → ((x : V) (y : W) → Member new (x, y) → ((x ≡ v) × (y ≡ w)) ⊎ (Member old (x, y) × (StandsFor le same wle v w x y → ⊥)))
      → ((x : V) (y : W) → Member old (x, y) → StandsFor le same wle v w x y ⊎ Member new (x, y))
      → Member new (v, w)
      → IsPool le same wle (More C v w) new
  pool_kept C old new v w i none out in_old in_new = record {
    among = λ x y h. ⊎_elim inr (λ k. inl (i.among x y k.0)) (out x y h);
    covers = λ x y. ⊎_elim
        (λ c.
        let k = i.covers x y c in
        ⊎_elim
        (λ t. (v, w, in_new, stands_trans V W le same wle order walks same_itself same_between v w k.0 k.1 x y t k.3))
        (λ m. (k.0, k.1, m, k.3))
        (in_old k.0 k.1 k.2))
        (λ e. (v, w, in_new, carried v w v w x y e.0 e.1 (stands_refl V W le same wle order walks same_itself same_between v w)));
    alone = λ a p x y ha hx h. ⊎_elim
        (λ ea. ⊎_elim
        (λ ex. (ea.0 ∙ sym ex.0, ea.1 ∙ sym ex.1))
        (λ kx. absurd (kx.1 (from v w a p x y ea.0 ea.1 h)))
        (out x y hx))
        (λ ka. ⊎_elim
        (λ ex. absurd (none a p ka.0 (carried a p x y v w (sym ex.0) (sym ex.1) h)))
        (λ kx. i.alone a p x y ka.0 kx.0 h)
        (out x y hx))
        (out a p ha);
  }

  sound : (v : V) (w : W) (x : V) (y : W) → stands le same wle v w x y ≡ true → StandsFor le same wle v w x y
  sound v w x y e =
      let k = and_parts (le v x) (not (same v x) || wle w y) e in
      (k.0, λ s. let rest : (false || wle w y) ≡ true = subst (λ z. (not z || wle w y) ≡ true) s k.1 in rest)

  complete : (v : V) (w : W) (x : V) (y : W) → StandsFor le same wle v w x y → stands le same wle v w x y ≡ true
  complete v w x y h = and_from (le v x) (not (same v x) || wle w y) h.0
      (⊎_elim (λ t. rw t (h.1 t)) (λ f. rw f refl) (cases_Bool (same v x)))

  -- with the test: an entry stands for the label
  pub pool_stays : (C : V → W → Type 0) (old : List (V × W)) (v : V) (w : W) → IsPool le same wle C old
      → list_any (λ e. stands le same wle e.0 e.1 v w) old ≡ true → IsPool le same wle (More C v w) old
  pool_stays C old v w i t =
      let k = list_any_true (λ e. stands le same wle e.0 e.1 v w) old t in
      pool_beaten C old v w i k.0.0 k.0.1 k.1 (sound k.0.0 k.0.1 v w k.2)

  -- none does
  pub pool_grows : (C : V → W → Type 0) (old : List (V × W)) (v : V) (w : W) → IsPool le same wle C old
      → list_any (λ e. stands le same wle e.0 e.1 v w) old ≡ false
      → IsPool le same wle (More C v w) (filter (λ e. not (stands le same wle v w e.0 e.1)) old ++ (v, w) ∷ [])
  pool_grows C old v w i f =
      let new : List (V × W) = filter (λ e. not (stands le same wle v w e.0 e.1)) old ++ (v, w) ∷ [] in
      pool_kept C old new v w i
      (λ x y m h. false≢true (sym (list_any_false (λ e. stands le same wle e.0 e.1 v w) old f (x, y) m) ∙ complete x y v w h))
      (λ x y m. ⊎_elim
      (λ k. let q = Member-filter_out (λ e. not (stands le same wle v w e.0 e.1)) old (x, y) k in inr (q.0, λ h. false≢true (sym (not-true (stands le same wle v w x y) q.1) ∙ complete v w x y h)))
      (⊎_elim (λ e. inl (ap (λ p. p.0) (sym e), ap (λ p. p.1) (sym e))) (λ b. absurd b))
      (Member-append (filter (λ e. not (stands le same wle v w e.0 e.1)) old) ((v, w) ∷ []) (x, y) m))
      (λ x y m. ⊎_elim
      (λ q. inl (sound v w x y q))
      (λ q. inr (Member-append_left (filter (λ e. not (stands le same wle v w e.0 e.1)) old) ((v, w) ∷ []) (x, y) (Member-filter_in (λ e. not (stands le same wle v w e.0 e.1)) old (x, y) m (not_from_false (stands le same wle v w x y) q))))
      (cases_Bool (stands le same wle v w x y)))
      (Member-append_right (filter (λ e. not (stands le same wle v w e.0 e.1)) old) ((v, w) ∷ []) (v, w) (inl refl))

  pub same_pool : (C D : V → W → Type 0) (entries : List (V × W)) → ((v : V) (w : W) → C v w → D v w) → ((v : V) (w : W) → D v w → C v w) → IsPool le same wle C entries → IsPool le same wle D entries
  same_pool C D entries f g i = record { among = λ v w m. f v w (i.among v w m); covers = λ x y d. i.covers x y (g x y d); alone = i.alone }

  -- a list with one label more
  pub pool_of_more : (cs : List (V × W)) (v : V) (w : W) (entries : List (V × W)) → IsPool le same wle (More (λ x y. Member cs (x, y)) v w) entries
      → IsPool le same wle (λ x y. Member (cs ++ (v, w) ∷ []) (x, y)) entries
  pool_of_more cs v w entries = same_pool (More (λ x y. Member cs (x, y)) v w) (λ x y. Member (cs ++ (v, w) ∷ []) (x, y)) entries
      (λ x y. ⊎_elim (λ m. Member-append_left cs ((v, w) ∷ []) (x, y) m)
      (λ e. Member-append_right cs ((v, w) ∷ []) (x, y) (inl (ap (λ z. (z, w)) (sym e.0) ∙ ap (λ z. (x, z)) (sym e.1)))))
      (λ x y m. ⊎_elim inl (⊎_elim (λ e. inr (ap (λ p. p.0) (sym e), ap (λ p. p.1) (sym e))) (λ b. absurd b)) (Member-append cs ((v, w) ∷ []) (x, y) m))

  -- each list of labels has a pool
  pub pool_of : (labels : List (V × W)) → (entries : List (V × W)) × IsPool le same wle (λ v w. Member labels (v, w)) entries
  pool_of [] = ([], record { among = λ v w m. m; covers = λ x y m. absurd m; alone = λ v w x y m. absurd m })
  pool_of (c ∷ cs) =
      let rest = pool_of cs in
      let turned = same_pool (More (λ v w. Member cs (v, w)) c.0 c.1) (λ v w. Member (c ∷ cs) (v, w)) in
      let there = λ (v : V) (w : W). ⊎_elim {C = Member (c ∷ cs) (v, w)} inr (λ (e : (v ≡ c.0) × (w ≡ c.1)). inl (ap (λ z. (z, c.1)) (sym e.0) ∙ ap (λ z. (v, z)) (sym e.1))) in
      let back = λ (v : V) (w : W). ⊎_elim {C = More (λ v w. Member cs (v, w)) c.0 c.1 v w} (λ (e : c ≡ (v, w)). inr (ap (λ p. p.0) (sym e), ap (λ p. p.1) (sym e))) inl in
      ⊎_elim
      (λ t. (rest.0, turned rest.0 there back (pool_stays (λ v w. Member cs (v, w)) rest.0 c.0 c.1 rest.1 t)))
      (λ f. (filter (λ e. not (stands le same wle c.0 c.1 e.0 e.1)) rest.0 ++ c ∷ [], turned (filter (λ e. not (stands le same wle c.0 c.1 e.0 e.1)) rest.0 ++ c ∷ []) there back (pool_grows (λ v w. Member cs (v, w)) rest.0 c.0 c.1 rest.1 f)))
      (cases_Bool (list_any (λ e. stands le same wle e.0 e.1 c.0 c.1) rest.0))
