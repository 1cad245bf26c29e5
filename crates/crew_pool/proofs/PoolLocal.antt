-- What joins a pool, over plain lists of entries.
use Rattle.std.proofs.Common.{◌≡◌, ◌≢◌, ℕ, zero, suc, Bool, true, false, List, [], ◌∷◌, ◌++◌, set, map, Some, ◌⊎◌, inl, inr, refl, sym, ◌∙◌, ap, subst, ⊎_elim}
use Rattle.std.specs.Prelude.{slice_get}
use Rattle.std.proofs.lemmas.Bool.{false≢true}
use Rattle.crew_resource.specs.Members.{Member}
use Rattle.crew_resource.specs.Labels.{Beats, IsLocal}
use Rattle.crew_resource.proofs.Order.{IsOrder}
use Rattle.crew_resource.proofs.Members.{Member-append, Member-append_left, Member-append_right, Member-at}
use Rattle.crew_resource.proofs.Offers.{More, IsLocal-beaten, IsLocal-tied}
use Rattle.crew_pool.specs.Apart.{ApartFromAll, AreApart}

module _ (V W : Type 0) (le : V → V → Bool) (wle : W → W → Bool) (order : IsOrder le) (walks : IsOrder wle) where
  -- the entries are what a list of candidates leaves
  abbrev pub Local : List (V × W) → List (V × W) → Type 0
  Local cs es = IsLocal le wle (λ v w. Member cs (v, w)) es

  pub apart_from : (a : V) (xs : List (V × W)) (y : V × W) → ApartFromAll le a (map (λ e. e.0) xs) → Member xs y → (le a y.0 ≡ false) × (le y.0 a ≡ false)
  apart_from a [] y h m = absurd m
  apart_from a (x ∷ xs) y h (inl e) = (subst (λ z. le a z.0 ≡ false) e h.0.0, subst (λ z. le z.0 a ≡ false) e h.0.1)
  apart_from a (x ∷ xs) y h (inr m) = apart_from a xs y h.1 m

  -- of two entries one is at most the other only where they are one
  pub apart_same : (xs : List (V × W)) (a b : V × W) → AreApart le (map (λ e. e.0) xs) → Member xs a → Member xs b → le a.0 b.0 ≡ true → a ≡ b
  apart_same [] a b h m n t = absurd m
  apart_same (x ∷ xs) a b h (inl e) (inl f) t = sym e ∙ f
  apart_same (x ∷ xs) a b h (inl e) (inr n) t = absurd (false≢true (sym (subst (λ z. le z.0 b.0 ≡ false) e (apart_from x.0 xs b h.0 n).0) ∙ t))
  apart_same (x ∷ xs) a b h (inr m) (inl f) t = absurd (false≢true (sym (subst (λ z. le a.0 z.0 ≡ false) f (apart_from x.0 xs a h.0 m).1) ∙ t))
  apart_same (x ∷ xs) a b h (inr m) (inr n) t = apart_same xs a b h.1 m n t

  differ : (a b : V) → le a b ≡ false → a ≢ b
  differ a b h e = false≢true (sym h ∙ (ap (le a) (sym e) ∙ order.reflexive a))

  set_out : (xs : List (V × W)) (i : ℕ) (v : V) (was now : W) → AreApart le (map (λ e. e.0) xs) → slice_get xs i ≡ Some (v, was)
      → (x : V) (y : W) → Member (set xs i (v, now)) (x, y) → ((x ≡ v) × (y ≡ now)) ⊎ (Member xs (x, y) × (x ≢ v))
  set_out [] i v was now h g x y m = absurd m
  set_out (z ∷ zs) zero v was now h g x y (inl e) = inl (ap (λ p. p.0) (sym e), ap (λ p. p.1) (sym e))
  set_out (z ∷ zs) zero v was now h g x y (inr m) =
      let head : z ≡ (v, was) = (cc) in
      let k = apart_from z.0 zs (x, y) h.0 m in
      inr (inr m, λ e. differ x z.0 k.1 (e ∙ sym (ap (λ p. p.0) head)))
  set_out (z ∷ zs) (suc i) v was now h g x y (inl e) =
      let k = apart_from z.0 zs (v, was) h.0 (Member-at zs i (v, was) g) in
      inr (inl e, λ q. differ z.0 v k.0 (ap (λ p. p.0) e ∙ q))
  set_out (z ∷ zs) (suc i) v was now h g x y (inr m) = ⊎_elim inl (λ k. inr (inr k.0, k.1)) (set_out zs i v was now h.1 g x y m)

  set_in : (xs : List (V × W)) (i : ℕ) (v : V) (was now : W) → slice_get xs i ≡ Some (v, was)
      → (x : V) (y : W) → Member xs (x, y) → (x ≡ v) ⊎ Member (set xs i (v, now)) (x, y)
  set_in [] i v was now g x y m = absurd m
  set_in (z ∷ zs) zero v was now g x y (inl e) = let head : z ≡ (v, was) = (cc) in inl (ap (λ p. p.0) (sym e ∙ head))
  set_in (z ∷ zs) zero v was now g x y (inr m) = inr (inr m)
  set_in (z ∷ zs) (suc i) v was now g x y (inl e) = inr (inl e)
  set_in (z ∷ zs) (suc i) v was now g x y (inr m) = ⊎_elim inl (λ k. inr (inr k)) (set_in zs i v was now g x y m)

  set_there : (xs : List (V × W)) (i : ℕ) (v : V) (was now : W) → slice_get xs i ≡ Some (v, was) → Member (set xs i (v, now)) (v, now)
  set_there [] i v was now g = absurd (let q : ⊥ = (cc) in q)
  set_there (z ∷ zs) zero v was now g = inl refl
  set_there (z ∷ zs) (suc i) v was now g = inr (set_there zs i v was now g)

  abbrev pub AndOne : (V → W → Type 0) → V → W → V → W → Type 0
  AndOne = More V W le wle order walks

  -- one more candidate, as a list
  as_list : (cs : List (V × W)) (v : V) (w : W) (es : List (V × W)) → IsLocal le wle (AndOne (λ x y. Member cs (x, y)) v w) es → Local (cs ++ (v, w) ∷ []) es
  as_list cs v w es k = record {
    among = λ x y m. ⊎_elim
        (λ c. Member-append_left cs ((v, w) ∷ []) (x, y) c)
        (λ e. Member-append_right cs ((v, w) ∷ []) (x, y) (inl (ap (λ z. (z, w)) (sym e.0) ∙ ap (λ z. (x, z)) (sym e.1))))
        (k.among x y m);
    covers = λ x y m. k.covers x y (⊎_elim inl (⊎_elim (λ e. inr (ap (λ p. p.0) (sym e), ap (λ p. p.1) (sym e))) (λ b. absurd b)) (Member-append cs ((v, w) ∷ []) (x, y) m));
    alone = k.alone;
  }

  -- a candidate that an entry beats changes nothing
  pub beaten_list : (cs es : List (V × W)) (v : V) (w : W) (e : V × W) → Local cs es → Member es e → Beats le e.0 v → Local (cs ++ (v, w) ∷ []) es
  beaten_list cs es v w e i m b = as_list cs v w es (IsLocal-beaten V W le wle order walks (λ x y. Member cs (x, y)) es v w i e.0 e.1 m b)

  -- a candidate whose vector is there: the lesser walk stays
  pub tied_list : (cs es : List (V × W)) (i : ℕ) (v : V) (was w now : W) → AreApart le (map (λ e. e.0) es) → Local cs es → slice_get es i ≡ Some (v, was)
      → (now ≡ was) ⊎ (now ≡ w) → wle now was ≡ true → wle now w ≡ true → Local (cs ++ (v, w) ∷ []) (set es i (v, now))
  tied_list cs es i v was w now apart h g one_of old new =
      as_list cs v w (set es i (v, now))
      (IsLocal-tied V W le wle order walks (λ x y. Member cs (x, y)) es (set es i (v, now)) v w was now h (Member-at es i (v, was) g) one_of old new
      (set_out es i v was now apart g) (set_in es i v was now g) (set_there es i v was now g))

  -- those that no entry is at most join, and the entries that they are at most go
  pub joined_list : (cs ds ts es ss new : List (V × W)) → Local (cs ++ ds) es → AreApart le (map (λ e. e.0) ss)
      → ((x s : V × W) → Member es x → Member ss s → le x.0 s.0 ≡ false)
      → ((x : V × W) → Member ts x → Member ds x ⊎ Member ss x)
      → ((x : V × W) → Member ds x → Member ts x)
      → ((x : V × W) → Member ss x → Member ts x)
      → ((x : V × W) → Member new x → (Member es x × ((s : V × W) → Member ss s → le s.0 x.0 ≡ false)) ⊎ Member ss x)
      → ((x : V × W) → Member es x → ((s : V × W) × Member ss s × (le s.0 x.0 ≡ true)) ⊎ Member new x)
      → ((x : V × W) → Member ss x → Member new x)
      → Local (cs ++ ts) new
  joined_list cs ds ts es ss new i apart none split from_ds from_ss out kept joins = record {
    among = λ x y m. ⊎_elim
        (λ k. ⊎_elim
        (λ c. Member-append_left cs ts (x, y) c)
        (λ d. Member-append_right cs ts (x, y) (from_ds (x, y) d))
        (Member-append cs ds (x, y) (i.among x y k.0)))
        (λ s. Member-append_right cs ts (x, y) (from_ss (x, y) s))
        (out (x, y) m);
    covers = λ x y m.
        let through = λ (c : Member (cs ++ ds) (x, y)).
        let k = i.covers x y c in
        ⊎_elim {C = (v : V) × (w : W) × Member new (v, w) × (le v x ≡ true) × (v ≡ x → wle w y ≡ true)}
        (λ s. (
          s.0.0,
          s.0.1,
          joins s.0 s.1,
          order.transitive s.0.0 k.0 x s.2 k.3,
          λ e. absurd (false≢true (sym (none (k.0, k.1) s.0 k.2 s.1) ∙ subst (λ z. le k.0 z ≡ true) (sym e) k.3)),
        ))
        (λ n. (k.0, k.1, n, k.3, k.4))
        (kept (k.0, k.1) k.2) in
        ⊎_elim {C = (v : V) × (w : W) × Member new (v, w) × (le v x ≡ true) × (v ≡ x → wle w y ≡ true)}
        (λ c. through (Member-append_left cs ds (x, y) c))
        (λ t. ⊎_elim
        (λ d. through (Member-append_right cs ds (x, y) d))
        (λ s. (x, y, joins (x, y) s, order.reflexive x, λ _. walks.reflexive y))
        (split (x, y) t))
        (Member-append cs ts (x, y) m);
    alone = λ a b x y ha hx h. ⊎_elim
        (λ ka. ⊎_elim
        (λ kx. i.alone a b x y ka.0 kx.0 h)
        (λ sx. absurd (false≢true (sym (none (a, b) (x, y) ka.0 sx) ∙ h)))
        (out (x, y) hx))
        (λ sa. ⊎_elim
        (λ kx. absurd (false≢true (sym (kx.1 (a, b) sa) ∙ h)))
        (λ sx. let same = apart_same ss (a, b) (x, y) apart sa sx h in (ap (λ p. p.0) same, ap (λ p. p.1) same))
        (out (x, y) hx))
        (out (a, b) ha);
  }
