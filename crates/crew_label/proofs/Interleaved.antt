-- Two lists of labels that rise, as one: the labels that are left, label by label.
use Rattle.std.proofs.Common.{◌≡◌, ℕ, true, false, suc, ◌+◌, ◌-◌, ◌<◌, ◌≤◌, List, [], ◌∷◌, ◌++◌, length, get_or, drop, Some, inl, inr, refl, sym, ◌∙◌, ap, subst, ⊎_elim, arith, length-drop, Ordering}
use Rattle.std.specs.Prelude.{slice_get}
use Rattle.std.specs.Cmp.{IsTotalOrder}
use Rattle.std.specs.Ordering.{is_lt, ordering_reverse}
use Rattle.std.proofs.lemmas.Bool.{false≢true}
use Rattle.std.specs.declared.cmp.Ordering.TheVariants.{Less, Equal, Greater}
use Rattle.std.proofs.Math.Seq.{drop-cons}
use Rattle.std.proofs.lemmas.Grind.{common_steps}
use Rattle.std.proofs.lemmas.Option.{slice_get-get_or}
use Rattle.crew_resource.specs.Members.{Member}
use Rattle.crew_resource.proofs.Members.{Member-append, Member-append_left, Member-append_right}
use Rattle.crew_label.specs.Pools.{AreRising}
use Rattle.crew_label.specs.Machinery.Merges.{ComesFirst, IsMerged, IsMerging}
use Rattle.crew_label.specs.declared.label.Label.{Label}
use Rattle.crew_label.proofs.RisingLists.{each-member, rising-append}

module _ {V : Type 0} (cmp : V → V → Ordering) (total : IsTotalOrder cmp) where
  -- nothing stands in the whole yet
  pub merging-none : (one two : List (Label V)) → AreRising cmp one → AreRising cmp two → IsMerging cmp one two one two []
  merging-none one two p q = record {
    rises = tt;
    rise_xs = p;
    rise_ys = q;
    before_xs = λ l m h. absurd h;
    before_ys = λ l m h. absurd h;
    of_one = λ l m. m;
    of_two = λ l m. m;
    from = λ l m. absurd m;
    with_one = λ l m. inr m;
    with_two = λ l m. inr m;
  }

  -- what comes before the first of a list that rises comes before all of it
  first_before : (x : Label V) (ys : List (Label V)) → AreRising cmp ys → ((y : Label V) (rest : List (Label V)) → ys ≡ y ∷ rest → cmp x.value y.value ≡ Less)
      → (m : Label V) → Member ys m → cmp x.value m.value ≡ Less
  first_before x [] r f m h = absurd h
  first_before x (y ∷ ys) r f m (inl e) = subst (λ (z : Label V). cmp x.value z.value ≡ Less) e (f y ys refl)
  first_before x (y ∷ ys) r f m (inr h) = total.trans x.value y.value m.value (f y ys refl) (each-member (λ (z : Label V). cmp y.value z.value ≡ Less) ys m r.0 h)

  last_of : (x l : Label V) → Member (x ∷ []) l → x ≡ l
  last_of x l (inl e) = e
  last_of x l (inr h) = absurd h

  -- the first label that is left of one list joins, where it comes before the first that is left of the other
  pub merging-more : (one two xs ys whole : List (Label V)) (x : Label V) → ((y : Label V) (rest : List (Label V)) → ys ≡ y ∷ rest → cmp x.value y.value ≡ Less)
      → IsMerging cmp one two (x ∷ xs) ys whole → IsMerging cmp one two xs ys (whole ++ x ∷ [])
  merging-more one two xs ys whole x f i = record {
    rises = rising-append cmp whole x i.rises (λ l m. i.before_xs l x m (inl refl));
    rise_xs = i.rise_xs.1;
    rise_ys = i.rise_ys;
    before_xs = λ l m h k. ⊎_elim
        (λ a. i.before_xs l m a (inr k))
        (λ b. subst (λ (z : Label V). cmp z.value m.value ≡ Less) (last_of x l b) (each-member (λ (z : Label V). cmp x.value z.value ≡ Less) xs m i.rise_xs.0 k))
        (Member-append whole (x ∷ []) l h);
    before_ys = λ l m h k. ⊎_elim
        (λ a. i.before_ys l m a k)
        (λ b. subst (λ (z : Label V). cmp z.value m.value ≡ Less) (last_of x l b) (first_before x ys i.rise_ys f m k))
        (Member-append whole (x ∷ []) l h);
    of_one = λ l m. i.of_one l (inr m);
    of_two = i.of_two;
    from = λ l h. ⊎_elim
        (λ a. i.from l a)
        (λ b. inl (i.of_one l (inl (last_of x l b))))
        (Member-append whole (x ∷ []) l h);
    with_one = λ l h. ⊎_elim
        (λ a. inl (Member-append_left whole (x ∷ []) l a))
        (⊎_elim (λ e. inl (Member-append_right whole (x ∷ []) l (inl e))) inr)
        (i.with_one l h);
    with_two = λ l h. ⊎_elim (λ a. inl (Member-append_left whole (x ∷ []) l a)) inr (i.with_two l h);
  }

  pub merging-turned : (one two xs ys whole : List (Label V)) → IsMerging cmp one two xs ys whole → IsMerging cmp two one ys xs whole
  merging-turned one two xs ys whole i = record {
    rises = i.rises;
    rise_xs = i.rise_ys;
    rise_ys = i.rise_xs;
    before_xs = i.before_ys;
    before_ys = i.before_xs;
    of_one = i.of_two;
    of_two = i.of_one;
    from = λ l m. ⊎_elim inr inl (i.from l m);
    with_one = i.with_two;
    with_two = i.with_one;
  }

  none_left : {X : Type 0} (n : ℕ) (ls : List X) → length ls ≤ n → drop n ls ≡ []
  none_left n ls h = grind (arith, common_steps)

  -- nothing is left
  pub merged-all : (one two whole : List (Label V)) (i j : ℕ) → length one ≤ i → length two ≤ j → IsMerging cmp one two (drop i one) (drop j two) whole → IsMerged cmp one two whole
  merged-all one two whole i j p q m =
      let n = subst (λ (xs : List (Label V)). IsMerging cmp one two xs (drop j two) whole) (none_left i one p) m in
      let k = subst (λ (ys : List (Label V)). IsMerging cmp one two [] ys whole) (none_left j two q) n in
      record {
        rises = k.rises;
        from = k.from;
        with_one = λ l h. ⊎_elim (λ a. a) (λ b. absurd b) (k.with_one l h);
        with_two = λ l h. ⊎_elim (λ a. a) (λ b. absurd b) (k.with_two l h);
      }

  drop_next : (ls : List (Label V)) (i : ℕ) (x : Label V) → i < length ls → x ≡ get_or ls i x → drop i ls ≡ x ∷ drop (i + 1) ls
  drop_next ls i x h e =
      let one : suc i ≡ i + 1 = omega arith in
      drop-cons ls i x h ∙ (ap (λ z. z ∷ drop (suc i) ls) (sym e) ∙ ap (λ n. x ∷ drop n ls) one)

  left_at : (ls : List (Label V)) (j : ℕ) (y : Label V) (rest : List (Label V)) → drop j ls ≡ y ∷ rest → j < length ls
  left_at ls j y rest e = let k : length ls - j ≡ suc (length rest) = sym (length-drop j ls) ∙ ap length e in omega arith

  first_is : (x y : Label V) (xs ys : List (Label V)) → x ∷ xs ≡ y ∷ ys → x ≡ y
  first_is x y xs ys e = (cc)

  head_at : (ls : List (Label V)) (j : ℕ) (y : Label V) (rest : List (Label V)) → drop j ls ≡ y ∷ rest → slice_get ls j ≡ Some y
  head_at ls j y rest e =
      let h : j < length ls = left_at ls j y rest e in
      let k : y ≡ get_or ls j y = first_is y (get_or ls j y) rest (drop (suc j) ls) (sym e ∙ drop-cons ls j y h) in
      slice_get-get_or ls j y h ∙ ap Some (sym k)

  -- the label at i comes first, and joins
  pub merging-at : (one two whole : List (Label V)) (i j : ℕ) (x : Label V) → ComesFirst (λ l m. cmp l.value m.value) one i two j → x ≡ get_or one i x
      → IsMerging cmp one two (drop i one) (drop j two) whole → IsMerging cmp one two (drop (i + 1) one) (drop j two) (whole ++ x ∷ [])
  merging-at one two whole i j x c e m =
      merging-more one two (drop (i + 1) one) (drop j two) whole x
      (λ y rest h. c.first x y (slice_get-get_or one i x c.there ∙ ap Some (sym e)) (head_at two j y rest h))
      (subst (λ (xs : List (Label V)). IsMerging cmp one two xs (drop j two) whole) (drop_next one i x c.there e) m)

turned : (o r : Ordering) → r ≡ ordering_reverse o → is_lt o ≡ false → (o ≡ Equal → ⊥) → r ≡ Less
turned Less r p q n = absurd (false≢true (sym q))
turned Equal r p q n = absurd (n refl)
turned Greater r p q n = p

is_less : (o : Ordering) → is_lt o ≡ true → o ≡ Less
is_less Less e = refl
is_less Equal e = absurd (false≢true e)
is_less Greater e = absurd (false≢true e)

module _ {X : Type 0} where
  pub at_place : (ls : List X) (k : ℕ) (x l : X) → k < length ls → x ≡ get_or ls k x → slice_get ls k ≡ Some l → x ≡ l
  at_place ls k x l h e s = let q : Some x ≡ Some l = ap Some e ∙ (sym (slice_get-get_or ls k x h) ∙ s) in (cc)

-- of two values that differ, the one that isn't listed first is listed second
pub listed_second : {V : Type 0} (cmp : V → V → Ordering) (total : IsTotalOrder cmp) (exact : (a b : V) → cmp a b ≡ Equal → a ≡ b) (a b : V) → is_lt (cmp a b) ≡ false → (a ≡ b → ⊥) → cmp b a ≡ Less
listed_second cmp total exact a b f n = turned (cmp a b) (cmp b a) (total.antisymm b a) f (λ e. n (exact a b e))
