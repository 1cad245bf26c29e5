-- Labels in another order.
use Rattle.std.proofs.Common.{◌≡◌, suc, ◌+◌, Bool, true, false, ◌&&◌, ℕ, List, [], ◌∷◌, map, sym, ◌∙◌, ap, subst, ⊎_elim, arith, Ordering, refl}
use Rattle.std.specs.Prelude.{slice_index_or}
use Rattle.std.specs.Cmp.{IsTotalOrder}
use Rattle.std.specs.List.Sorted.{IsPermutation, IsSortedBy}
use Rattle.std.specs.Ordering.{is_lt, ordering_reverse}
use Rattle.std.specs.declared.cmp.Ordering.TheVariants.{Less, Equal, Greater}
use Rattle.std.proofs.lemmas.Bool.{and_from, and_parts, cases_Bool, false≢true}
use Rattle.std.proofs.lemmas.List.Sorted.{IsPermutation-map, IsPermutation-sym}
use Rattle.crew_resource.specs.Members.{Each}
use Rattle.crew_resource.specs.Resource.{OrderLaws}
use Rattle.crew_label.specs.Pools.{ArePoolOf, AreRising}
use Rattle.crew_label.specs.Walks.{shown}
use Rattle.crew_label.specs.declared.label.Label.{Label}
use Rattle.crew_label.specs.declared.label.Link.{Link}
use Rattle.crew_pool.specs.Apart as ByTest
use Rattle.crew_pool.proofs.Permuted.{AreApart-permuted, Member-permuted}
use Rattle.crew_room.specs.Rooms.{HaveOwnValues}

sorted_tail : {X : Type 0} (lt : X → X → Bool) (x : X) (xs : List X) → IsSortedBy lt (x ∷ xs) → IsSortedBy lt xs
sorted_tail lt x xs h k d z l =
    let e : suc k + 1 ≡ suc (k + 1) = omega arith in
    subst (λ n. lt (slice_index_or (x ∷ xs) n d) (slice_index_or xs k d) ≡ false) e (h (suc k) d (omega arith) (omega arith))

first_pair : {X : Type 0} (lt : X → X → Bool) (x y : X) (xs : List X) → IsSortedBy lt (x ∷ y ∷ xs) → lt y x ≡ false
first_pair lt x y xs h = h 0 x (omega arith) (omega arith)

-- not greater, and not equal: it is less
rises : (a r : Ordering) → a ≡ ordering_reverse r → is_lt a ≡ false → (r ≡ Equal → ⊥) → r ≡ Less
rises a Less p q n = refl
rises a Equal p q n = absurd (n refl)
rises a Greater p q n = absurd (false≢true (sym q ∙ ap is_lt p))

module _ {V : Type 0} (cmp : V → V → Ordering) (below : V → V → Bool) (total : IsTotalOrder cmp) (laws : OrderLaws cmp below) where
  each-before : (x y : V) (ls : List (Label V)) → cmp x y ≡ Less → Each (λ m. cmp y m.value ≡ Less) ls → Each (λ m. cmp x m.value ≡ Less) ls
  each-before x y [] l h = tt
  each-before x y (m ∷ ls) l h = (total.trans x y m.value l h.0, each-before x y ls l h.1)

  -- sorted labels of which no value stands twice rise
  pub sorted-rises : (ls : List (Label V)) → IsSortedBy (λ a b. is_lt (cmp a.value b.value)) ls → HaveOwnValues ls → AreRising cmp ls
  sorted-rises [] s h = tt
  sorted-rises (x ∷ []) s h = (tt, tt)
  sorted-rises (x ∷ y ∷ ls) s h =
      let lt = λ (a b : Label V). is_lt (cmp a.value b.value) in
      let rest = sorted-rises (y ∷ ls) (sorted_tail lt x (y ∷ ls) s) h.1 in
      let less : cmp x.value y.value ≡ Less =
      rises (cmp y.value x.value) (cmp x.value y.value) (total.antisymm y.value x.value) (first_pair lt x y ls s) (λ e. h.0.0 (laws.exact x.value y.value e)) in
      ((less, each-before x.value y.value ls less rest.0), rest)

  -- whether two values are the same
  abbrev alike : V → V → Bool
  alike a b = below a b && below b a

  differ : (a b : V) → (a ≡ b → ⊥) → alike a b ≡ false
  differ a b n = ⊎_elim {C = alike a b ≡ false}
      (λ t. let h = and_parts (below a b) (below b a) t in absurd (n (laws.antisymmetric a b h.0 h.1)))
      (λ f. f)
      (cases_Bool (alike a b))

  each-told : (x : V) (ls : List (Label V)) → Each (λ m. x ≡ m.value → ⊥) ls → ByTest.ApartFromAll alike x (map (λ l. l.value) ls)
  each-told x [] h = tt
  each-told x (m ∷ ls) h = ((differ x m.value h.0, differ m.value x (λ e. h.0 (sym e))), each-told x ls h.1)

  told : (ls : List (Label V)) → HaveOwnValues ls → ByTest.AreApart alike (map (λ l. l.value) ls)
  told [] h = tt
  told (l ∷ ls) h = (each-told l.value ls h.0, told ls h.1)

  each-apart : (x : V) (ls : List (Label V)) → ByTest.ApartFromAll alike x (map (λ l. l.value) ls) → Each (λ m. x ≡ m.value → ⊥) ls
  each-apart x [] h = tt
  each-apart x (m ∷ ls) h =
      (λ e. false≢true (sym h.0.0 ∙ subst (λ z. alike x z ≡ true) e (and_from (below x x) (below x x) (laws.reflexive x) (laws.reflexive x))), each-apart x ls h.1)

  apart : (ls : List (Label V)) → ByTest.AreApart alike (map (λ l. l.value) ls) → HaveOwnValues ls
  apart [] h = tt
  apart (l ∷ ls) h = (each-apart l.value ls h.0, apart ls h.1)

  -- in another order no value stands twice either
  pub apart-permuted : (ls ms : List (Label V)) → IsPermutation ls ms → HaveOwnValues ls → HaveOwnValues ms
  apart-permuted ls ms p h =
      apart ms (AreApart-permuted alike (λ a. and_from (below a a) (below a a) (laws.reflexive a) (laws.reflexive a)) (map (λ l. l.value) ls) (map (λ l. l.value) ms)
      (IsPermutation-map (λ (l : Label V). l.value) ls ms p) (told ls h))

-- a pool has no order
pub pool-permuted : {V : Type 0} (below same : V → V → Bool) (trail : Link → List ℕ) (candidates : List (V × List ℕ)) (ls ms : List (Label V)) → IsPermutation ls ms
    → ArePoolOf below same trail candidates ls → ArePoolOf below same trail candidates ms
pool-permuted below same trail candidates ls ms p h =
    let us = map (shown trail) ls in
    let vs = map (shown trail) ms in
    let forth = IsPermutation-map (shown trail) ls ms p in
    let back = IsPermutation-sym us vs forth in
    record {
      among = λ v w m. h.among v w (Member-permuted vs us back (v, w) m);
      covers = λ x y c. let k = h.covers x y c in (k.0, k.1, Member-permuted us vs forth (k.0, k.1) k.2, k.3);
      alone = λ v w x y m n s. h.alone v w x y (Member-permuted vs us back (v, w) m) (Member-permuted vs us back (x, y) n) s;
    }
