-- Labels in order of vector.
use Rattle.std.proofs.Common.{◌≡◌, suc, ◌+◌, Bool, false, List, [], ◌∷◌, map, refl, sym, ◌∙◌, ap, subst, arith, Ordering}
use Rattle.std.specs.Prelude.{slice_index_or}
use Rattle.std.specs.Cmp.{IsTotalOrder}
use Rattle.std.specs.List.Sorted.{IsSortedBy}
use Rattle.std.specs.Ordering.{is_lt, ordering_then, ordering_reverse}
use Rattle.std.specs.declared.cmp.Ordering.TheVariants.{Less, Equal, Greater}
use Rattle.std.proofs.lemmas.Bool.{false≢true}
use Rattle.crew_resource.specs.Resource.{OrderLaws}
use Rattle.crew_resource.specs.Entries.{IsApart, PartedFromAll}
use Rattle.crew_pool.specs.Apart.{ApartFromAll, AreApart}
use Rattle.crew_pool.specs.Machinery.Meets.{vectors_of}
use Rattle.crew_pool.specs.declared.label_walk.LabelWalk.{LabelWalk}

pub map-itself : {X : Type 0} (xs : List X) → map (λ x. x) xs ≡ xs
map-itself [] = refl
map-itself (x ∷ xs) = ap (λ r. x ∷ r) (map-itself xs)

sorted_tail : {X : Type 0} (lt : X → X → Bool) (x : X) (xs : List X) → IsSortedBy lt (x ∷ xs) → IsSortedBy lt xs
sorted_tail lt x xs h k d z l =
    let e : suc k + 1 ≡ suc (k + 1) = omega arith in
    subst (λ n. lt (slice_index_or (x ∷ xs) n d) (slice_index_or xs k d) ≡ false) e (h (suc k) d (omega arith) (omega arith))

first_pair : {X : Type 0} (lt : X → X → Bool) (x y : X) (xs : List X) → IsSortedBy lt (x ∷ y ∷ xs) → lt y x ≡ false
first_pair lt x y xs h = h 0 x (omega arith) (omega arith)

-- what comes first decides unless it is equal
pub first_not_less : (a b : Ordering) → is_lt (ordering_then a b) ≡ false → is_lt a ≡ false
first_not_less Less b e = e
first_not_less Equal b e = refl
first_not_less Greater b e = refl

-- not greater, and not equal: it is less
rises : (a r : Ordering) → a ≡ ordering_reverse r → is_lt a ≡ false → (r ≡ Equal → ⊥) → r ≡ Less
rises a Less p q n = refl
rises a Equal p q n = absurd (n refl)
rises a Greater p q n = absurd (false≢true (sym q ∙ ap is_lt p))

module _ {V : Type 0} (cmp : V → V → Ordering) (below : V → V → Bool) (total : IsTotalOrder cmp) (laws : OrderLaws cmp below) where
  -- what rises from the next rises from the one before it
  parted_before : (x y : V) (vs : List V) → cmp x y ≡ Less → PartedFromAll cmp below y vs → ApartFromAll below x vs → PartedFromAll cmp below x vs
  parted_before x y [] l p h = tt
  parted_before x y (v ∷ vs) l p h = (record { rises = total.trans x y v l p.0.rises; forth = h.0.0; back = h.0.1 }, parted_before x y vs l p.1 h.1)

  -- labels that are apart, sorted by vector first: their vectors rise
  pub listed_apart : (order : V × LabelWalk → V × LabelWalk → Ordering) → ((a b : V × LabelWalk) → is_lt (order a b) ≡ false → is_lt (cmp a.0 b.0) ≡ false)
      → (xs : List (V × LabelWalk)) → IsSortedBy (λ a b. is_lt (order a b)) xs → AreApart below (vectors_of xs) → IsApart cmp below (vectors_of xs)
  listed_apart order by_vector [] s h = tt
  listed_apart order by_vector (x ∷ []) s h = (tt, tt)
  listed_apart order by_vector (x ∷ y ∷ xs) s h =
      let lt = λ (a b : V × LabelWalk). is_lt (order a b) in
      let rest = listed_apart order by_vector (y ∷ xs) (sorted_tail lt x (y ∷ xs) s) h.1 in
      let less : cmp x.0 y.0 ≡ Less =
      rises (cmp y.0 x.0) (cmp x.0 y.0) (total.antisymm y.0 x.0) (by_vector y x (first_pair lt x y xs s))
      (λ e. false≢true (sym h.0.0.0 ∙ (ap (below x.0) (sym (laws.exact x.0 y.0 e)) ∙ laws.reflexive x.0))) in
      ((record { rises = less; forth = h.0.0.0; back = h.0.0.1 }, parted_before x.0 y.0 (vectors_of xs) less rest.0 h.0.1), rest)
