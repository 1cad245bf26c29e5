-- Entries listed by vector and walk, each once: the list is told by its members.
use Rattle.std.proofs.Common.{◌≡◌, ◌∙◌, ◌⊎◌, List, [], ◌∷◌, inl, inr, refl, sym, ap, subst, ⊎_elim, Ordering}
use Rattle.std.specs.Cmp.{IsTotalOrder, on_total, then_total}
use Rattle.std.specs.Ordering.{ordering_reverse, ordering_then}
use Rattle.std.specs.Prelude.{IsPermutation}
use Rattle.std.specs.declared.cmp.Ordering.TheVariants.{Equal, Greater, Less}
use Rattle.std.proofs.lemmas.List.Sorted.{IsPermutation-sym}
use Rattle.crew_pairing.proofs.Shuffled.{Member-shuffled}
use Rattle.crew_pairing.specs.Keys.{key_cmp, walk_cmp, walk_total}
use Rattle.crew_pairing.specs.Legs.{Leg}
use Rattle.crew_pairing.specs.declared.vector.PairingVector.{PairingVector}
use Rattle.crew_resource.proofs.ListOrder.{lists_exact}
use Rattle.crew_resource.proofs.Rising.{Rising, same-rising}
use Rattle.crew_resource.specs.Machinery.BothLaws.{both_equal}
use Rattle.crew_resource.specs.Members.{Each, Member}
use Rattle.crew_solve.proofs.Lent.{vector-total}
use Rattle.crew_solve.proofs.crew_vector_lemmas.Orders.{key-exact}
use Rattle.crew_solve.specs.crew_vector.Fronts.{RiseByVector, vector_cmp}
use Rattle.crew_solve.specs.crew_vector.Machinery.Named.{named_order}
use Rattle.crew_fronts.specs.Machinery.Listed.{Entry, entry_cmp, listed, one_of, put}

entry-total : IsTotalOrder entry_cmp
entry-total = then_total (on_total (λ (e : Entry). e.0) vector-total) (on_total (λ (e : Entry). e.1) walk_total)

entry-exact : (e f : Entry) → entry_cmp e f ≡ Equal → e ≡ f
entry-exact e f q =
    let k = both_equal (vector_cmp e.0 f.0) (walk_cmp e.1 f.1) q in
    ap (λ v. (v, e.1)) (named_order.exact e.0 f.0 k.0) ∙ ap (λ w. (f.0, w)) (lists_exact key_cmp key-exact e.1 f.1 k.1)

abbrev place : Ordering → Entry → Entry → List Entry → List Entry → List Entry
place o e f fs rest = one_of o (e ∷ f ∷ fs) (f ∷ fs) (f ∷ rest)

-- it is among them
first-by : (e f : Entry) (fs rest : List Entry) → Member rest e → (o : Ordering) → entry_cmp e f ≡ o → Member (place o e f fs rest) e
first-by e f fs rest m Less q = inl refl
first-by e f fs rest m Equal q = inl (sym (entry-exact e f q))
first-by e f fs rest m Greater q = inr m

put-first : (e : Entry) (fs : List Entry) → Member (put e fs) e
put-first e [] = inl refl
put-first e (f ∷ fs) = first-by e f fs (put e fs) (put-first e fs) (entry_cmp e f) refl

-- the others too
others-by : (e f : Entry) (fs rest : List Entry) (x : Entry) → (Member fs x → Member rest x) → Member (f ∷ fs) x → (o : Ordering) → Member (place o e f fs rest) x
others-by e f fs rest x on m Less = inr m
others-by e f fs rest x on m Equal = m
others-by e f fs rest x on (inl q) Greater = inl q
others-by e f fs rest x on (inr m) Greater = inr (on m)

put-others : (e : Entry) (fs : List Entry) (x : Entry) → Member fs x → Member (put e fs) x
put-others e [] x m = absurd m
put-others e (f ∷ fs) x m = others-by e f fs (put e fs) x (put-others e fs x) m (entry_cmp e f)

-- and nothing else
from-by : (e f : Entry) (fs rest : List Entry) (x : Entry) → (Member rest x → (e ≡ x) ⊎ Member fs x) → (o : Ordering) → Member (place o e f fs rest) x → (e ≡ x) ⊎ Member (f ∷ fs) x
from-by e f fs rest x on Less m = m
from-by e f fs rest x on Equal m = inr m
from-by e f fs rest x on Greater (inl q) = inr (inl q)
from-by e f fs rest x on Greater (inr m) = ⊎_elim {C = (e ≡ x) ⊎ Member (f ∷ fs) x} inl (λ n. inr (inr n)) (on m)

put-from : (e : Entry) (fs : List Entry) (x : Entry) → Member (put e fs) x → (e ≡ x) ⊎ Member fs x
put-from e [] x m = m
put-from e (f ∷ fs) x m = from-by e f fs (put e fs) x (put-from e fs x) (entry_cmp e f) m

pub listed-in : (es : List Entry) (x : Entry) → Member es x → Member (listed es) x
listed-in [] x m = absurd m
listed-in (e ∷ es) x (inl q) = subst (Member (put e (listed es))) q (put-first e (listed es))
listed-in (e ∷ es) x (inr m) = put-others e (listed es) x (listed-in es x m)

pub listed-out : (es : List Entry) (x : Entry) → Member (listed es) x → Member es x
listed-out [] x m = absurd m
listed-out (e ∷ es) x m = ⊎_elim {C = Member (e ∷ es) x} inl (λ n. inr (listed-out es x n)) (put-from e (listed es) x m)

-- the list rises
each-of : (P : Entry → Type 0) (xs : List Entry) → ((x : Entry) → Member xs x → P x) → Each P xs
each-of P [] f = tt
each-of P (x ∷ xs) f = (f x (inl refl), each-of P xs (λ y m. f y (inr m)))

pub each-at : (P : Entry → Type 0) (xs : List Entry) (x : Entry) → Each P xs → Member xs x → P x
each-at P [] x h m = absurd m
each-at P (y ∷ ys) x h (inl q) = subst P q h.0
each-at P (y ∷ ys) x h (inr m) = each-at P ys x h.1 m

turned : (e f : Entry) → entry_cmp e f ≡ Greater → entry_cmp f e ≡ Less
turned e f q = entry-total.antisymm f e ∙ ap ordering_reverse q

rising-by : (e f : Entry) (fs : List Entry) → Rising entry_cmp (f ∷ fs) → Rising entry_cmp (put e fs) → (o : Ordering) → entry_cmp e f ≡ o → Rising entry_cmp (place o e f fs (put e fs))
rising-by e f fs h k Less q = ((q, each-of (λ y. entry_cmp e y ≡ Less) fs (λ y m. entry-total.trans e f y q (each-at (λ y. entry_cmp f y ≡ Less) fs y h.0 m))), h)
rising-by e f fs h k Equal q = h
rising-by e f fs h k Greater q =
    (each-of (λ y. entry_cmp f y ≡ Less) (put e fs) (λ y m. ⊎_elim {C = entry_cmp f y ≡ Less} (λ i. subst (λ z. entry_cmp f z ≡ Less) i (turned e f q)) (λ n. each-at (λ y. entry_cmp f y ≡ Less) fs y h.0 n) (put-from e fs y m)), k)

put-rising : (e : Entry) (fs : List Entry) → Rising entry_cmp fs → Rising entry_cmp (put e fs)
put-rising e [] h = (tt, tt)
put-rising e (f ∷ fs) h = rising-by e f fs h (put-rising e fs h.1) (entry_cmp e f) refl

listed-rising : (es : List Entry) → Rising entry_cmp (listed es)
listed-rising [] = tt
listed-rising (e ∷ es) = put-rising e (listed es) (listed-rising es)

less-then : (o p : Ordering) → o ≡ Less → ordering_then o p ≡ Less
less-then o p q = ap (λ z. ordering_then z p) q

by-vector : (es : List Entry) → RiseByVector es → Rising entry_cmp es
by-vector [] h = tt
by-vector (e ∷ es) h =
    (each-of (λ y. entry_cmp e y ≡ Less) es (λ y m. less-then (vector_cmp e.0 y.0) (walk_cmp e.1 y.1) (each-at (λ y. vector_cmp e.0 y.0 ≡ Less) es y h.0 m)), by-vector es h.1)

-- entries in order of vector are the listed ones of the same entries in any order
pub listed-is : (es fs : List Entry) → IsPermutation es fs → RiseByVector fs → fs ≡ listed es
listed-is es fs p h =
    same-rising entry_cmp entry-total fs (listed es) (by-vector fs h) (listed-rising es)
    (λ x m. listed-in es x (Member-shuffled fs es x (IsPermutation-sym es fs p) m))
    (λ x m. Member-shuffled es fs x p (listed-out es x m))

-- the same entries are listed alike
pub listed-same : (es fs : List Entry) → ((x : Entry) → (Member es x → Member fs x) × (Member fs x → Member es x)) → listed es ≡ listed fs
listed-same es fs same =
    same-rising entry_cmp entry-total (listed es) (listed fs) (listed-rising es) (listed-rising fs)
    (λ x m. listed-in fs x ((same x).0 (listed-out es x m)))
    (λ x m. listed-in es x ((same x).1 (listed-out fs x m)))

-- where a vector tells its walk, they stand in order of vector
then-less : (o p : Ordering) → ordering_then o p ≡ Less → (o ≡ Less) ⊎ ((o ≡ Equal) × (p ≡ Less))
then-less Less p q = inl refl
then-less Equal p q = inr (refl, q)
then-less Greater p q = absurd (let z : ⊥ = (cc) in z)

pub rise-listed : (es : List Entry) → Rising entry_cmp es → ((v : PairingVector) (w y : List (List Leg)) → Member es (v, w) → Member es (v, y) → w ≡ y) → RiseByVector es
rise-listed [] h one = tt
rise-listed (e ∷ es) h one = (
  each-of (λ y. vector_cmp e.0 y.0 ≡ Less) es (λ y m.
      let before = each-at (λ y. entry_cmp e y ≡ Less) es y h.0 m in
      ⊎_elim {C = vector_cmp e.0 y.0 ≡ Less}
      (λ q. q)
      (λ q.
      let v : e.0 ≡ y.0 = named_order.exact e.0 y.0 q.0 in
      let w : e.1 ≡ y.1 = one e.0 e.1 y.1 (inl refl) (inr (subst (λ z. Member es (z, y.1)) (sym v) m)) in
      let same : e ≡ y = ap (λ z. (z, e.1)) v ∙ ap (λ z. (y.0, z)) w in
      let itself : entry_cmp e e ≡ Less = subst (λ z. entry_cmp e z ≡ Less) (sym same) before in
      let tied : Less ≡ ordering_reverse Less = sym itself ∙ (entry-total.antisymm e e ∙ ap ordering_reverse itself) in
      absurd (let z : ⊥ = (cc) in z))
      (then-less (vector_cmp e.0 y.0) (walk_cmp e.1 y.1) before)),
  rise-listed es h.1 (λ v w y m n. one v w y (inr m) (inr n)),
)

pub listed-rise : (es : List Entry) → ((v : PairingVector) (w y : List (List Leg)) → Member es (v, w) → Member es (v, y) → w ≡ y) → RiseByVector (listed es)
listed-rise es one = rise-listed (listed es) (listed-rising es) (λ v w y m n. one v w y (listed-out es (v, w) m) (listed-out es (v, y) n))
