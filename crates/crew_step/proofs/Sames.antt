-- What comparisons tell.
use Rattle.std.proofs.Common.{◌≡◌, ◌&&◌, ◌+◌, ◌++◌, ℕ, zero, suc, Bool, true, List, [], ◌∷◌, Some, ℤ, get_or, map, refl, subst, sym, take, ap, ◌∙◌, Ordering}
use Rattle.std.specs.Prelude.{slice_get}
use Rattle.std.specs.Ordering.{int_eq}
use Rattle.std.proofs.lemmas.Bool.{and_from, and_parts}
use Rattle.std.proofs.lemmas.Bool.Decides.{Decides-int_eq}
use Rattle.std.proofs.lemmas.List.{map-append, take_more}
use Rattle.std.proofs.lemmas.Option.{get_or_from_slice_get, slice_get_within}
use Rattle.crew_pairing.specs.declared.vector.PairingVector.{PairingVector}
use Rattle.std.specs.Bool.{Decides}
use Rattle.std.specs.Cmp.{IsTotalOrder}
use Rattle.std.specs.Ordering.{eq_by_cmp, is_eq}
use Rattle.std.specs.declared.cmp.Ordering.TheVariants.{Less, Equal, Greater}
use Rattle.std.proofs.lemmas.Cmp.{eq_by_cmp_equiv}
use Rattle.crew_pairing.specs.Keys.{key_cmp, key_total, walk_cmp, walk_total}
use Rattle.crew_pairing.specs.Legs.{Leg}
use Rattle.crew_resource.proofs.ListOrder.{lists_exact}
use Rattle.crew_vector.proofs.Orders.{key-exact}

tied : (r : Ordering) → is_eq r ≡ true → r ≡ Equal
tied Less e = absurd (let q : ⊥ = (cc) in q)
tied Equal e = refl
tied Greater e = absurd (let q : ⊥ = (cc) in q)

by-order : {X : Type 0} (cmp : X → X → Ordering) → IsTotalOrder cmp → ((a b : X) → cmp a b ≡ Equal → a ≡ b) → (a b : X) → Decides (eq_by_cmp cmp a b) (a ≡ b)
by-order cmp total exact a b = (
  λ e. exact a b (tied (cmp a b) e),
  λ e. ap (λ z. eq_by_cmp cmp z b) e ∙ (eq_by_cmp_equiv total).refl b,
)

pub key-decides : (a b : List Leg) → Decides (eq_by_cmp key_cmp a b) (a ≡ b)
key-decides = by-order key_cmp key_total key-exact

pub walk-decides : (a b : List (List Leg)) → Decides (eq_by_cmp walk_cmp a b) (a ≡ b)
walk-decides = by-order walk_cmp walk_total (lists_exact key_cmp key-exact)

abbrev seven : ℤ → ℤ → ℤ → ℤ → ℤ → ℤ → ℤ → PairingVector
seven a b c f y n w = record { duty_pay = a; trip_rig = b; guarantee = c; fdp = f; fly = y; duties = n; away = w }

same-seven : (a b c f y n w a' b' c' f' y' n' w' : ℤ) → a ≡ a' → b ≡ b' → c ≡ c' → f ≡ f' → y ≡ y' → n ≡ n' → w ≡ w' → seven a b c f y n w ≡ seven a' b' c' f' y' n' w'
same-seven a b c f y n w a' b' c' f' y' n' w' p q r i j k l =
    ap (λ z. seven z b c f y n w) p
    ∙ (ap (λ z. seven a' z c f y n w) q
    ∙ (ap (λ z. seven a' b' z f y n w) r
    ∙ (ap (λ z. seven a' b' c' z y n w) i
    ∙ (ap (λ z. seven a' b' c' f' z n w) j
    ∙ (ap (λ z. seven a' b' c' f' y' z w) k
    ∙ ap (λ z. seven a' b' c' f' y' n' z) l)))))

abbrev parts_eq : PairingVector → PairingVector → Bool
parts_eq x y =
    int_eq x.duty_pay y.duty_pay
    && (int_eq x.trip_rig y.trip_rig && (int_eq x.guarantee y.guarantee && (int_eq x.fdp y.fdp && (int_eq x.fly y.fly && (int_eq x.duties y.duties && int_eq x.away y.away)))))

same-vector : (x y : PairingVector) → parts_eq x y ≡ true → x ≡ y
same-vector x y e =
    let a = and_parts _ _ e in
    let b = and_parts _ _ a.1 in
    let c = and_parts _ _ b.1 in
    let f = and_parts _ _ c.1 in
    let g = and_parts _ _ f.1 in
    let n = and_parts _ _ g.1 in
    same-seven _ _ _ _ _ _ _ _ _ _ _ _ _ _
    ((Decides-int_eq x.duty_pay y.duty_pay).0 a.0)
    ((Decides-int_eq x.trip_rig y.trip_rig).0 b.0)
    ((Decides-int_eq x.guarantee y.guarantee).0 c.0)
    ((Decides-int_eq x.fdp y.fdp).0 f.0)
    ((Decides-int_eq x.fly y.fly).0 g.0)
    ((Decides-int_eq x.duties y.duties).0 n.0)
    ((Decides-int_eq x.away y.away).0 n.1)

one-itself : (x : ℤ) → int_eq x x ≡ true
one-itself x = (Decides-int_eq x x).1 refl

vector-itself : (x : PairingVector) → parts_eq x x ≡ true
vector-itself x =
    and_from _ _ (one-itself x.duty_pay)
    (and_from _ _ (one-itself x.trip_rig) (and_from _ _ (one-itself x.guarantee) (and_from _ _ (one-itself x.fdp) (and_from _ _ (one-itself x.fly) (and_from _ _ (one-itself x.duties) (one-itself x.away))))))

-- entries are compared by vector and walk
pub entry-decides : (x y : PairingVector × List (List Leg)) → Decides (parts_eq x.0 y.0 && eq_by_cmp walk_cmp x.1 y.1) (x ≡ y)
entry-decides x y = (
  λ e.
      let k = and_parts _ _ e in
      let v = same-vector x.0 y.0 k.0 in
      let w = (walk-decides x.1 y.1).0 k.1 in
      ap (λ z. let p : PairingVector × List (List Leg) = (z, x.1) in p) v ∙ ap (λ z. let p : PairingVector × List (List Leg) = (y.0, z) in p) w,
  λ e.
      let v : parts_eq x.0 y.0 ≡ true = subst (λ (z : PairingVector × List (List Leg)). parts_eq x.0 z.0 ≡ true) e (vector-itself x.0) in
      and_from _ _ v ((walk-decides x.1 y.1).1 (ap (λ z. z.1) e)),
)

-- lists that are the same are so at each place
pub same-at : {X Y : Type 0} (f : X → Y) (xs ys : List X) (i : ℕ) (x y : X) → slice_get xs i ≡ Some x → slice_get ys i ≡ Some y → map f xs ≡ map f ys → f x ≡ f y
same-at f xs ys i x y p q e =
    let a : slice_get (map f xs) i ≡ Some (f x) = mapped-at f xs i x p in
    let b : slice_get (map f ys) i ≡ Some (f y) = mapped-at f ys i y q in
    let c : slice_get (map f xs) i ≡ slice_get (map f ys) i = ap (λ zs. slice_get zs i) e in
    (cc)
  where
    mapped-at : {X Y : Type 0} (f : X → Y) (xs : List X) (i : ℕ) (x : X) → slice_get xs i ≡ Some x → slice_get (map f xs) i ≡ Some (f x)
    mapped-at f [] i x p = absurd (let q : ⊥ = (cc) in q)
    mapped-at f (z ∷ zs) zero x p = let s : z ≡ x = (cc) in ap (λ u. Some (f u)) s
    mapped-at f (z ∷ zs) (suc i) x p = mapped-at f zs i x p

-- and one place more
pub same-more : {X Y : Type 0} (f : X → Y) (xs ys : List X) (i : ℕ) (x y : X) → slice_get xs i ≡ Some x → slice_get ys i ≡ Some y → map f (take i xs) ≡ map f (take i ys) → f x ≡ f y
    → map f (take (i + 1) xs) ≡ map f (take (i + 1) ys)
same-more f xs ys i x y p q e s =
    grown f xs i x p ∙ (ap (λ zs. zs ++ f x ∷ []) e ∙ (ap (λ z. map f (take i ys) ++ z ∷ []) s ∙ sym (grown f ys i y q)))
  where
    grown : {X Y : Type 0} (f : X → Y) (xs : List X) (i : ℕ) (x : X) → slice_get xs i ≡ Some x → map f (take (i + 1) xs) ≡ map f (take i xs) ++ f x ∷ []
    grown {X} f xs i x p =
        let within = slice_get_within xs i x p in
        let item : get_or xs i x ≡ x = get_or_from_slice_get xs i x x p in
        ap (map f) (take_more xs i x within ∙ ap (λ (y : X). take i xs ++ y ∷ []) item) ∙ map-append f (take i xs) (x ∷ [])
