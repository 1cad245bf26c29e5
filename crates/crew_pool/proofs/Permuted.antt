-- Labels in another order: the same members, and as far apart.
use Rattle.std.proofs.Common.{◌≡◌, ℕ, ◌+◌, Bool, true, false, cond, List, [], ◌∷◌, map, inl, inr, refl, sym, ◌∙◌, ap, subst, ⊎_elim, arith}
use Rattle.std.specs.List.{AllByRecursion, sum_by}
use Rattle.std.specs.List.Sorted.{IsPermutation}
use Rattle.std.proofs.lemmas.Bool.{cases_Bool}
use Rattle.std.proofs.lemmas.List.Elements.{All-from_recursion}
use Rattle.std.proofs.lemmas.List.Sorted.{All-permutation, IsPermutation-map, IsPermutation-sym, sum_by-IsPermutation}
use Rattle.std.proofs.lemmas.List.Sums.{sum_by-cons}
use Rattle.crew_resource.specs.Members.{Member}
use Rattle.crew_pool.specs.Apart.{ApartFromAll, AreApart}
use Rattle.crew_pool.specs.Machinery.Meets.{vectors_of}
use Rattle.crew_pool.specs.LabelWalks.{IsPoolOf, shown}
use Rattle.crew_pool.specs.declared.label_walk.LabelWalk.{LabelWalk}
use Rattle.crew_resource.proofs.Lists.{Member-All}

all_members : {X : Type 0} (P : X → Type 0) (xs : List X) → ((x : X) → Member xs x → P x) → AllByRecursion P xs
all_members P [] h = tt
all_members P (x ∷ xs) h = (h x (inl refl), all_members P xs (λ y m. h y (inr m)))

-- an element is an element of each permutation
pub Member-permuted : {X : Type 0} (xs ys : List X) → IsPermutation xs ys → (x : X) → Member xs x → Member ys x
Member-permuted xs ys p x m =
    Member-All (Member ys) xs x (All-permutation (Member ys) ys xs (IsPermutation-sym xs ys p) (All-from_recursion (Member ys) ys (all_members (Member ys) ys (λ y n. n)))) m

module _ {V : Type 0} (below : V → V → Bool) (reflexive : (a : V) → below a a ≡ true) where
  abbrev hits : V → V → ℕ
  hits a b = cond (below a b) 1 0

  -- how many vectors are reached from a
  abbrev reach : V → List V → ℕ
  reach a vs = sum_by (λ b. cond (below a b) 1 0) vs

  apart_from : (a : V) (vs : List V) (b : V) → ApartFromAll below a vs → Member vs b → (below a b ≡ false) × (below b a ≡ false)
  apart_from a [] b h m = absurd m
  apart_from a (v ∷ vs) b h (inl e) = (subst (λ z. below a z ≡ false) e h.0.0, subst (λ z. below z a ≡ false) e h.0.1)
  apart_from a (v ∷ vs) b h (inr m) = apart_from a vs b h.1 m

  apart_all : (a : V) (vs : List V) → ((b : V) → Member vs b → (below a b ≡ false) × (below b a ≡ false)) → ApartFromAll below a vs
  apart_all a [] h = tt
  apart_all a (v ∷ vs) h = (h v (inl refl), apart_all a vs (λ b m. h b (inr m)))

  hit : (a b : V) → below a b ≡ true → hits a b ≡ 1
  hit a b e = ap (λ t. cond t 1 0) e

  miss : (a b : V) → below a b ≡ false → hits a b ≡ 0
  miss a b e = ap (λ t. cond t 1 0) e

  summed : (n a b x y : ℕ) → n ≡ a + b → a ≡ x → b ≡ y → n ≡ x + y
  summed n a b x y p q r = omega arith

  none_reached : (a : V) (vs : List V) → ((b : V) → Member vs b → below a b ≡ false) → reach a vs ≡ 0
  none_reached a [] h = refl
  none_reached a (v ∷ vs) h =
      summed (reach a (v ∷ vs)) (hits a v) (reach a vs) 0 0 (sum_by-cons (hits a) v vs) (miss a v (h v (inl refl))) (none_reached a vs (λ b m. h b (inr m)))

  -- of vectors that are apart each reaches itself alone
  reached_once : (vs : List V) → AreApart below vs → (a : V) → Member vs a → reach a vs ≡ 1
  reached_once [] h a m = absurd m
  reached_once (v ∷ vs) h a (inl e) =
      subst (λ z. reach z (v ∷ vs) ≡ 1) e
      (summed (reach v (v ∷ vs)) (hits v v) (reach v vs) 1 0 (sum_by-cons (hits v) v vs) (hit v v (reflexive v)) (none_reached v vs (λ b m. (apart_from v vs b h.0 m).0)))
  reached_once (v ∷ vs) h a (inr m) =
      summed (reach a (v ∷ vs)) (hits a v) (reach a vs) 0 1 (sum_by-cons (hits a) v vs) (miss a v (apart_from v vs a h.0 m).1) (reached_once vs h.1 a m)

  two_parts : (n a b : ℕ) → n ≡ a + b → n ≡ 1 → b ≡ 1 → a ≡ 0
  two_parts n a b p q r = omega arith

  no_rest : (n a b : ℕ) → n ≡ a + b → n ≡ 1 → a ≡ 1 → b ≡ 0
  no_rest n a b p q r = omega arith

  some_rest : (n a b k : ℕ) → n ≡ a + b → n ≡ 1 → b ≡ k + 1 → b ≡ 1
  some_rest n a b k p q r = omega arith

  no_sum : (n a b : ℕ) → n ≡ a + b → n ≡ 0 → (a ≡ 0) × (b ≡ 0)
  no_sum n a b p q = (omega arith, omega arith)

  missed : (a b : V) → hits a b ≡ 0 → below a b ≡ false
  missed a b e =
      ⊎_elim {C = below a b ≡ false} (λ t. absurd (let k : 1 ≡ 0 = sym (hit a b t) ∙ e in let z : ⊥ = omega (arith, k) in z)) (λ f. f) (cases_Bool (below a b))

  unreached : (a : V) (vs : List V) → reach a vs ≡ 0 → (b : V) → Member vs b → below a b ≡ false
  unreached a [] h b m = absurd m
  unreached a (v ∷ vs) h b (inl e) =
      let k = no_sum (reach a (v ∷ vs)) (hits a v) (reach a vs) (sum_by-cons (hits a) v vs) h in
      subst (λ z. below a z ≡ false) e (missed a v k.0)
  unreached a (v ∷ vs) h b (inr m) =
      let k = no_sum (reach a (v ∷ vs)) (hits a v) (reach a vs) (sum_by-cons (hits a) v vs) h in
      unreached a vs k.1 b m

  grown : (n a b : ℕ) → n ≡ a + b → a ≡ 1 → n ≡ b + 1
  grown n a b p q = omega arith

  grown_more : (n a b k : ℕ) → n ≡ a + b → b ≡ k + 1 → n ≡ (a + k) + 1
  grown_more n a b k p q = omega arith

  -- a member reaches itself at least
  reached : (vs : List V) (a : V) → Member vs a → (k : ℕ) × (reach a vs ≡ k + 1)
  reached [] a m = absurd m
  reached (v ∷ vs) a (inl e) =
      (reach a vs, grown (reach a (v ∷ vs)) (hits a v) (reach a vs) (sum_by-cons (hits a) v vs) (hit a v (subst (λ z. below a z ≡ true) (sym e) (reflexive a))))
  reached (v ∷ vs) a (inr m) =
      let k = reached vs a m in
      (hits a v + k.0, grown_more (reach a (v ∷ vs)) (hits a v) (reach a vs) k.0 (sum_by-cons (hits a) v vs) k.1)

  apart_of_once : (vs : List V) → ((a : V) → Member vs a → reach a vs ≡ 1) → AreApart below vs
  apart_of_once [] h = tt
  apart_of_once (v ∷ vs) h =
      let one = λ (a : V) (m : Member vs a).
      let k = reached vs a m in
      some_rest (reach a (v ∷ vs)) (hits a v) (reach a vs) k.0 (sum_by-cons (hits a) v vs) (h a (inr m)) k.1 in (
        apart_all v vs (λ b m. (
          unreached v vs (no_rest (reach v (v ∷ vs)) (hits v v) (reach v vs) (sum_by-cons (hits v) v vs) (h v (inl refl)) (hit v v (reflexive v))) b m,
          missed b v (two_parts (reach b (v ∷ vs)) (hits b v) (reach b vs) (sum_by-cons (hits b) v vs) (h b (inr m)) (one b m)),
        )),
        apart_of_once vs one,
      )

  -- labels that are apart stay so in any order
  pub AreApart-permuted : (us vs : List V) → IsPermutation us vs → AreApart below us → AreApart below vs
  AreApart-permuted us vs p h =
      apart_of_once vs (λ a m. sum_by-IsPermutation (hits a) us vs p ∙ reached_once us h a (Member-permuted vs us (IsPermutation-sym us vs p) a m))

  pub labels-permuted : (xs ys : List (V × LabelWalk)) → IsPermutation xs ys → AreApart below (vectors_of xs) → AreApart below (vectors_of ys)
  labels-permuted xs ys p h = AreApart-permuted (vectors_of xs) (vectors_of ys) (IsPermutation-map (λ l. l.0) xs ys p) h

-- what candidates leave has no order
pub IsPoolOf-permuted : {V : Type 0} (below : V → V → Bool) (ws : List (List ℕ)) (cs : List (V × List ℕ)) (xs ys : List (V × LabelWalk)) → IsPermutation xs ys
    → IsPoolOf below cs (map (shown ws) xs) → IsPoolOf below cs (map (shown ws) ys)
IsPoolOf-permuted below ws cs xs ys p h =
    let us = map (shown ws) xs in
    let vs = map (shown ws) ys in
    let forth = IsPermutation-map (shown ws) xs ys p in
    let back = IsPermutation-sym us vs forth in
    record {
      among = λ v w m. h.among v w (Member-permuted vs us back (v, w) m);
      covers = λ x y c. let k = h.covers x y c in (k.0, k.1, Member-permuted us vs forth (k.0, k.1) k.2, k.3, k.4);
      alone = λ v w x y m n t. h.alone v w x y (Member-permuted vs us back (v, w) m) (Member-permuted vs us back (x, y) n) t;
    }
