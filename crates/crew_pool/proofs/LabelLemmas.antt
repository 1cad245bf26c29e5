-- Labels beside their marks.
use Rattle.std.proofs.Common.{◌≡◌, ℕ, zero, suc, ◌+◌, ◌<◌, ◌⊎◌, Bool, true, false, cond, not, List, [], ◌∷◌, ◌++◌, length, take, map, get_or, set, ltb, Option, Some, None, refl, subst, sym, ◌∙◌, ap, arith, ⊎_elim}
use Rattle.std.specs.Prelude.{◌||◌, ◌≤◌, slice_get}
use Rattle.std.specs.Option.{is_some}
use Rattle.std.specs.List.{filter, list_any, position, position_or_len, swap}
use borrow.Author.Tests.{ltb-true, ltb-false}
use Rattle.std.proofs.Math.ListN.{get_or-map}
use Rattle.std.proofs.lemmas.Bool.{cases_Bool, lt-ltb, le-ltb}
use Rattle.std.proofs.lemmas.List.{append-nil, map_more, map-set}
use Rattle.std.proofs.lemmas.List.Sums.{position_or_len_is}

-- the elements of two places change them, and so do what a function makes of them
pub map-swap : {X Y : Type 0} (f : X → Y) (xs : List X) (i j : ℕ) → map f (swap xs i j) ≡ swap (map f xs) i j
map-swap f [] i j = refl
map-swap f (d ∷ ys) i j =
    let xs = d ∷ ys in
    let a = get_or xs j d in
    let b = get_or xs i d in
    map-set f (set xs i a) j b
    ∙ (ap (λ z. set z j (f b)) (map-set f xs i a)
    ∙ (ap (λ z. set (set (map f xs) i z) j (f b)) (sym (get_or-map f xs j d))
    ∙ ap (λ z. set (set (map f xs) i (get_or (map f xs) j (f d))) j z) (sym (get_or-map f xs i d))))

-- what is swapped in step stays in step
pub swapped_in_step : {X Y : Type 0} (f : X → Y) (xs us : List X) (ys vs : List Y) (i j : ℕ) → ys ≡ map f xs → us ≡ swap xs i j → vs ≡ swap ys i j → vs ≡ map f us
swapped_in_step f xs us ys vs i j e p q = q ∙ (ap (λ z. swap z i j) e ∙ (sym (map-swap f xs i j) ∙ ap (map f) (sym p)))

keeps_all : {X : Type 0} (hit : X → X → Bool) (xs : List X)
    → filter (λ e. not (list_any (λ l. hit l e) [])) xs ≡ xs
keeps_all hit [] = refl
keeps_all hit (x ∷ xs) = ap (λ ys. x ∷ ys) (keeps_all hit xs)

-- where none joins all stay
pub none_joins : {X : Type 0} (hit : X → X → Bool) (xs joins : List X) → joins ≡ []
    → xs ≡ filter (λ e. not (list_any (λ l. hit l e) joins)) xs ++ joins
none_joins hit xs joins e =
    sym (subst (λ js. filter (λ x. not (list_any (λ l. hit l x) js)) xs ++ js ≡ xs) (sym e)
    (append-nil (filter (λ x. not (list_any (λ l. hit l x) [])) xs) ∙ keeps_all hit xs))

-- the first label that passes a test, looked for by marks that tell of most that don't
module _ {X Y : Type 0} (f : X → Y) (test : X → Bool) where
  -- none of so many passes it
  abbrev pub NoneOf : List X → ℕ → Type 0
  NoneOf xs i = (k : ℕ) (x : X) → k < i → slice_get xs k ≡ Some x → test x ≡ false

  pub mark-at : (xs : List X) (i : ℕ) (x : X) (d : Y) → slice_get xs i ≡ Some x → get_or (map f xs) i d ≡ f x
  mark-at [] i x d h = absurd (let q : ⊥ = (cc) in q)
  mark-at (y ∷ ys) zero x d h = let q : y ≡ x = (cc) in ap f q
  mark-at (y ∷ ys) (suc i) x d h = mark-at ys i x d h

  pub none-more : (xs : List X) (i : ℕ) → NoneOf xs i → ((x : X) → slice_get xs i ≡ Some x → test x ≡ false) → NoneOf xs (i + 1)
  none-more xs i none here k x h at = ⊎_elim {C = test x ≡ false} (λ l. none k x l at) (λ e. here x (subst (λ n. slice_get xs n ≡ Some x) e at)) (either k i h)
    where
      either : (k i : ℕ) → k < i + 1 → (k < i) ⊎ (k ≡ i)
      either k i h = grind (arith)

  there : (xs : List X) (k : ℕ) (d : X) → k < length xs → slice_get xs k ≡ Some (get_or xs k d)
  there [] k d h = absurd (omega (arith, h))
  there (x ∷ xs) zero d h = refl
  there (x ∷ xs) (suc k) d h = there xs k d (omega (arith, h))

  pub got : (xs : List X) (k : ℕ) (x d : X) → slice_get xs k ≡ Some x → get_or xs k d ≡ x
  got [] k x d h = absurd (let q : ⊥ = (cc) in q)
  got (y ∷ ys) zero x d h = let q : y ≡ x = (cc) in q
  got (y ∷ ys) (suc k) x d h = got ys k x d h

  pub label-at : (xs : List X) (k : ℕ) (x : X) → k < length xs → x ≡ get_or xs k x → slice_get xs k ≡ Some x
  label-at xs k x h is = there xs k x h ∙ ap Some (sym is)

  short : (xs : List X) (i : ℕ) (x : X) → slice_get xs i ≡ Some x → i < length xs
  short [] i x h = absurd (let q : ⊥ = (cc) in q)
  short (y ∷ ys) zero x h = omega arith
  short (y ∷ ys) (suc i) x h = let l = short ys i x h in omega (arith, l)

  pub first-found : (xs : List X) (i : ℕ) (x : X) → NoneOf xs i → slice_get xs i ≡ Some x → test x ≡ true → Some i ≡ position test xs
  first-found xs i x none at passes =
      let less = short xs i x at in
      let place : position_or_len test xs ≡ i = position_or_len_is test xs i x (omega (arith, less)) (λ k l. none k (get_or xs k x) l (there xs k x (omega (arith, l, less)))) (λ l. ap test (got xs i x x at) ∙ passes) in
      sym (ap (λ n. cond (ltb n (length xs)) (Some n) None) place ∙ ap (λ b. cond b (Some i) None) (lt-ltb i (length xs) less))

  pub none-found : (xs : List X) → NoneOf xs (length xs) → None ≡ position test xs
  none-found [] none = refl
  none-found (x ∷ xs) none =
      let all = x ∷ xs in
      let place : position_or_len test all ≡ length all = position_or_len_is test all (length all) x (omega arith) (λ k l. none k (get_or all k x) l (there all k x l)) (λ l. absurd (omega (arith, l))) in
      sym (ap (λ n. cond (ltb n (length all)) (Some n) None) place ∙ ap (λ b. cond b (Some (length all)) None) (le-ltb (length all) (length all) (omega arith)))

is_lit : {X : Type 0} (b : Bool) (x : X) → is_some (cond b (Some x) None) ≡ b
is_lit true x = refl
is_lit false x = refl

ltb_step : (p n : ℕ) → ltb (1 + p) (suc n) ≡ ltb p n
ltb_step p n =
    ⊎_elim {C = ltb (1 + p) (suc n) ≡ ltb p n}
    (λ t. let h : p < n = ltb-true p n t in lt-ltb (1 + p) (suc n) (omega arith) ∙ sym t)
    (λ f. let h : n ≤ p = ltb-false p n f in le-ltb (1 + p) (suc n) (omega arith) ∙ sym f)
    (cases_Bool (ltb p n))

step_within : (t : Bool) (p n : ℕ) → ltb (cond (not t) (1 + p) 0) (suc n) ≡ (t || ltb p n)
step_within true p n = lt-ltb 0 (suc n) (omega arith)
step_within false p n = ltb_step p n

within : {X : Type 0} (test : X → Bool) (xs : List X) → ltb (position_or_len test xs) (length xs) ≡ list_any test xs
within test [] = refl
within test (x ∷ xs) = step_within (test x) (position_or_len test xs) (length xs) ∙ ap (λ b. test x || b) (within test xs)

-- there is a place just where one passes
pub found_any : {X : Type 0} (test : X → Bool) (xs : List X) (o : Option ℕ) (b : Bool) → o ≡ position test xs → is_some o ≡ b → list_any test xs ≡ b
found_any test xs o b e f =
    sym (within test xs) ∙ (sym (is_lit (ltb (position_or_len test xs) (length xs)) (position_or_len test xs)) ∙ (ap is_some (sym e) ∙ f))

-- a mark of the next label joins the marks of those so far
pub pushed_in_step : {X Y : Type 0} (f : X → Y) (xs : List X) (i : ℕ) (x : X) (ys vs : List Y) (y : Y) → i < length xs → x ≡ get_or xs i x
    → ys ≡ map f (take i xs) → y ≡ f x → vs ≡ ys ++ y ∷ [] → vs ≡ map f (take (i + 1) xs)
pushed_in_step f xs i x ys vs y h is e p q =
    q ∙ (ap (λ z. z ++ y ∷ []) e ∙ (ap (λ z. map f (take i xs) ++ z ∷ []) (p ∙ ap f is) ∙ sym (map_more f xs i x h)))
