-- What the first elements of a list pass, one more at a time.
use Rattle.std.proofs.Common.{◌≡◌, ℕ, ◌+◌, ◌<◌, ◌≤◌, Bool, true, false, List, [], ◌∷◌, ◌++◌, ◌||◌, ◌⊎◌, length, get_or, map, take, inl, inr, refl, sym, ◌∙◌, ap, subst, arith, append-nil}
use Rattle.std.specs.List.{filter, list_any}
use Rattle.std.proofs.lemmas.List.{map-append, take_all, take_more}
use Rattle.std.proofs.lemmas.List.Elements.{filter-append}
use Rattle.std.proofs.lemmas.List.Folds.{list_any-append}
use Rattle.std.proofs.lemmas.Bool.{cases_lt}
use Rattle.crew_resource.specs.Members.{Member}
use Rattle.crew_resource.proofs.Members.{Member-append, Member-append_left, Member-append_right}

module _ {X : Type 0} (p : X → Bool) (xs : List X) (i : ℕ) (x : X) (within : i < length xs) (is : x ≡ get_or xs i x) where
  next : take (i + 1) xs ≡ take i xs ++ x ∷ []
  next = take_more xs i x within ∙ ap (λ z. take i xs ++ z ∷ []) (sym is)

  alone : list_any p (x ∷ []) ≡ p x
  alone = elim (p x) as (λ b. (b || false) ≡ b) [ true ↦ refl | false ↦ refl ]

  pub any_more : list_any p (take i xs) ≡ false → p x ≡ false → list_any p (take (i + 1) xs) ≡ false
  any_more h f = ap (list_any p) next ∙ (list_any-append p (take i xs) (x ∷ []) ∙ (ap (λ b. b || list_any p (x ∷ [])) h ∙ (alone ∙ f)))

  pub filter_in : p x ≡ true → filter p (take i xs) ++ x ∷ [] ≡ filter p (take (i + 1) xs)
  filter_in t = sym (ap (filter p) next ∙ (filter-append p (take i xs) (x ∷ []) ∙ ap (λ ys. filter p (take i xs) ++ ys) (rw t refl)))

  pub filter_out : p x ≡ false → filter p (take i xs) ≡ filter p (take (i + 1) xs)
  filter_out f = sym (ap (filter p) next ∙ (filter-append p (take i xs) (x ∷ []) ∙ (ap (λ ys. filter p (take i xs) ++ ys) (rw f refl) ∙ append-nil (filter p (take i xs)))))

-- what a map makes of one more
pub mapped_more : {X Y : Type 0} (f : X → Y) (xs : List X) (i : ℕ) (x : X) (ys new : List Y) → i < length xs → x ≡ get_or xs i x
    → ys ≡ map f (take i xs) → new ≡ ys ++ f x ∷ [] → new ≡ map f (take (i + 1) xs)
mapped_more f xs i x ys new within is h e =
    e ∙ (ap (λ zs. zs ++ f x ∷ []) h ∙ sym (ap (map f) (next (λ z. true) xs i x within is) ∙ map-append f (take i xs) (x ∷ [])))

pub taken_more : {X : Type 0} (xs : List X) (i : ℕ) (x : X) (ys new : List X) → i < length xs → x ≡ get_or xs i x → ys ≡ take i xs → new ≡ ys ++ x ∷ [] → new ≡ take (i + 1) xs
taken_more xs i x ys new within is h e = e ∙ (ap (λ zs. zs ++ x ∷ []) h ∙ sym (next (λ z. true) xs i x within is))

or_true : (b : Bool) → (b || true) ≡ true
or_true true = refl
or_true false = refl

pub any_here : {X : Type 0} (p : X → Bool) (xs : List X) (x : X) → Member xs x → p x ≡ true → list_any p xs ≡ true
any_here p [] x m t = absurd m
any_here p (y ∷ ys) x (inl e) t = rw (ap p e ∙ t) refl
any_here p (y ∷ ys) x (inr m) t = rw (any_here p ys x m t) (or_true (p y))

pub any_all : {X : Type 0} (p : X → Bool) (xs : List X) (n : ℕ) → length xs ≤ n → list_any p (take n xs) ≡ false → list_any p xs ≡ false
any_all p xs n h f = ap (list_any p) (sym (take_all n xs h)) ∙ f

pub filter_all : {X : Type 0} (p : X → Bool) (xs : List X) (n : ℕ) → length xs ≤ n → filter p (take n xs) ≡ filter p xs
filter_all p xs n h = ap (filter p) (take_all n xs h)

pub mapped_all : {X Y : Type 0} (f : X → Y) (now xs : List X) (n : ℕ) → now ≡ xs → length now ≤ n → map f (take n xs) ≡ map f xs
mapped_all f now xs n e h = let k = ap length e in ap (map f) (take_all n xs (omega (arith, k, h)))

-- the same of a list that is the same
pub taken_all : {X : Type 0} (now xs : List X) (n : ℕ) → now ≡ xs → length now ≤ n → take n xs ≡ xs
taken_all now xs n e h = let k = ap length e in take_all n xs (omega (arith, k, h))

-- of one more an element is one of those before, or the new one
pub member_more : {X : Type 0} (xs : List X) (i : ℕ) (x y : X) → i < length xs → Member (take (i + 1) xs) y → Member (take i xs) y ⊎ (get_or xs i x ≡ y)
member_more {X} xs i x y h m = of (Member-append (take i xs) (get_or xs i x ∷ []) y (subst (λ (ys : List X). Member ys y) (take_more xs i x h) m)) where
  of : Member (take i xs) y ⊎ Member (get_or xs i x ∷ []) y → Member (take i xs) y ⊎ (get_or xs i x ≡ y)
  of (inl k) = inl k
  of (inr (inl q)) = inr q
  of (inr (inr k)) = absurd k

-- where the first so many numbers are in a list, they and the next are in one that has it too
pub numbers_more : (ks new : List ℕ) (n : ℕ) → new ≡ ks ++ n ∷ [] → ((k : ℕ) → k < n → Member ks k) → (k : ℕ) → k < n + 1 → Member new k
numbers_more ks new n e f k h = subst (λ (l : List ℕ). Member l k) (sym e) (of (cases_lt k n)) where
  of : (k < n) ⊎ (n ≤ k) → Member (ks ++ n ∷ []) k
  of (inl t) = Member-append_left ks (n ∷ []) k (f k t)
  of (inr t) = Member-append_right ks (n ∷ []) k (inl (omega (arith, t, h)))
