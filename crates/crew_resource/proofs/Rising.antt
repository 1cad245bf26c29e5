-- Lists that rise in an order: with the same elements they are the same.
use Rattle.std.proofs.Common.{◌≡◌, List, [], ◌∷◌, inl, inr, Ordering, refl, sym, ◌∙◌, ap, subst, ⊎_elim}
use Rattle.std.specs.Cmp.{IsTotalOrder}
use Rattle.std.specs.Ordering.{ordering_reverse}
use Rattle.std.specs.declared.cmp.Ordering.TheVariants.{Less, Equal}
use Rattle.std.proofs.lemmas.Cmp.{tied_itself}
use Rattle.crew_resource.specs.Members.{Each, Member}

-- elements in an order, each before all later ones
abbrev pub Rising : {X : Type 0} → (X → X → Ordering) → List X → Type 0
Rising R [] = Unit {0}
Rising R (x ∷ xs) = Each (λ y. R x y ≡ Less) xs × Rising R xs

each-member : {X : Type 0} (P : X → Type 0) (xs : List X) (x : X) → Each P xs → Member xs x → P x
each-member P [] x h m = absurd m
each-member P (y ∷ ys) x h (inl e) = subst P e h.0
each-member P (y ∷ ys) x h (inr m) = each-member P ys x h.1 m

never-both : {X : Type 0} (R : X → X → Ordering) → IsTotalOrder R → (x y : X) → R x y ≡ Less → R y x ≡ Less → ⊥
never-both R total x y h k = let e : Less ≡ ordering_reverse Less = sym h ∙ (total.antisymm x y ∙ ap ordering_reverse k) in (cc)

never-itself : {X : Type 0} (R : X → X → Ordering) → IsTotalOrder R → (x : X) → R x x ≡ Less → ⊥
never-itself R total x h = let e : Less ≡ Equal = sym h ∙ tied_itself total x in (cc)

heads : {X : Type 0} (R : X → X → Ordering) → IsTotalOrder R → (x y : X) (xs ys : List X) → Rising R (x ∷ xs) → Rising R (y ∷ ys) → Member (y ∷ ys) x → Member (x ∷ xs) y → x ≡ y
heads R total x y xs ys h k (inl e) n = sym e
heads R total x y xs ys h k (inr m) (inl e) = e
heads R total x y xs ys h k (inr m) (inr n) = absurd (never-both R total x y (each-member (λ z. R x z ≡ Less) xs y h.0 n) (each-member (λ z. R y z ≡ Less) ys x k.0 m))

tails : {X : Type 0} (R : X → X → Ordering) → IsTotalOrder R → (x y : X) (xs ys : List X) → x ≡ y → Rising R (x ∷ xs) → ((z : X) → Member (x ∷ xs) z → Member (y ∷ ys) z) → (z : X) → Member xs z → Member ys z
tails R total x y xs ys e h f z m =
    ⊎_elim
    (λ q. absurd (never-itself R total x (each-member (λ a. R x a ≡ Less) xs x h.0 (subst (Member xs) (sym (e ∙ q)) m))))
    (λ n. n)
    (f z (inr m))

-- lists that rise and have the same elements are the same
pub same-rising : {X : Type 0} (R : X → X → Ordering) → IsTotalOrder R → (xs ys : List X) → Rising R xs → Rising R ys → ((z : X) → Member xs z → Member ys z) → ((z : X) → Member ys z → Member xs z) → xs ≡ ys
same-rising R total [] [] h k f g = refl
same-rising R total [] (y ∷ ys) h k f g = absurd (g y (inl refl))
same-rising R total (x ∷ xs) [] h k f g = absurd (f x (inl refl))
same-rising R total (x ∷ xs) (y ∷ ys) h k f g =
    let e = heads R total x y xs ys h k (f x (inl refl)) (g y (inl refl)) in
    let rest = same-rising R total xs ys h.1 k.1 (tails R total x y xs ys e h f) (tails R total y x ys xs (sym e) k g) in
    ap (λ z. z ∷ xs) e ∙ ap (λ z. y ∷ z) rest
