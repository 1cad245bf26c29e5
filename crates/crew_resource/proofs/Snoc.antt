-- One more item at the end.
use Rattle.std.proofs.Common.{◌≡◌, Bool, true, List, [], ◌∷◌, ◌++◌, ◌⊎◌, inl, inr, refl, ◌∙◌, ap, append_assoc, ⊎_elim}
use Rattle.crew_resource.specs.Machinery.Paths.{LinkedFrom, Linked, Begins}

pub snoc_cases : {I : Type 0} (xs : List I) → (xs ≡ []) ⊎ ((bs : List I) × (e : I) × (xs ≡ bs ++ e ∷ []))
snoc_cases [] = inl refl
snoc_cases (x ∷ xs) = inr (⊎_elim (λ z. ([], x, ap (λ r. x ∷ r) z)) (λ s. (x ∷ s.0, s.1, ap (λ r. x ∷ r) s.2)) (snoc_cases xs))

-- two items at the end
pub two_last : {I : Type 0} (bs : List I) (e d : I) → (bs ++ e ∷ []) ++ d ∷ [] ≡ bs ++ e ∷ d ∷ []
two_last bs e d = append_assoc bs (e ∷ []) (d ∷ [])

pub same_snoc : {I : Type 0} (xs ys : List I) (x y : I) → xs ++ x ∷ [] ≡ ys ++ y ∷ [] → (xs ≡ ys) × (x ≡ y)
same_snoc [] [] x y e = (refl, let q : x ≡ y = (cc) in q)
same_snoc [] (b ∷ []) x y e = absurd (let q : ⊥ = (cc) in q)
same_snoc [] (b ∷ c ∷ ys) x y e = absurd (let q : ⊥ = (cc) in q)
same_snoc (a ∷ []) [] x y e = absurd (let q : ⊥ = (cc) in q)
same_snoc (a ∷ c ∷ xs) [] x y e = absurd (let q : ⊥ = (cc) in q)
same_snoc {I} (a ∷ xs) (b ∷ ys) x y e =
    let head : a ≡ b = (cc) in
    let tail : xs ++ x ∷ [] ≡ ys ++ y ∷ [] = (cc) in
    let rest = same_snoc xs ys x y tail in
    (ap (λ z. z ∷ xs) head ∙ ap (λ z. b ∷ z) rest.0, rest.1)

LinkedFrom-short : {I : Type 0} (may : I → I → Bool) (x : I) (bs : List I) (e d : I) → LinkedFrom may x (bs ++ e ∷ d ∷ []) → LinkedFrom may x (bs ++ e ∷ []) × (may e d ≡ true)
LinkedFrom-short may x [] e d h = ((h.0, tt), h.1.0)
LinkedFrom-short may x (b ∷ bs) e d h = let k = LinkedFrom-short may b bs e d h.1 in ((h.0, k.0), k.1)

LinkedFrom-long : {I : Type 0} (may : I → I → Bool) (x : I) (bs : List I) (e d : I) → LinkedFrom may x (bs ++ e ∷ []) → may e d ≡ true → LinkedFrom may x (bs ++ e ∷ d ∷ [])
LinkedFrom-long may x [] e d h m = (h.0, (m, tt))
LinkedFrom-long may x (b ∷ bs) e d h m = (h.0, LinkedFrom-long may b bs e d h.1 m)

pub Linked-short : {I : Type 0} (may : I → I → Bool) (bs : List I) (e d : I) → Linked may (bs ++ e ∷ d ∷ []) → Linked may (bs ++ e ∷ []) × (may e d ≡ true)
Linked-short may [] e d h = (tt, h.0)
Linked-short may (b ∷ bs) e d h = LinkedFrom-short may b bs e d h

pub Linked-long : {I : Type 0} (may : I → I → Bool) (bs : List I) (e d : I) → Linked may (bs ++ e ∷ []) → may e d ≡ true → Linked may (bs ++ e ∷ d ∷ [])
Linked-long may [] e d h m = (m, tt)
Linked-long may (b ∷ bs) e d h m = LinkedFrom-long may b bs e d h m

pub Begins-short : {I : Type 0} (may : I → Bool) (bs : List I) (e d : I) → Begins may (bs ++ e ∷ d ∷ []) → Begins may (bs ++ e ∷ [])
Begins-short may [] e d h = h
Begins-short may (b ∷ bs) e d h = h

pub Begins-long : {I : Type 0} (may : I → Bool) (bs : List I) (e d : I) → Begins may (bs ++ e ∷ []) → Begins may (bs ++ e ∷ d ∷ [])
Begins-long may [] e d h = h
Begins-long may (b ∷ bs) e d h = h
