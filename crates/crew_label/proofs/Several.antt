-- The first of several pools, and the rest of them.
use Rattle.std.proofs.Common.{◌≡◌, ℕ, ◌≤◌, ◌-◌, Bool, List, [], ◌∷◌, ◌++◌, ◌⊎◌, suc, length, map, take, drop, get_or, inl, inr, refl, sym, ◌∙◌, ap, subst, ⊎_elim, arith}
use Rattle.std.proofs.lemmas.List.{append_assoc, take_all}
use Rattle.crew_resource.specs.Members.{Member}
use Rattle.crew_label.specs.Pools.{ArePoolOf, ArePoolsOf}
use Rattle.crew_label.specs.declared.label.Label.{Label}
use Rattle.crew_label.specs.declared.label.Link.{Link}

abbrev pub rest_of : {X : Type 0} → List X → List X
rest_of xs = take (length xs - 1) (drop 1 xs)

pub first_and_rest : {X : Type 0} (xs : List X) (x : X) → 1 ≤ length xs → x ≡ get_or xs 0 x → xs ≡ x ∷ rest_of xs
first_and_rest [] x h e = absurd (omega arith)
first_and_rest (y ∷ ys) x h e =
    let k : suc (length ys) - 1 ≡ length ys = omega arith in
    ap (λ z. z ∷ ys) (sym e) ∙ ap (λ zs. x ∷ zs) (sym (take_all (suc (length ys) - 1) ys (omega (arith, k))))

pub shorter_rest : {X : Type 0} (xs : List X) (x : X) → 1 ≤ length xs → x ≡ get_or xs 0 x → suc (length (rest_of xs)) ≡ length xs
shorter_rest xs x h e = sym (ap length (first_and_rest xs x h e))

pub several_are : {X Y : Type 0} (f : X → Y) (xs : List X) (x : X) → 1 ≤ length xs → x ≡ get_or xs 0 x → map f xs ≡ f x ∷ map f (rest_of xs)
several_are f xs x h e = ap (map f) (first_and_rest xs x h e)

module _ {V : Type 0} (all : List (List (Label V))) (labels : List (Label V)) (rest : List (List (Label V))) (is : all ≡ labels ∷ rest) where
  pub among_first : Member all labels
  among_first = subst (λ (lss : List (List (Label V))). Member lss labels) (sym is) (inl refl)

  pub among_rest : (each : List (Label V)) → Member rest each → Member all each
  among_rest each m = subst (λ (lss : List (List (Label V))). Member lss each) (sym is) (inr m)

  module _ (whole merged made : List (Label V)) where
    -- a label of what is made was in the whole, or is of one of the pools
    pub from_several : ((l : Label V) → Member merged l → Member whole l ⊎ Member labels l)
        → ((l : Label V) → Member made l → Member merged l ⊎ ((each : List (Label V)) × Member rest each × Member each l))
        → (l : Label V) → Member made l → Member whole l ⊎ ((each : List (Label V)) × Member all each × Member each l)
    from_several f g l m = ⊎_elim
        (λ h. ⊎_elim (λ k. inl k) (λ k. inr (labels, among_first, k)) (f l h))
        (λ h. inr (h.0, among_rest h.0 h.1, h.2))
        (g l m)

    -- if the first pool is merged, and then the rest, all are
    pub pool_of_several : (below same : V → V → Bool) (trail : Link → List ℕ)
        → ((firsts seconds : List (V × List ℕ)) → ArePoolOf below same trail firsts whole → ArePoolOf below same trail seconds labels → ArePoolOf below same trail (firsts ++ seconds) merged)
        → ((firsts others : List (V × List ℕ)) → ArePoolOf below same trail firsts merged → ArePoolsOf below same trail others rest → ArePoolOf below same trail (firsts ++ others) made)
        → (firsts others : List (V × List ℕ)) → ArePoolOf below same trail firsts whole → ArePoolsOf below same trail others all → ArePoolOf below same trail (firsts ++ others) made
    pool_of_several below same trail f g firsts others i j =
        let k = subst (λ (lss : List (List (Label V))). ArePoolsOf below same trail others lss) is j in
        subst (λ (es : List (V × List ℕ)). ArePoolOf below same trail es made) (append_assoc firsts k.0 k.1 ∙ ap (λ (es : List (V × List ℕ)). firsts ++ es) (sym k.2))
        (g (firsts ++ k.0) k.1 (f firsts k.0 i k.3) k.4)
