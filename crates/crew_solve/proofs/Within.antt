-- Lists that rise in an order, of which one has all elements of the other.
use Rattle.std.proofs.Common.{◌≡◌, ◌∙◌, ◌≤◌, List, [], ◌∷◌, Ordering, inl, inr, refl, sym, ap, subst, ⊎_elim, arith, length}
use Rattle.std.specs.Cmp.{IsTotalOrder}
use Rattle.std.specs.declared.cmp.Ordering.TheVariants.{Less, Equal}
use Rattle.std.proofs.lemmas.Cmp.{tied_itself}
use Rattle.crew_pairing.proofs.Tree.{Each-member}
use Rattle.crew_resource.proofs.Rising.{Rising}
use Rattle.crew_resource.specs.Members.{Member}

module _ {X : Type 0} (R : X → X → Ordering) (total : IsTotalOrder R) where
  never-itself : (x y : X) → x ≡ y → R x y ≡ Less → ⊥
  never-itself x y e h = let k : Less ≡ Equal = sym h ∙ (ap (R x) (sym e) ∙ tied_itself total x) in (cc)

  -- none of a list before whose members it stands
  elsewhere : (x z : X) (ys : List X) → R x z ≡ Less → Member (x ∷ ys) z → Member ys z
  elsewhere x z ys h (inl e) = absurd (never-itself x z e h)
  elsewhere x z ys h (inr m) = m

  -- the elements of a list among those of another, once the other's first stands before them
  module _ (x y : X) (xs ys : List X) (h : Rising R (x ∷ xs)) (k : Rising R (y ∷ ys)) (f : (z : X) → Member (x ∷ xs) z → Member (y ∷ ys) z) where
    same-first : y ≡ x → (z : X) → Member xs z → Member ys z
    same-first e z m = elsewhere y z ys (subst (λ q. R q z ≡ Less) (sym e) (Each-member (λ l. R x l ≡ Less) xs z h.0 m)) (f z (inr m))

    later-first : Member ys x → (z : X) → Member (x ∷ xs) z → Member ys z
    later-first n z m =
        let less = Each-member (λ l. R y l ≡ Less) ys x k.0 n in
        elsewhere y z ys (⊎_elim {C = R y z ≡ Less} (λ e. subst (λ q. R y q ≡ Less) e less) (λ i. total.trans y x z less (Each-member (λ l. R x l ≡ Less) xs z h.0 i)) m) (f z m)

  -- the one is no longer
  pub no-longer : (ys xs : List X) → Rising R xs → Rising R ys → ((z : X) → Member xs z → Member ys z) → length xs ≤ length ys
  no-longer [] [] h k f = omega arith
  no-longer [] (x ∷ xs) h k f = absurd (f x (inl refl))
  no-longer (y ∷ ys) [] h k f = omega arith
  no-longer (y ∷ ys) (x ∷ xs) h k f =
      ⊎_elim {C = length (x ∷ xs) ≤ length (y ∷ ys)}
      (λ e. let r = no-longer ys xs h.1 k.1 (same-first x y xs ys h k f e) in omega (arith, r))
      (λ n. let r = no-longer ys (x ∷ xs) h k.1 (later-first x y xs ys h k f n) in omega (arith, r))
      (f x (inl refl))

  -- and where it is as long they are one
  pub as-long : (ys xs : List X) → Rising R xs → Rising R ys → ((z : X) → Member xs z → Member ys z) → length xs ≡ length ys → xs ≡ ys
  as-long [] [] h k f e = refl
  as-long [] (x ∷ xs) h k f e = absurd (f x (inl refl))
  as-long (y ∷ ys) [] h k f e = absurd (omega (arith, e))
  as-long (y ∷ ys) (x ∷ xs) h k f e =
      ⊎_elim {C = x ∷ xs ≡ y ∷ ys}
      (λ i. ap (λ (q : X). q ∷ xs) (sym i) ∙ ap (λ (l : List X). y ∷ l) (as-long ys xs h.1 k.1 (same-first x y xs ys h k f i) (omega (arith, e))))
      (λ n. let r = no-longer ys (x ∷ xs) h k.1 (later-first x y xs ys h k f n) in absurd (omega (arith, r, e)))
      (f x (inl refl))
