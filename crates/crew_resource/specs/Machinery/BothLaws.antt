-- The laws of two resources side by side.
use Rattle.std.specs.Prelude.{◌≡◌, ℕ, max, Bool, ◌&&◌, List, [], ◌∷◌, ◌++◌, Option, Some, None, option_and_then}
use Rattle.std.specs.Ordering.{ordering_then}
use Rattle.std.proofs.Common.{refl, ◌∙◌, ap, arith}
use Rattle.std.proofs.lemmas.Bool.{and_parts, and_from}
use Rattle.std.specs.declared.cmp.Ordering.{Ordering}
use Rattle.std.specs.declared.cmp.Ordering.TheVariants.{Equal, Less, Greater}
use Rattle.crew_resource.specs.Resource.{OrderLaws, StepLaws, GradesOrder}
use Rattle.crew_resource.specs.Machinery.Both.{both, both_extend}

pub both_parts : {A B : Type 0} (a : Option A) (b : Option B) (c : A × B) → both a b ≡ Some c
    → (a ≡ Some c.0) × (b ≡ Some c.1)
both_parts None b c e = absurd (let q : ⊥ = (cc) in q)
both_parts (Some a) None c e = absurd (let q : ⊥ = (cc) in q)
both_parts (Some a) (Some b) c e = let q : (a, b)
    ≡ c = (cc) in (ap (λ z. Some z.0) q, ap (λ z. Some z.1) q)

none_right : {A B : Type 0} (a : Option A) → both {A = A} {B = B} a None ≡ None
none_right None = refl
none_right (Some a) = refl

pub both_equal : (r s : Ordering) → ordering_then r s ≡ Equal → (r ≡ Equal) × (s ≡ Equal)
both_equal Less s e = absurd (let q : ⊥ = (cc) in q)
both_equal Equal s e = (refl, e)
both_equal Greater s e = absurd (let q : ⊥ = (cc) in q)

both_then : {A B : Type 0} (f : A → Option A) (g : B → Option B) (a : Option A) (b : Option B)
    → both (option_and_then f a) (option_and_then g b)
    ≡ option_and_then (λ v. both (f v.0) (g v.1)) (both a b)
both_then f g None b = refl
both_then f g (Some a) None = none_right (f a)
both_then f g (Some a) (Some b) = refl

exact_pair : {A B : Type 0} (R : A → A → Ordering) (S : B → B → Ordering)
    → ((a b : A) → R a b ≡ Equal → a ≡ b) → ((a b : B) → S a b ≡ Equal → a ≡ b)
    → (x y : A × B) → ordering_then (R x.0 y.0) (S x.1 y.1) ≡ Equal → x ≡ y
exact_pair {A} {B} R S f g x y e =
    let parts = both_equal (R x.0 y.0) (S x.1 y.1) e in
    ap (λ z. (z, x.1)) (f x.0 y.0 parts.0) ∙ ap (λ z. (y.0, z)) (g x.1 y.1 parts.1)

pub both_order : {A B : Type 0} (R : A → A → Ordering) (S : B → B → Ordering) (la : A → A → Bool)
    (lb : B → B → Bool)
    → OrderLaws R la → OrderLaws S lb
    → OrderLaws {V = A × B} (λ x y. ordering_then (R x.0 y.0) (S x.1 y.1))
    (λ x y. la x.0 y.0 && lb x.1 y.1)
both_order R S la lb p q = record {
  exact = exact_pair R S p.exact q.exact;
  reflexive = λ a. and_from (la a.0 a.0) (lb a.1 a.1) (p.reflexive a.0) (q.reflexive a.1);
  transitive = λ a b c h k.
      let f = and_parts (la a.0 b.0) (lb a.1 b.1) h in
      let g = and_parts (la b.0 c.0) (lb b.1 c.1) k in
      and_from (la a.0 c.0) (lb a.1 c.1) (p.transitive a.0 b.0 c.0 f.0 g.0)
      (q.transitive a.1 b.1 c.1 f.1 g.1);
  antisymmetric = λ a b h k.
      let f = and_parts (la a.0 b.0) (lb a.1 b.1) h in
      let g = and_parts (la b.0 a.0) (lb b.1 a.1) k in
      ap (λ z. (z, a.1)) (p.antisymmetric a.0 b.0 f.0 g.0) ∙ ap (λ z. (b.0, z))
      (q.antisymmetric a.1 b.1 f.1 g.1);
}

pub both_steps : {A B I : Type 0}
    (oa : I → Option A) (ea : A → I → I → Option A) (la : A → A → Bool) (va : List I → Option A)
    (ob : I → Option B) (eb : B → I → I → Option B) (lb : B → B → Bool) (vb : List I → Option B)
    → StepLaws oa ea la va → StepLaws ob eb lb vb
    → StepLaws (λ i. both (oa i) (ob i)) (both_extend ea eb) (λ x y. la x.0 y.0 && lb x.1 y.1)
    (λ xs. both (va xs) (vb xs))
both_steps oa ea la va ob eb lb vb p q = record {
  monotone = λ a b c last next h e.
      let f = and_parts (la a.0 b.0) (lb a.1 b.1) h in
      let g = both_parts (ea b.0 last next) (eb b.1 last next) c e in
      let s = p.monotone a.0 b.0 c.0 last next f.0 g.0 in
      let t = q.monotone a.1 b.1 c.1 last next f.1 g.1 in (
        (s.0, t.0),
        ap (λ z. both z (eb a.1 last next)) s.1 ∙ ap (both (Some s.0)) t.1,
        and_from
            (la s.0 c.0) (lb t.0 c.1) s.2 t.2,
      );
  opening = λ i. ap (λ z. both z (vb (i ∷ []))) (p.opening i) ∙ ap (both (oa i)) (q.opening i);
  extension = λ before last next.
      let long = before ++ last ∷ next ∷ [] in
      let short = before ++ last ∷ [] in
      ap (λ z. both z (vb long)) (p.extension before last next)
      ∙ (ap (both (option_and_then (λ v. ea v last next) (va short))) (q.extension before last next)
      ∙ both_then (λ v. ea v last next) (λ v. eb v last next) (va short) (vb short));
}

-- the greater of both grades
pub both_grades : {A B : Type 0} (la : A → A → Bool) (lb : B → B → Bool) (ga : A → ℕ) (gb : B → ℕ)
    → GradesOrder la ga → GradesOrder lb gb
    → GradesOrder {V = A × B} (λ x y. la x.0 y.0 && lb x.1 y.1) (λ x. max (ga x.0) (gb x.1))
both_grades la lb ga gb p q a b h =
    let f = and_parts (la a.0 b.0) (lb a.1 b.1) h in
    let l = p a.0 b.0 f.0 in
    let r = q a.1 b.1 f.1 in
    omega arith
