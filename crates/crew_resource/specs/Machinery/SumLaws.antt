-- The laws of a capped sum.
use Rattle.std.specs.Prelude.{◌≡◌, Bool, true, false, ◌&&◌, cond, List, [], ◌∷◌, ◌++◌, map, Option, Some, None, option_and_then, ℤ, pos, ◌+ℤ◌, ◌≤ℤ◌, int_le}
use Rattle.std.specs.List.{list_all}
use Rattle.std.specs.Ordering.{int_cmp}
use Rattle.std.proofs.Common.{refl, sym, ◌∙◌, ap, arith, append_assoc, ⊎_elim}
use Rattle.std.proofs.lemmas.Bool.{cases_Bool}
use Rattle.std.proofs.lemmas.Int.{ints}
use Rattle.std.proofs.lemmas.Cmp.{int_ranked}
use Rattle.std.proofs.lemmas.List.{map-append}
use Rattle.std.proofs.lemmas.List.Folds.{list_all-append}
use Rattle.std.specs.declared.cmp.Ordering.TheVariants.{Equal}
use Rattle.crew_resource.specs.Resource.{OrderLaws, StepLaws, GradesOrder, RespectsOrder}
use Rattle.crew_resource.specs.Machinery.Sum.{is_within, capped, rises, sum_of, capped_sum, beginnings}

pub beginnings-push : {I : Type 0} (xs : List I) (y : I)
    → beginnings (xs ++ y ∷ []) ≡ beginnings xs ++ (xs ++ y ∷ []) ∷ []
beginnings-push [] y = refl
beginnings-push (x ∷ xs) y =
    ap (λ r. (x ∷ []) ∷ r) (ap (map (λ b. x ∷ b)) (beginnings-push xs y) ∙ map-append
    (λ b. x ∷ b) (beginnings xs) ((xs ++ y ∷ []) ∷ []))

and_true : (b : Bool) → (b && true) ≡ b
and_true b = grind arith

-- each beginning of a longer list passes where each of the shorter does, and the whole does
pub beginnings_pass-push : {I : Type 0} (p : List I → Bool) (xs : List I) (y : I)
    → list_all p (beginnings (xs ++ y ∷ [])) ≡ (list_all p (beginnings xs) && p (xs ++ y ∷ []))
beginnings_pass-push p xs y =
    ap (list_all p) (beginnings-push xs y) ∙
    (list_all-append p (beginnings xs) ((xs ++ y ∷ []) ∷ []) ∙ ap
    (λ b. list_all p (beginnings xs) && b) (and_true (p (xs ++ y ∷ []))))

rises-push : {I : Type 0} (next : I → I → ℤ) (a : I) (before : List I) (last x : I)
    → rises next a (before ++ last ∷ x ∷ []) ≡ rises next a (before ++ last ∷ []) +ℤ next last x
rises-push next a [] last x = omega (arith, ints)
rises-push next a (b ∷ before) last x = omega (arith, ints, rises-push next b before last x)

sum_of-push : {I : Type 0} (first : I → ℤ) (next : I → I → ℤ) (before : List I) (last x : I)
    → sum_of first next (before ++ last ∷ x ∷ []) ≡ sum_of first next (before ++ last ∷ []) +ℤ
    next last x
sum_of-push first next [] last x = omega (arith, ints)
sum_of-push first next (b ∷ before) last x = omega (arith, ints, rises-push next b before last x)

pub within_lower : (cap : Option ℤ) (a b : ℤ) → a ≤ℤ b → is_within cap b ≡ true
    → is_within cap a ≡ true
within_lower None a b h t = refl
within_lower (Some cap) a b h t = grind (arith, ints)

capped_lower : (cap : Option ℤ) (a b c : ℤ) → a ≤ℤ b → capped cap b ≡ Some c
    → (x : ℤ) × (capped cap a ≡ Some x) × (int_le x c ≡ true)
capped_lower cap a b c h e =
    ⊎_elim {C = (x : ℤ) × (capped cap a ≡ Some x) × (int_le x c ≡ true)}
    (λ t.
    let same : Some b ≡ Some c = sym (ap (λ q. cond q (Some b) None) t) ∙ e in
    let q : b ≡ c = (cc) in
    (a, ap (λ q. cond q (Some a) None) (within_lower cap a b h t), grind (arith, ints)))
    (λ f. absurd (let same : None ≡ Some c = sym (ap (λ q. cond q (Some b) None) f) ∙ e in let q :
    ⊥ = (cc) in q))
    (cases_Bool (is_within cap b))

int_exact : (a b : ℤ) → int_cmp a b ≡ Equal → a ≡ b
int_exact a b e = let r = int_ranked a b (int_cmp a b) refl in grind (arith, ints)

-- where the shorter list has a value it is the sum, and else the longer has none either
sum_grows : {I : Type 0} (first : I → ℤ) (next : I → I → ℤ) (cap : Option ℤ) (xs : List I)
    (last x : I) (all here : Bool)
    → cond (all && is_within cap (sum_of first next (xs ++ last ∷ []) +ℤ next last x))
    (Some (sum_of first next (xs ++ last ∷ []) +ℤ next last x)) None
    ≡ option_and_then (λ v. capped cap (v +ℤ next last x))
    (cond all (Some (sum_of first next (xs ++ last ∷ []))) None)
sum_grows first next cap xs last x true here = refl
sum_grows first next cap xs last x false here = refl

capped_sum_at : {I : Type 0} (first : I → ℤ) (next : I → I → ℤ) (cap : Option ℤ) (xs : List I)
    (x : I) → capped_sum first next cap (xs ++ x ∷ [])
    ≡ cond (list_all (λ b. is_within cap (sum_of first next b)) (beginnings (xs ++ x ∷ [])))
    (Some (sum_of first next (xs ++ x ∷ []))) None
capped_sum_at first next cap [] x = refl
capped_sum_at first next cap (y ∷ xs) x = refl

-- what is added after the last item, one item on
capped_sum-push : {I : Type 0} (first : I → ℤ) (next : I → I → ℤ) (cap : Option ℤ)
    (before : List I) (last x : I)
    → capped_sum first next cap (before ++ last ∷ x ∷ [])
    ≡ option_and_then (λ v. capped cap (v +ℤ next last x))
    (capped_sum first next cap (before ++ last ∷ []))
capped_sum-push {I} first next cap before last x =
    let p = λ (b : List I). is_within cap (sum_of first next b) in
    let whole : before ++ last ∷ x ∷ [] ≡ (before ++ last ∷ [])
    ++ x ∷ [] = sym (append_assoc before (last ∷ []) (x ∷ [])) in
    let total = sum_of-push first next before last x in
    ap (capped_sum first next cap) whole
    ∙ (capped_sum_at first next cap (before ++ last ∷ []) x
    ∙ (ap (λ q. cond q (Some (sum_of first next ((before ++ last ∷ []) ++ x ∷ []))) None)
    (beginnings_pass-push p (before ++ last ∷ []) x)
    ∙ (ap (λ (ys : List I). cond (list_all p (beginnings (before ++ last ∷ [])) && is_within cap
    (sum_of first next ys)) (Some (sum_of first next ys)) None) (sym whole)
    ∙ (ap (λ z. cond (list_all p (beginnings (before ++ last ∷ [])) && is_within cap z)
    (Some z) None) total
    ∙ (sum_grows first next cap before last x (list_all p (beginnings (before ++ last ∷ []))) true
    ∙ ap (option_and_then (λ v. capped cap (v +ℤ next last x)))
    (sym (capped_sum_at first next cap before last)))))))

only : (q : Bool) (z : ℤ) → cond (q && true) (Some z) None ≡ cond q (Some z) None
only true z = refl
only false z = refl

first_only : {I : Type 0} (first : I → ℤ) (next : I → I → ℤ) (cap : Option ℤ) (x : I) (a b : ℤ)
    → a ≡ b → cond (is_within cap a && true) (Some a) None ≡ capped cap b
first_only first next cap x a b e = ap (λ z. cond (is_within cap z && true) (Some z) None) e ∙
    only (is_within cap b) b

-- the laws of a capped sum
pub sum_order : OrderLaws int_cmp int_le
sum_order = record {
  exact = int_exact;
  reflexive = λ a. grind (arith, ints);
  transitive = λ a b c h k. grind (arith, ints);
  antisymmetric = λ a b h k. grind (arith, ints);
}

pub sum_steps : {I : Type 0} (first : I → ℤ) (next : I → I → ℤ) (cap : Option ℤ)
    → StepLaws (λ x. capped cap (first x)) (λ v last x. capped cap (v +ℤ next last x)) int_le
    (capped_sum first next cap)
sum_steps first next cap = record {
  monotone = λ a b c last x h e. capped_lower cap (a +ℤ next last x) (b +ℤ next last x) c
      (grind (arith, ints)) e;
  opening = λ x. first_only first next cap x (first x +ℤ pos 0) (first x) (omega (arith, ints));
  extension = capped_sum-push first next cap;
}

-- one grade for all values
pub no_grades : {V : Type 0} (below : V → V → Bool) → GradesOrder below (λ _. 0)
no_grades below a b h = omega arith

-- a sum is a cost
pub int_respects : RespectsOrder int_le (λ z. z)
int_respects a b h = grind (arith, ints)
