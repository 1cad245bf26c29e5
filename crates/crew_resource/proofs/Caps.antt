-- Where the items after the first take nothing away, a cap on the whole list is a cap on each beginning.
use Rattle.std.specs.Prelude.{◌≡◌, Bool, true, false, ◌&&◌, cond, List, [], ◌∷◌, map, Option, Some, None, ℤ, pos, ◌+ℤ◌, ◌≤ℤ◌}
use Rattle.std.specs.List.{list_all}
use Rattle.std.proofs.Common.{refl, sym, ◌∙◌, ap, subst, arith, ⊎_elim}
use Rattle.std.proofs.lemmas.Bool.{cases_Bool, and_from, and_left, and_right}
use Rattle.std.proofs.lemmas.Int.{ints}
use Rattle.std.proofs.lemmas.List.Folds.{list_all-map}
use Rattle.crew_resource.specs.Machinery.Sum.{is_within, rises, sum_of, capped_sum, beginnings, NeverFalls}
use Rattle.crew_resource.specs.Machinery.SumLaws.{within_lower}

rises_up : {I : Type 0} (next : I → I → ℤ) (x : I) (ys : List I) → NeverFalls next x ys → pos 0 ≤ℤ rises next x ys
rises_up next x [] h = omega (arith, ints)
rises_up next x (y ∷ ys) h = omega (arith, ints, rises_up next y ys h.1, h.0)

regroup : (a b c : ℤ) → a +ℤ (b +ℤ c) ≡ (a +ℤ b) +ℤ c
regroup a b c = omega (arith, ints)

same_all : {A : Type 0} (p q : A → Bool) → ((a : A) → p a ≡ q a) → (xs : List A) → list_all p xs ≡ list_all q xs
same_all p q h [] = refl
same_all p q h (x ∷ xs) = ap (λ b. b && list_all p xs) (h x) ∙ ap (λ b. q x && b) (same_all p q h xs)

-- with a sum so far: each beginning is within where the whole is
within_beginnings : {I : Type 0} (next : I → I → ℤ) (cap : Option ℤ) (so_far : ℤ) (x : I) (ys : List I) → NeverFalls next x ys
    → is_within cap (so_far +ℤ rises next x ys) ≡ true
    → list_all (λ b. is_within cap (so_far +ℤ rises next x b)) (beginnings ys) ≡ true
within_beginnings next cap so_far x [] h w = refl
within_beginnings {I} next cap so_far x (y ∷ ys) h w =
    let up = rises_up next y ys h.1 in
    let here : is_within cap (so_far +ℤ (next x y +ℤ pos 0)) ≡ true = within_lower cap (so_far +ℤ (next x y +ℤ pos 0)) (so_far +ℤ (next x y +ℤ rises next y ys)) (omega (arith, ints)) w in
    let later = within_beginnings next cap (so_far +ℤ next x y) y ys h.1 (subst (λ z. is_within cap z ≡ true) (regroup so_far (next x y) (rises next y ys)) w) in
    and_from (is_within cap (so_far +ℤ (next x y +ℤ pos 0))) (list_all (λ b. is_within cap (so_far +ℤ rises next x b)) (map (λ b. y ∷ b) (beginnings ys))) here
    (list_all-map (λ b. is_within cap (so_far +ℤ rises next x b)) (λ b. y ∷ b) (beginnings ys)
    ∙ (same_all (λ b. is_within cap (so_far +ℤ (next x y +ℤ rises next y b))) (λ b. is_within cap ((so_far +ℤ next x y) +ℤ rises next y b)) (λ b. ap (is_within cap) (regroup so_far (next x y) (rises next y b))) (beginnings ys) ∙ later))

-- where the whole list fails, not each beginning passes
last_fails : {I : Type 0} (p : List I → Bool) (x : I) (ys : List I) → p (x ∷ ys) ≡ false → list_all p (beginnings (x ∷ ys)) ≡ false
last_fails p x [] f = and_left (p (x ∷ [])) (true) f
last_fails p x (y ∷ ys) f =
    and_right (p (x ∷ [])) (list_all p (map (λ b. x ∷ b) (beginnings (y ∷ ys))))
    (list_all-map p (λ b. x ∷ b) (beginnings (y ∷ ys)) ∙ last_fails (λ b. p (x ∷ b)) y ys f)

pub whole_test : {I : Type 0} (first : I → ℤ) (next : I → I → ℤ) (cap : Option ℤ) (x : I) (ys : List I) → NeverFalls next x ys
    → list_all (λ b. is_within cap (sum_of first next b)) (beginnings (x ∷ ys)) ≡ is_within cap (sum_of first next (x ∷ ys))
whole_test {I} first next cap x ys h =
    ⊎_elim {C = list_all (λ b. is_within cap (sum_of first next b)) (beginnings (x ∷ ys)) ≡ is_within cap (sum_of first next (x ∷ ys))}
    (λ t.
    let up = rises_up next x ys h in
    let one : is_within cap (first x +ℤ pos 0) ≡ true = within_lower cap (first x +ℤ pos 0) (first x +ℤ rises next x ys) (omega (arith, ints)) t in
    and_from (is_within cap (first x +ℤ pos 0)) (list_all (λ b. is_within cap (sum_of first next b)) (map (λ b. x ∷ b) (beginnings ys))) one
    (list_all-map (λ b. is_within cap (sum_of first next b)) (λ b. x ∷ b) (beginnings ys) ∙ within_beginnings next cap (first x) x ys h t) ∙ sym t)
    (λ f. last_fails (λ b. is_within cap (sum_of first next b)) x ys f ∙ sym f)
    (cases_Bool (is_within cap (sum_of first next (x ∷ ys))))

-- so the value is the sum, exactly where the whole list is within the cap
pub capped_sum_whole : {I : Type 0} (first : I → ℤ) (next : I → I → ℤ) (cap : Option ℤ) (x : I) (ys : List I) → NeverFalls next x ys
    → capped_sum first next cap (x ∷ ys) ≡ cond (is_within cap (sum_of first next (x ∷ ys))) (Some (sum_of first next (x ∷ ys))) None
capped_sum_whole {I} first next cap x ys h =
    ap (λ b. cond b (Some (sum_of first next (x ∷ ys))) None) (whole_test first next cap x ys h)
