-- Lists of rules, put together and taken apart.
use Rattle.std.proofs.Common.{◌≡◌, ◌+◌, ◌<◌, ◌-ℤ◌, ◌<ℤ◌, ◌≤ℤ◌, ℕ, ℤ, pos, int_le, Bool, true, false, cond, List, [], ◌∷◌, ◌++◌, Option, Some, None, refl, sym, ap, subst, ◌∙◌, arith, drop, get_or, length}
use Rattle.std.proofs.lemmas.Int.{ints}
use Rattle.std.proofs.lemmas.List.{at_drop_more}
use Rattle.crew_pairing.specs.declared.duty.Duty.{Duty}
use Rattle.crew_explain.specs.Rules.{Asked, at_most, first_of, free_times, rest_end}
use Rattle.crew_explain.specs.Machinery.Firsts.{earliest, or_else}
use Rattle.crew_explain.specs.declared.breach.Breach.{Breach}
use Rattle.crew_explain.specs.declared.breach.Rule.{Rule}
use Rattle.crew_explain.specs.declared.breach.Rule.TheVariants as The

pub asked : (rule : Rule) (duty leg : ℕ) (f l x y : ℤ) → f ≡ x → l ≡ y → at_most rule duty leg f l ≡ at_most rule duty leg x y
asked rule duty leg f l x y h k = λ i. at_most rule duty leg (h i) (k i)

pub first-append : (xs ys : List Asked) → first_of (xs ++ ys) ≡ or_else (first_of xs) (first_of ys)
first-append [] ys = refl
first-append (x ∷ xs) ys = step x.0 (first-append xs ys)
  where
    step : (b : Bool) → first_of (xs ++ ys) ≡ or_else (first_of xs) (first_of ys) → cond b (first_of (xs ++ ys)) (Some x.1) ≡ or_else (cond b (first_of xs) (Some x.1)) (first_of ys)
    step true e = e
    step false e = refl

else-none : (b : Option Breach) → or_else b None ≡ b
else-none None = refl
else-none (Some b) = refl

more : (xs rest : List Asked) (bs : List (Option Breach)) → earliest bs ≡ first_of rest → earliest (first_of xs ∷ bs) ≡ first_of (xs ++ rest)
more xs rest bs e = ap (or_else (first_of xs)) e ∙ sym (first-append xs rest)

pub of-two : (xs ys : List Asked) → earliest (first_of xs ∷ first_of ys ∷ []) ≡ first_of (xs ++ ys)
of-two xs ys = more xs ys (first_of ys ∷ []) (else-none (first_of ys))

pub of-six : (us vs ws xs ys zs : List Asked)
    → earliest (first_of us ∷ first_of vs ∷ first_of ws ∷ first_of xs ∷ first_of ys ∷ first_of zs ∷ []) ≡ first_of (us ++ (vs ++ (ws ++ (xs ++ (ys ++ zs)))))
of-six us vs ws xs ys zs =
    let two = of-two ys zs in
    let three = more xs (ys ++ zs) (first_of ys ∷ first_of zs ∷ []) two in
    let four = more ws (xs ++ (ys ++ zs)) (first_of xs ∷ first_of ys ∷ first_of zs ∷ []) three in
    let five = more vs (ws ++ (xs ++ (ys ++ zs))) (first_of ws ∷ first_of xs ∷ first_of ys ∷ first_of zs ∷ []) four in
    more us (vs ++ (ws ++ (xs ++ (ys ++ zs)))) (first_of vs ∷ first_of ws ∷ first_of xs ∷ first_of ys ∷ first_of zs ∷ []) five

-- one item of a list, and the rest
pub drop-next : {X : Type 0} (xs : List X) (i : ℕ) (x : X) → i < length xs → x ≡ get_or xs i x → drop i xs ≡ x ∷ drop (i + 1) xs
drop-next xs i x h e = at_drop_more (λ zs. zs) xs i x h ∙ ap (λ z. z ∷ drop (i + 1) xs) (sym e)

-- the first that neighbours break, in a list of them
pub hit-append : (xs ys : List Asked) (b : Breach) → Some b ≡ first_of xs → Some b ≡ first_of (xs ++ ys)
hit-append xs ys b e = sym (first-append xs ys ∙ ap (λ r. or_else r (first_of ys)) (sym e))

pub pass-append : (xs ys : List Asked) → None ≡ first_of xs → first_of (xs ++ ys) ≡ first_of ys
pass-append xs ys e = first-append xs ys ∙ ap (λ r. or_else r (first_of ys)) (sym e)

-- a report too late, and one that isn't
late : (f : ℤ) → pos 8_280 <ℤ f → int_le f (pos 8_280) ≡ false
late f h = grind (arith, ints)

in-time : (f : ℤ) → f ≤ℤ pos 8_280 → int_le f (pos 8_280) ≡ true
in-time f h = grind (arith, ints)

pub free-hit : (place : ℕ) (rested ended found : ℤ) (last next : Duty) (others : List Duty) (i : ℕ) (whole : Option Breach)
    → first_of (free_times place rested last (drop i others)) ≡ whole → i < length others → next ≡ get_or others i next
    → ended ≡ rest_end rested last next → found ≡ next.report -ℤ ended → pos 8_280 <ℤ found
    → Some (record { rule = The.FreeTime; duty = place; leg = 0; found = found; limit = pos 8_280 }) ≡ whole
free-hit place rested ended found last next others i whole v here at is minutes over =
    let there = subst (λ (ds : List Duty). first_of (free_times place rested last ds) ≡ whole) (drop-next others i next here at) v in
    let same : found ≡ next.report -ℤ rest_end rested last next = minutes ∙ ap (λ (z : ℤ). next.report -ℤ z) is in
    (λ j. Some (record { rule = The.FreeTime; duty = place; leg = 0; found = same j; limit = pos 8_280 }))
    ∙ sym (ap (λ (b : Bool). cond b (first_of (free_times (place + 1) (rest_end rested last next) next (drop (i + 1) others))) (Some (record { rule = The.FreeTime; duty = place; leg = 0; found = next.report -ℤ rest_end rested last next; limit = pos 8_280 }))) (late _ (subst (λ (z : ℤ). pos 8_280 <ℤ z) same over)))
    ∙ there

pub free-pass : (place : ℕ) (rested ended found : ℤ) (last next : Duty) (others : List Duty) (i : ℕ) (whole : Option Breach)
    → first_of (free_times place rested last (drop i others)) ≡ whole → i < length others → next ≡ get_or others i next
    → ended ≡ rest_end rested last next → found ≡ next.report -ℤ ended → found ≤ℤ pos 8_280
    → first_of (free_times (place + 1) ended next (drop (i + 1) others)) ≡ whole
free-pass place rested ended found last next others i whole v here at is minutes most =
    let there = subst (λ (ds : List Duty). first_of (free_times place rested last ds) ≡ whole) (drop-next others i next here at) v in
    let same : found ≡ next.report -ℤ rest_end rested last next = minutes ∙ ap (λ (z : ℤ). next.report -ℤ z) is in
    ap (λ (z : ℤ). first_of (free_times (place + 1) z next (drop (i + 1) others))) is
    ∙ sym (ap (λ (b : Bool). cond b (first_of (free_times (place + 1) (rest_end rested last next) next (drop (i + 1) others))) (Some (record { rule = The.FreeTime; duty = place; leg = 0; found = next.report -ℤ rest_end rested last next; limit = pos 8_280 }))) (in-time _ (subst (λ (z : ℤ). z ≤ℤ pos 8_280) same most)))
    ∙ there
