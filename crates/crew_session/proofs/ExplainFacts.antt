-- How the lines of duties follow one another.
use Rattle.std.proofs.Common.{◌≡◌, ◌∙◌, ◌<◌, ◌≤◌, ◌+◌, ℕ, ℤ, Bor, List, [], ◌∷◌, ◌++◌, length, get_or, drop, Option, Some, None, refl, sym, ap, append_assoc}
use Rattle.std.specs.Slice.{IsItemAt}
use Rattle.std.proofs.lemmas.List.{drop_all, drop_more}
use Rattle.crew_pairing.specs.declared.duty.Duty.{Duty}
use Rattle.crew_explain.specs.declared.explained.Limits.{Limits}
use Rattle.crew_session.specs.Explanations.{duties_after, duty_line}

none-there : {X : Type 0} (xs : List X) (i : ℕ) (r : Option (Bor X)) → r ≡ None → IsItemAt xs i r → length xs ≤ i
none-there xs i None e h = h.3
none-there xs i (Some x) e h = absurd (let b : ⊥ = (cc) in b)

there : {X : Type 0} (xs : List X) (i : ℕ) (x : Bor X) → IsItemAt xs i (Some x) → drop i xs ≡ x.now ∷ drop (i + 1) xs
there xs i x h = drop_more xs i x.now h.3.0 ∙ ap (λ y. y ∷ drop (i + 1) xs) (sym (h.3.1 x.now))

without-limits : (start : ℤ) (before : Option Duty) (ds : List Duty) → duties_after start before ds [] ≡ []
without-limits start before [] = refl
without-limits start before (d ∷ ds) = refl

-- no limits are left
pub no-limits : (start : ℤ) (before : Option Duty) (ds : List Duty) (ls : List Limits) (p : ℕ) (r : Option (Bor Limits)) → r ≡ None → IsItemAt ls p r → duties_after start before ds (drop p ls) ≡ []
no-limits start before ds ls p r e h = ap (λ (l : List Limits). duties_after start before ds l) (drop_all p ls (none-there ls p r e h)) ∙ without-limits start before ds

-- the line of the duty at a place, and then the others
pub one-duty : (start : ℤ) (before : Option Duty) (ds : List Duty) (ls : List Limits) (p : ℕ) (d : Duty) (l : Bor Limits) → p < length ds → d ≡ get_or ds p d → IsItemAt ls p (Some l)
    → duties_after start before (drop p ds) (drop p ls) ≡ duty_line start before d l.now ++ duties_after start (Some d) (drop (p + 1) ds) (drop (p + 1) ls)
one-duty start before ds ls p d l less is at =
    let more : drop p ds ≡ d ∷ drop (p + 1) ds = drop_more ds p d less ∙ ap (λ (y : Duty). y ∷ drop (p + 1) ds) (sym is) in
    λ i. duties_after start before (more i) (there ls p l at i)

-- a piece is appended of what is left to append
pub one-less : (line piece rest left longer whole : List ℕ) → longer ≡ line ++ piece → left ≡ piece ++ rest → line ++ left ≡ whole → longer ++ rest ≡ whole
one-less line piece rest left longer whole p more all =
    ap (λ (l : List ℕ). l ++ rest) p ∙ append_assoc line piece rest ∙ ap (λ (l : List ℕ). line ++ l) (sym more) ∙ all
