-- Tokens of the slots of a table, and one more.
use Rattle.std.proofs.Common.{◌≡◌, ◌∙◌, ◌<◌, ◌≤◌, ℕ, ◌+◌, List, [], ◌∷◌, ◌++◌, ap, length, get_or, ⊎_elim, sym, arith}
use Rattle.std.proofs.lemmas.Bool.{cases_lt}
use Rattle.std.proofs.lemmas.List.{get_or_append_left, get_or_default, get_or_push, length_push}
use Rattle.boxcar.specs.Slot.{Named}
use Rattle.crew_cells.specs.Machinery.Addresses.{AreOf}

-- a step of the loop that takes the token of the next slot
pub tokens-more : {W : Type 0} (name_of : W → ℕ) (before all : List W) (slots : List Named) (token : W) (slot : Named) (count : ℕ) → all ≡ before ++ token ∷ []
    → slot ≡ get_or slots count slot → count < length slots → name_of token ≡ slot.id → (length before ≡ count) × AreOf before slots name_of
    → (length all ≡ count + 1) × AreOf all slots name_of
tokens-more {W} name_of before all slots token slot count more at inside same held =
    let here : (j : ℕ) (w : W) (d : Named) → j ≡ count → name_of (get_or all j w) ≡ (get_or slots j d).id = λ j w d is.
    ap name_of (ap (λ ts. get_or ts j w) more ∙ get_or_push before token w j (held.0 ∙ sym is)) ∙ same
    ∙ ap (λ (s : Named). s.id) (at ∙ get_or_default slots count slot d inside ∙ ap (λ k. get_or slots k d) (sym is)) in
    let earlier : (j : ℕ) (w : W) (d : Named) → j < length before → name_of (get_or all j w) ≡ (get_or slots j d).id = λ j w d less.
    ap name_of (ap (λ ts. get_or ts j w) more ∙ get_or_append_left before (token ∷ []) w j less) ∙ held.1 j w d less in (
      ap length more ∙ length_push before token ∙ ap (λ n. n + 1) held.0,
      λ j w d below. ⊎_elim (earlier j w d) (λ (past : length before ≤ j). here j w d (omega (arith, past, below, held.0, ap length more, length_push before token))) (cases_lt j (length before)),
    )
