-- The test at the starts of a history, start by start.
use Rattle.std.proofs.Common.{◌≡◌, ℕ, ◌+◌, ◌<◌, ◌≤◌, Bool, true, false, ◌&&◌, List, ℤ, pos, take, get_or, length, sym, ◌∙◌, ap, subst, arith}
use Rattle.std.specs.Prelude.{◌≤ℤ◌, ◌<ℤ◌, int_le}
use Rattle.std.specs.List.{list_all}
use Rattle.std.proofs.lemmas.Int.{ints}
use Rattle.std.proofs.lemmas.List.{length-take, get_or-take}
use Rattle.std.proofs.lemmas.List.Folds.{list_all_at, list_all_more}
use Rattle.crew_history.specs.Histories.{minutes_after, is_no_more, is_no_more_from}

abbrev first : ℤ × ℤ
first = (pos 0, pos 0)

abbrev no_more_at : List (ℤ × ℤ) → List (ℤ × ℤ) → ℤ × ℤ → Bool
no_more_at h k p = int_le (minutes_after h p.0) (minutes_after k p.0)

le_not : (a b : ℤ) → b <ℤ a → int_le a b ≡ false
le_not a b l = grind (arith, ints)

le_yes : (a b : ℤ) → a ≤ℤ b → int_le a b ≡ true
le_yes a b l = grind (arith, ints)

pub test_fails : (h k xs : List (ℤ × ℤ)) (n i : ℕ) → i < n → n ≤ length xs → take n xs ≡ h
    → minutes_after k (get_or xs i first).0 <ℤ minutes_after h (get_or xs i first).0 → is_no_more h k ≡ false
test_fails h k xs n i l m e less =
    let at : get_or (take n xs) i first ≡ get_or xs i first = get_or-take n xs i first l in
    let long : i < length (take n xs) = subst (λ z. i < z) (sym (length-take n xs)) (omega arith) in
    subst (λ z. list_all (no_more_at h k) z ≡ false) e
    (list_all_at (no_more_at h k) (take n xs) i first long
    (ap (no_more_at h k) at ∙ le_not (minutes_after h (get_or xs i first).0) (minutes_after k (get_or xs i first).0) less))

pub test_goes_on : (h k xs : List (ℤ × ℤ)) (i : ℕ) → i < length xs → is_no_more_from h k (take i xs) ≡ true
    → minutes_after h (get_or xs i first).0 ≤ℤ minutes_after k (get_or xs i first).0 → is_no_more_from h k (take (i + 1) xs) ≡ true
test_goes_on h k xs i l e less =
    list_all_more (no_more_at h k) xs i first l
    ∙ (ap (λ z. z && no_more_at h k (get_or xs i first)) e ∙ le_yes (minutes_after h (get_or xs i first).0) (minutes_after k (get_or xs i first).0) less)

pub test_ends : (h k xs : List (ℤ × ℤ)) (n i : ℕ) → i ≤ n → n ≤ i → take n xs ≡ h → is_no_more_from h k (take i xs) ≡ true → is_no_more h k ≡ true
test_ends h k xs n i l m e t =
    let same : i ≡ n = omega arith in
    subst (λ z. is_no_more_from h k z ≡ true) (ap (λ j. take j xs) same ∙ e) t
