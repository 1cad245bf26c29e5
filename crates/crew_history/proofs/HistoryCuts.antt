-- A cut history, period by period.
use Rattle.std.proofs.Common.{◌≡◌, ℕ, ◌+◌, ◌-◌, ◌<◌, ◌≤◌, true, false, cond, List, [], ◌∷◌, ◌++◌, ℤ, pos, take, drop, replicate, get_or, set, length, sym, ◌∙◌, ap, subst, ⊎_elim, arith, FitsSigned, to_z, of_z, w32}
use Rattle.std.specs.Prelude.{◌-ℤ◌, ◌≤ℤ◌, ◌<ℤ◌, int_le, int_lt}
use Rattle.std.specs.Int.{int_max}
use Rattle.std.proofs.lemmas.Bool.{cases_Bool}
use Rattle.std.proofs.lemmas.Int.{ints, to_z-of_z}
use Rattle.std.proofs.lemmas.List.{take_more, take_more_set, length-take, drop-set-lt, drop-drop, drop-replicate}
use Rattle.crew_history.specs.Histories.{cut, grown}

abbrev pub first : ℤ × ℤ
first = (pos 0, pos 0)

le_yes : (a b : ℤ) → a ≤ℤ b → int_le a b ≡ true
le_yes a b l = grind (arith, ints)

le_no : (a b : ℤ) → b <ℤ a → int_le a b ≡ false
le_no a b l = grind (arith, ints)

pub lt_is : (a b : ℤ) → int_lt a b ≡ true → a <ℤ b
lt_is a b e = grind (arith, ints)

pub lt_not : (a b : ℤ) → int_lt a b ≡ false → b ≤ℤ a
lt_not a b e = grind (arith, ints)

cut_keeps : (b : ℤ) (h : List (ℤ × ℤ)) (p : ℤ × ℤ) → b <ℤ p.1 → cut b (h ++ p ∷ []) ≡ cut b h ++ (int_max p.0 b, p.1) ∷ []
cut_keeps b [] p l = ap (λ t. cond t [] ((int_max p.0 b, p.1) ∷ [])) (le_no p.1 b l)
cut_keeps b (q ∷ h) p l = ⊎_elim
    (λ y. rw y (cut_keeps b h p l))
    (λ n. rw n (ap (λ z. (int_max q.0 b, q.1) ∷ z) (cut_keeps b h p l)))
    (cases_Bool (int_le q.1 b))

cut_skips : (b : ℤ) (h : List (ℤ × ℤ)) (p : ℤ × ℤ) → p.1 ≤ℤ b → cut b (h ++ p ∷ []) ≡ cut b h
cut_skips b [] p l = ap (λ t. cond t [] ((int_max p.0 b, p.1) ∷ [])) (le_yes p.1 b l)
cut_skips b (q ∷ h) p l = ⊎_elim
    (λ y. rw y (cut_skips b h p l))
    (λ n. rw n (ap (λ z. (int_max q.0 b, q.1) ∷ z) (cut_skips b h p l)))
    (cases_Bool (int_le q.1 b))

-- a period that is kept is written behind those so far
pub written : (b : ℤ) (h ps : List (ℤ × ℤ)) (n : ℕ) (p : ℤ × ℤ) → n < length ps → take n ps ≡ cut b h → b <ℤ p.1
    → take (n + 1) (set ps n (int_max p.0 b, p.1)) ≡ cut b (h ++ p ∷ [])
written b h ps n p l e m = take_more_set ps n (int_max p.0 b, p.1) l ∙ (ap (λ z. z ++ (int_max p.0 b, p.1) ∷ []) e ∙ sym (cut_keeps b h p m))

pub step_keeps : (b : ℤ) (xs ps qs : List (ℤ × ℤ)) (i n m : ℕ) (r : ℤ) → i < length xs → n < length ps → take n ps ≡ cut b (take i xs)
    → FitsSigned w32 (get_or xs i first).0 → FitsSigned w32 (get_or xs i first).1 → FitsSigned w32 r
    → r ≡ int_max (to_z w32 (of_z w32 (get_or xs i first).0)) b
    → int_lt b (to_z w32 (of_z w32 (get_or xs i first).1)) ≡ true
    → m ≡ n + 1 → qs ≡ set ps n (to_z w32 (of_z w32 r), to_z w32 (of_z w32 (get_or xs i first).1))
    → take m qs ≡ cut b (take (i + 1) xs)
step_keeps b xs ps qs i n m r l k so f0 f1 fr is later more wrote =
    let x = get_or xs i first in
    let is' : to_z w32 (of_z w32 r) ≡ int_max x.0 b = to_z-of_z w32 r fr ∙ (is ∙ ap (λ z. int_max z b) (to_z-of_z w32 x.0 f0)) in
    let end : to_z w32 (of_z w32 x.1) ≡ x.1 = to_z-of_z w32 x.1 f1 in
    let after : b <ℤ x.1 = lt_is b x.1 (subst (λ z. int_lt b z ≡ true) end later) in
    ap (λ j. take j qs) more ∙ (ap (take (n + 1)) (wrote ∙ (ap (λ z. set ps n (z, to_z w32 (of_z w32 x.1))) is' ∙ ap (λ z. set ps n (int_max x.0 b, z)) end))
    ∙ (written b (take i xs) ps n x k so after ∙ ap (cut b) (sym (take_more xs i first l))))

pub step_skips : (b : ℤ) (xs ps qs : List (ℤ × ℤ)) (i n m : ℕ) → i < length xs → take n ps ≡ cut b (take i xs)
    → FitsSigned w32 (get_or xs i first).1
    → int_lt b (to_z w32 (of_z w32 (get_or xs i first).1)) ≡ false
    → m ≡ n → qs ≡ ps → take m qs ≡ cut b (take (i + 1) xs)
step_skips b xs ps qs i n m l so f1 later same kept =
    let x = get_or xs i first in
    let end : to_z w32 (of_z w32 x.1) ≡ x.1 = to_z-of_z w32 x.1 f1 in
    let before : x.1 ≤ℤ b = lt_not b x.1 (subst (λ z. int_lt b z ≡ false) end later) in
    ap (λ j. take j qs) same ∙ (ap (take n) kept ∙ (so ∙ (sym (cut_skips b (take i xs) x before) ∙ ap (cut b) (sym (take_more xs i first l)))))

-- the last period, and the history is whole
pub last_written : (xs ps h : List (ℤ × ℤ)) (i n k : ℕ) (start end window r : ℤ) → i ≤ k → k ≤ i → take k xs ≡ h → n < length ps
    → FitsSigned w32 start → FitsSigned w32 end → FitsSigned w32 window → FitsSigned w32 (end -ℤ window) → FitsSigned w32 r → pos 0 <ℤ window
    → take n ps ≡ cut (to_z w32 (of_z w32 (to_z w32 (of_z w32 end) -ℤ to_z w32 (of_z w32 window)))) (take i xs)
    → r ≡ int_max (to_z w32 (of_z w32 start)) (to_z w32 (of_z w32 (to_z w32 (of_z w32 end) -ℤ to_z w32 (of_z w32 window))))
    → take (n + 1) (set ps n (to_z w32 (of_z w32 r), to_z w32 (of_z w32 end))) ≡ grown window h (start, end)
last_written xs ps h i n k start end window r l m whole room fs fe fw fb fr positive so is =
    let b : to_z w32 (of_z w32 (to_z w32 (of_z w32 end) -ℤ to_z w32 (of_z w32 window))) ≡ end -ℤ window =
    ap (λ z. to_z w32 (of_z w32 (z -ℤ to_z w32 (of_z w32 window)))) (to_z-of_z w32 end fe)
    ∙ (ap (λ z. to_z w32 (of_z w32 (end -ℤ z))) (to_z-of_z w32 window fw) ∙ to_z-of_z w32 (end -ℤ window) fb) in
    let same : i ≡ k = omega arith in
    let all : take i xs ≡ h = ap (λ j. take j xs) same ∙ whole in
    let so' : take n ps ≡ cut (end -ℤ window) h = so ∙ (ap (λ z. cut z (take i xs)) b ∙ ap (cut (end -ℤ window)) all) in
    let r' : to_z w32 (of_z w32 r) ≡ int_max start (end -ℤ window) = to_z-of_z w32 r fr ∙ (is ∙ (ap (λ z. int_max z (to_z w32 (of_z w32 (to_z w32 (of_z w32 end) -ℤ to_z w32 (of_z w32 window))))) (to_z-of_z w32 start fs) ∙ ap (int_max start) b)) in
    ap (λ z. take (n + 1) (set ps n (z, to_z w32 (of_z w32 end)))) r'
    ∙ (ap (λ z. take (n + 1) (set ps n (int_max start (end -ℤ window), z))) (to_z-of_z w32 end fe)
    ∙ written (end -ℤ window) h ps n (start, end) room so' (past end window positive))
  where
    past : (e w : ℤ) → pos 0 <ℤ w → (e -ℤ w) <ℤ e
    past e w l = omega (arith, ints)

pub room_is : (xs h : List (ℤ × ℤ)) (n : ℕ) → n ≤ length xs → take n xs ≡ h → length h ≡ n
room_is xs h n l e = sym (ap length e) ∙ (length-take n xs ∙ omega arith)

-- behind what is written all stays zero
pub zero_behind : (ps qs : List (ℤ × ℤ)) (n m : ℕ) (p : ℤ × ℤ) → drop n ps ≡ replicate (12 - n) (pos 0, pos 0)
    → m ≡ n + 1 → qs ≡ set ps n p → drop m qs ≡ replicate (12 - m) (pos 0, pos 0)
zero_behind ps qs n m p zero more wrote =
    let next : drop (n + 1) (set ps n p) ≡ replicate (12 - (n + 1)) (pos 0, pos 0) =
    drop-set-lt (n + 1) ps n p (omega arith)
    ∙ (sym (drop-drop 1 n ps)
    ∙ (ap (drop 1) zero
    ∙ (drop-replicate 1 (12 - n) (pos 0, pos 0) ∙ ap (λ k. replicate k (pos 0, pos 0)) (let q : 12 - n - 1 ≡ 12 - (n + 1) = omega arith in q)))) in
    ap (λ k. drop k qs) more ∙ (ap (drop (n + 1)) wrote ∙ (next ∙ ap (λ k. replicate (12 - k) (pos 0, pos 0)) (sym more)))

pub zero_kept : (ps qs : List (ℤ × ℤ)) (n m : ℕ) → drop n ps ≡ replicate (12 - n) (pos 0, pos 0) → m ≡ n → qs ≡ ps → drop m qs ≡ replicate (12 - m) (pos 0, pos 0)
zero_kept ps qs n m zero same kept = ap (λ k. drop k qs) same ∙ (ap (drop n) kept ∙ (zero ∙ ap (λ k. replicate (12 - k) (pos 0, pos 0)) (sym same)))
