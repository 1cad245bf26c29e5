-- Histories: an order, kept by extension; where two must be compared, and which windows must be tested.
use Rattle.std.proofs.Common.{◌≡◌, suc, ◌+◌, ◌≤◌, length, length-append, Bool, true, false, cond, List, [], ◌∷◌, ◌++◌, Some, None, ℤ, pos, ◌+ℤ◌, ◌⊎◌, inl, inr, refl, sym, ◌∙◌, ap, subst, ⊎_elim, arith}
use Rattle.std.specs.Prelude.{◌-ℤ◌, ◌≤ℤ◌, ◌<ℤ◌, int_le, int_lt}
use Rattle.std.specs.Int.{int_max}
use Rattle.std.proofs.lemmas.Int.{ints, clamps, by_lt_z}
use Rattle.std.proofs.lemmas.Bool.{cases_Bool, false≢true, and_parts, and_from}
use Rattle.std.specs.List.{list_all}
use Rattle.crew_resource.specs.Members.{Member}
use Rattle.crew_resource.proofs.Members.{Member-append}
use Rattle.crew_history.specs.Histories.{period_after, minutes_after, IsAfter, IsHistory, IsNoMore, is_no_more, cut, grown, EndsBefore, minutes_within, KeepsCap, follows, fits_window, may_board, boarded_history}

period_none : (s e t : ℤ) → e ≤ℤ t → period_after s e t ≡ pos 0
period_none s e t h = omega (arith, ints, clamps)

period_part : (s e t : ℤ) → s ≤ℤ t → t ≤ℤ e → period_after s e t +ℤ t ≡ e
period_part s e t h k = omega (arith, ints, clamps)

period_whole : (s e t : ℤ) → t ≤ℤ s → s ≤ℤ e → period_after s e t +ℤ s ≡ e
period_whole s e t h k = omega (arith, ints, clamps)

period_positive : (s e t : ℤ) → pos 0 ≤ℤ period_after s e t
period_positive s e t = omega (arith, ints, clamps)

period_falls : (s e t u : ℤ) → t ≤ℤ u → period_after s e u ≤ℤ period_after s e t
period_falls s e t u h = omega (arith, ints, clamps)

period_slowly : (s e t u : ℤ) → t ≤ℤ u → period_after s e t ≤ℤ (period_after s e u +ℤ (u -ℤ t))
period_slowly s e t u h = omega (arith, ints, clamps)

period_same : (s e t u : ℤ) → t ≤ℤ s → u ≤ℤ s → period_after s e t ≡ period_after s e u
period_same s e t u h k = omega (arith, ints, clamps)

sum_least : (a b : ℤ) → pos 0 ≤ℤ a → pos 0 ≤ℤ b → pos 0 ≤ℤ (a +ℤ b)
sum_least a b h k = omega (arith, ints)

sum_falls : (a b c d : ℤ) → a ≤ℤ c → b ≤ℤ d → (a +ℤ b) ≤ℤ (c +ℤ d)
sum_falls a b c d h k = omega (arith, ints)

le_refl : (a : ℤ) → a ≤ℤ a
le_refl a = omega (arith, ints)

le_trans : (a b c : ℤ) → a ≤ℤ b → b ≤ℤ c → a ≤ℤ c
le_trans a b c h k = omega (arith, ints)

le_antisym : (a b : ℤ) → a ≤ℤ b → b ≤ℤ a → a ≡ b
le_antisym a b h k = omega (arith, ints)

below_after : (a b c : ℤ) → a ≤ℤ b → b <ℤ c → a ≤ℤ c
below_after a b c h k = omega (arith, ints)

pub after_positive : (h : List (ℤ × ℤ)) (t : ℤ) → pos 0 ≤ℤ minutes_after h t
after_positive [] t = le_refl (pos 0)
after_positive (p ∷ h) t = sum_least (period_after p.0 p.1 t) (minutes_after h t) (period_positive p.0 p.1 t) (after_positive h t)

-- the later the fewer
pub after_falls : (h : List (ℤ × ℤ)) (t u : ℤ) → t ≤ℤ u → minutes_after h u ≤ℤ minutes_after h t
after_falls [] t u k = le_refl (pos 0)
after_falls (p ∷ h) t u k = sum_falls (period_after p.0 p.1 u) (minutes_after h u) (period_after p.0 p.1 t) (minutes_after h t) (period_falls p.0 p.1 t u k) (after_falls h t u k)

-- before the first period nothing changes
pub after_same : (h : List (ℤ × ℤ)) (s t u : ℤ) → IsAfter s h → t ≤ℤ s → u ≤ℤ s → minutes_after h t ≡ minutes_after h u
after_same [] s t u a h k = refl
after_same (p ∷ h) s t u a k l =
    let kp = below_after t s p.0 k a.0 in
    let lp = below_after u s p.0 l a.0 in
    let first = period_same p.0 p.1 t u kp lp in
    let rest = after_same h p.1 t u a.2 (below_after t p.0 p.1 kp a.1) (below_after u p.0 p.1 lp a.1) in
    ap (λ z. z +ℤ minutes_after h t) first ∙ ap (λ z. period_after p.0 p.1 u +ℤ z) rest

later_after : (h : List (ℤ × ℤ)) (s t : ℤ) → s ≤ℤ t → IsAfter t h → IsAfter s h
later_after [] s t k a = tt
later_after (p ∷ h) s t k a = (let q = a.0 in omega (arith, ints), a.1, a.2)

pub history_after : (h : List (ℤ × ℤ)) (s : ℤ) → IsAfter s h → IsHistory h
history_after [] s a = tt
history_after (p ∷ h) s a = (a.1, a.2)

-- one minute brings at most one duty minute: of periods that are apart
pub after_slowly : (h : List (ℤ × ℤ)) (t u : ℤ) → IsHistory h → t ≤ℤ u → minutes_after h t ≤ℤ (minutes_after h u +ℤ (u -ℤ t))
after_slowly [] t u i k = omega (arith, ints)
after_slowly (p ∷ h) t u i k = by_lt_z u p.1
    (λ l.
    let same = after_same h p.1 t u i.1 (let q : t ≤ℤ p.1 = omega (arith, ints) in q) (let q : u ≤ℤ p.1 = omega (arith, ints) in q) in
    let first = period_slowly p.0 p.1 t u k in
    slow_first (period_after p.0 p.1 t) (period_after p.0 p.1 u) (minutes_after h t) (minutes_after h u) t u first same)
    (λ l. by_lt_z t p.1
    (λ m.
    let first = period_slowly p.0 p.1 t p.1 (let q : t ≤ℤ p.1 = omega (arith, ints) in q) in
    let none = period_none p.0 p.1 p.1 (le_refl p.1) in
    let gone = period_none p.0 p.1 u l in
    let same = after_same h p.1 t p.1 i.1 (let q : t ≤ℤ p.1 = omega (arith, ints) in q) (le_refl p.1) in
    let rest = after_slowly h p.1 u (history_after h p.1 i.1) l in
    slow_both (period_after p.0 p.1 t) (period_after p.0 p.1 p.1) (period_after p.0 p.1 u) (minutes_after h t) (minutes_after h p.1) (minutes_after h u) t p.1 u first none gone same rest)
    (λ m.
    let gone = period_none p.0 p.1 t m in
    let past = period_none p.0 p.1 u l in
    let rest = after_slowly h t u (history_after h p.1 i.1) k in
    slow_rest (period_after p.0 p.1 t) (period_after p.0 p.1 u) (minutes_after h t) (minutes_after h u) t u gone past rest))
  where
    slow_first : (a b c d t u : ℤ) → a ≤ℤ (b +ℤ (u -ℤ t)) → c ≡ d → (a +ℤ c) ≤ℤ ((b +ℤ d) +ℤ (u -ℤ t))
    slow_first a b c d t u h e = omega (arith, ints)

    slow_both : (a m b c n d t e u : ℤ) → a ≤ℤ (m +ℤ (e -ℤ t)) → m ≡ pos 0 → b ≡ pos 0 → c ≡ n → n ≤ℤ (d +ℤ (u -ℤ e)) → (a +ℤ c) ≤ℤ ((b +ℤ d) +ℤ (u -ℤ t))
    slow_both a m b c n d t e u h1 h2 h3 h4 h5 = omega (arith, ints)

    slow_rest : (a b c d t u : ℤ) → a ≡ pos 0 → b ≡ pos 0 → c ≤ℤ (d +ℤ (u -ℤ t)) → (a +ℤ c) ≤ℤ ((b +ℤ d) +ℤ (u -ℤ t))
    slow_rest a b c d t u h1 h2 h3 = omega (arith, ints)

-- the order: reflexive, transitive
pub no_more_refl : (h : List (ℤ × ℤ)) → IsNoMore h h
no_more_refl h t = le_refl (minutes_after h t)

pub no_more_trans : (h k l : List (ℤ × ℤ)) → IsNoMore h k → IsNoMore k l → IsNoMore h l
no_more_trans h k l a b t = le_trans (minutes_after h t) (minutes_after k t) (minutes_after l t) (a t) (b t)

-- a period more
pub after_append : (h : List (ℤ × ℤ)) (p : ℤ × ℤ) (t : ℤ) → minutes_after (h ++ p ∷ []) t ≡ minutes_after h t +ℤ period_after p.0 p.1 t
after_append [] p t = omega (arith, ints)
after_append (q ∷ h) p t =
    let rest = after_append h p t in
    regroup (period_after q.0 q.1 t) (minutes_after (h ++ p ∷ []) t) (minutes_after h t) (period_after p.0 p.1 t) rest
  where
    regroup : (a b c d : ℤ) → b ≡ c +ℤ d → a +ℤ b ≡ (a +ℤ c) +ℤ d
    regroup a b c d e = omega (arith, ints)

int_le_yes : (a b : ℤ) → a ≤ℤ b → int_le a b ≡ true
int_le_yes a b h = grind (arith, ints)

int_le_is : (a b : ℤ) → int_le a b ≡ true → a ≤ℤ b
int_le_is a b h = grind (arith, ints)

int_le_not : (a b : ℤ) → int_le a b ≡ false → b <ℤ a
int_le_not a b h = grind (arith, ints)

within_left : (a b c : ℤ) → pos 0 ≤ℤ a → (a +ℤ b) ≤ℤ c → b ≤ℤ c
within_left a b c h k = omega (arith, ints)

-- it suffices to compare at the starts of the first history
pub starts_suffice : (h k : List (ℤ × ℤ)) → IsHistory h → IsHistory k
    → ((p : ℤ × ℤ) → Member h p → minutes_after h p.0 ≤ℤ minutes_after k p.0) → IsNoMore h k
starts_suffice [] k i j at t = after_positive k t
starts_suffice (p ∷ h) k i j at t = by_lt_z p.0 t
    (λ l. by_lt_z t p.1
    (λ m.
    let here = at p (inl refl) in
    let start = period_whole p.0 p.1 p.0 (le_refl p.0) (let q = i.0 in omega (arith, ints)) in
    let part = period_part p.0 p.1 t (let q : p.0 ≤ℤ t = omega (arith, ints) in q) (let q : t ≤ℤ p.1 = omega (arith, ints) in q) in
    let same = after_same h p.1 p.0 t i.1 (let q = i.0 in omega (arith, ints)) (let q : t ≤ℤ p.1 = omega (arith, ints) in q) in
    let slow = after_slowly k p.0 t j (let q : p.0 ≤ℤ t = omega (arith, ints) in q) in
    inside (period_after p.0 p.1 p.0) (period_after p.0 p.1 t) (minutes_after h p.0) (minutes_after h t) (minutes_after k p.0) (minutes_after k t) p.0 p.1 t here start part same slow)
    (λ m.
    let gone = period_none p.0 p.1 t m in
    let rest = starts_suffice h k (history_after h p.1 i.1) j (λ q n. within_left (period_after p.0 p.1 q.0) (minutes_after h q.0) (minutes_after k q.0) (period_positive p.0 p.1 q.0) (at q (inr n))) t in
    past (period_after p.0 p.1 t) (minutes_after h t) (minutes_after k t) gone rest))
    (λ l.
    let here = at p (inl refl) in
    let first = period_same p.0 p.1 t p.0 l (le_refl p.0) in
    let short = (let q = i.0 in let r : p.0 ≤ℤ p.1 = omega (arith, ints) in r) in
    let same = after_same h p.1 t p.0 i.1 (le_trans t p.0 p.1 l short) short in
    let falls = after_falls k t p.0 l in
    ahead (period_after p.0 p.1 t) (period_after p.0 p.1 p.0) (minutes_after h t) (minutes_after h p.0) (minutes_after k p.0) (minutes_after k t) first same here falls)
  where
    inside : (a b c d m n s e t : ℤ) → (a +ℤ c) ≤ℤ m → a +ℤ s ≡ e → b +ℤ t ≡ e → c ≡ d → m ≤ℤ (n +ℤ (t -ℤ s)) → (b +ℤ d) ≤ℤ n
    inside a b c d m n s e t h1 h2 h3 h4 h5 = omega (arith, ints)

    past : (a b c : ℤ) → a ≡ pos 0 → b ≤ℤ c → (a +ℤ b) ≤ℤ c
    past a b c h k = omega (arith, ints)

    ahead : (a b c d m n : ℤ) → a ≡ b → c ≡ d → (b +ℤ d) ≤ℤ m → m ≤ℤ n → (a +ℤ c) ≤ℤ n
    ahead a b c d m n h1 h2 h3 h4 = omega (arith, ints)

-- the order is antisymmetric on histories
after_one : (h : List (ℤ × ℤ)) (s : ℤ) → IsAfter s h → minutes_after h (s +ℤ pos 1) ≡ minutes_after h s
after_one [] s a = refl
after_one (p ∷ h) s a =
    let q = a.0 in
    let u : (s +ℤ pos 1) ≤ℤ p.0 = omega (arith, ints) in
    let t : s ≤ℤ p.0 = omega (arith, ints) in
    let r = a.1 in
    let e : p.0 ≤ℤ p.1 = omega (arith, ints) in
    let first = period_same p.0 p.1 (s +ℤ pos 1) s u t in
    let rest = after_same h p.1 (s +ℤ pos 1) s a.2 (le_trans (s +ℤ pos 1) p.0 p.1 u e) (le_trans s p.0 p.1 t e) in
    ap (λ z. z +ℤ minutes_after h (s +ℤ pos 1)) first ∙ ap (λ z. period_after p.0 p.1 s +ℤ z) rest

-- a minute within the first period counts
falls_in : (p : ℤ × ℤ) (h : List (ℤ × ℤ)) (t : ℤ) → IsAfter p.1 h → p.0 ≤ℤ t → t <ℤ p.1 → minutes_after (p ∷ h) t ≡ minutes_after (p ∷ h) (t +ℤ pos 1) +ℤ pos 1
falls_in p h t a k l =
    let t' : t ≤ℤ p.1 = omega (arith, ints) in
    let u : (t +ℤ pos 1) ≤ℤ p.1 = omega (arith, ints) in
    let v : p.0 ≤ℤ (t +ℤ pos 1) = omega (arith, ints) in
    let one = period_part p.0 p.1 t k t' in
    let two = period_part p.0 p.1 (t +ℤ pos 1) v u in
    let same = after_same h p.1 t (t +ℤ pos 1) a t' u in
    sums (period_after p.0 p.1 t) (period_after p.0 p.1 (t +ℤ pos 1)) (minutes_after h t) (minutes_after h (t +ℤ pos 1)) t p.1 one two same
  where
    sums : (a b c d t e : ℤ) → a +ℤ t ≡ e → b +ℤ (t +ℤ pos 1) ≡ e → c ≡ d → a +ℤ c ≡ (b +ℤ d) +ℤ pos 1
    sums a b c d t e h1 h2 h3 = omega (arith, ints)

-- a minute before the first period doesn't
stays_before : (p : ℤ × ℤ) (h : List (ℤ × ℤ)) (t : ℤ) → p.0 <ℤ p.1 → IsAfter p.1 h → t <ℤ p.0 → minutes_after (p ∷ h) t ≡ minutes_after (p ∷ h) (t +ℤ pos 1)
stays_before p h t s a l =
    let t' : t ≤ℤ p.0 = omega (arith, ints) in
    let u : (t +ℤ pos 1) ≤ℤ p.0 = omega (arith, ints) in
    let e : p.0 ≤ℤ p.1 = omega (arith, ints) in
    ap (λ z. z +ℤ minutes_after h t) (period_same p.0 p.1 t (t +ℤ pos 1) t' u)
    ∙ ap (λ z. period_after p.0 p.1 (t +ℤ pos 1) +ℤ z) (after_same h p.1 t (t +ℤ pos 1) a (le_trans t p.0 p.1 t' e) (le_trans (t +ℤ pos 1) p.0 p.1 u e))

-- nor does one after it and before the next
stays_past : (p : ℤ × ℤ) (h : List (ℤ × ℤ)) → IsAfter p.1 h → minutes_after (p ∷ h) p.1 ≡ minutes_after (p ∷ h) (p.1 +ℤ pos 1)
stays_past p h a =
    let u : p.1 ≤ℤ (p.1 +ℤ pos 1) = omega (arith, ints) in
    ap (λ z. z +ℤ minutes_after h p.1) (period_none p.0 p.1 p.1 (le_refl p.1) ∙ sym (period_none p.0 p.1 (p.1 +ℤ pos 1) u))
    ∙ ap (λ z. period_after p.0 p.1 (p.1 +ℤ pos 1) +ℤ z) (sym (after_one h p.1 a))

no_step : (a b c d : ℤ) → a ≡ b +ℤ pos 1 → c ≡ d → a ≡ c → b ≡ d → ⊥
no_step a b c d h1 h2 h3 h4 = omega (arith, ints)

no_start_before : (p q : ℤ × ℤ) (h k : List (ℤ × ℤ)) → IsHistory (p ∷ h) → IsHistory (q ∷ k) → ((t : ℤ) → minutes_after (p ∷ h) t ≡ minutes_after (q ∷ k) t) → p.0 <ℤ q.0 → ⊥
no_start_before p q h k i j same l = no_step (minutes_after (p ∷ h) p.0) (minutes_after (p ∷ h) (p.0 +ℤ pos 1)) (minutes_after (q ∷ k) p.0) (minutes_after (q ∷ k) (p.0 +ℤ pos 1))
    (falls_in p h p.0 i.1 (le_refl p.0) i.0) (stays_before q k p.0 j.0 j.1 l) (same p.0) (same (p.0 +ℤ pos 1))

no_end_before : (p q : ℤ × ℤ) (h k : List (ℤ × ℤ)) → IsHistory (p ∷ h) → IsHistory (q ∷ k) → ((t : ℤ) → minutes_after (p ∷ h) t ≡ minutes_after (q ∷ k) t) → p.0 ≡ q.0 → p.1 <ℤ q.1 → ⊥
no_end_before p q h k i j same e l = no_step (minutes_after (q ∷ k) p.1) (minutes_after (q ∷ k) (p.1 +ℤ pos 1)) (minutes_after (p ∷ h) p.1) (minutes_after (p ∷ h) (p.1 +ℤ pos 1))
    (falls_in q k p.1 j.1 (subst (λ z. z ≤ℤ p.1) e (let r = i.0 in let m : p.0 ≤ℤ p.1 = omega (arith, ints) in m)) l) (stays_past p h i.1) (sym (same p.1)) (sym (same (p.1 +ℤ pos 1)))

same_number : (a b : ℤ) → (a <ℤ b → ⊥) → (b <ℤ a → ⊥) → a ≡ b
same_number a b h k = by_lt_z a b (λ l. absurd (h l)) (λ l. by_lt_z b a (λ m. absurd (k m)) (λ m. le_antisym a b m l))

no_empty : (p : ℤ × ℤ) (h : List (ℤ × ℤ)) → p.0 <ℤ p.1 → minutes_after (p ∷ h) p.0 ≡ pos 0 → ⊥
no_empty p h l e =
    let short : p.0 ≤ℤ p.1 = omega (arith, ints) in
    some (period_after p.0 p.1 p.0) (minutes_after h p.0) p.0 p.1 (period_whole p.0 p.1 p.0 (le_refl p.0) short) (after_positive h p.0) l e
  where
    some : (a b s e : ℤ) → a +ℤ s ≡ e → pos 0 ≤ℤ b → s <ℤ e → a +ℤ b ≡ pos 0 → ⊥
    some a b s e h1 h2 h3 h4 = omega (arith, ints)

cancel : (a b c d : ℤ) → a ≡ b → a +ℤ c ≡ b +ℤ d → c ≡ d
cancel a b c d h k = omega (arith, ints)

pub same_history : (h k : List (ℤ × ℤ)) → IsHistory h → IsHistory k → ((t : ℤ) → minutes_after h t ≡ minutes_after k t) → h ≡ k
same_history [] [] i j same = refl
same_history [] (q ∷ k) i j same = absurd (no_empty q k j.0 (sym (same q.0)))
same_history (p ∷ h) [] i j same = absurd (no_empty p h i.0 (same p.0))
same_history (p ∷ h) (q ∷ k) i j same =
    let start : p.0 ≡ q.0 = same_number p.0 q.0 (no_start_before p q h k i j same) (no_start_before q p k h j i (λ t. sym (same t))) in
    let end : p.1 ≡ q.1 = same_number p.1 q.1 (no_end_before p q h k i j same start) (no_end_before q p k h j i (λ t. sym (same t)) (sym start)) in
    let first : p ≡ q = ap (λ z. (z, p.1)) start ∙ ap (λ z. (q.0, z)) end in
    let rest : h ≡ k = same_history h k (history_after h p.1 i.1) (history_after k q.1 j.1)
    (λ t. cancel (period_after p.0 p.1 t) (period_after q.0 q.1 t) (minutes_after h t) (minutes_after k t) (ap (λ z. period_after z.0 z.1 t) first) (same t)) in
    ap (λ z. z ∷ h) first ∙ ap (λ z. q ∷ z) rest

pub no_more_antisym : (h k : List (ℤ × ℤ)) → IsHistory h → IsHistory k → IsNoMore h k → IsNoMore k h → h ≡ k
no_more_antisym h k i j a b = same_history h k i j (λ t. le_antisym (minutes_after h t) (minutes_after k t) (a t) (b t))

-- what a cut history has after an instant
pub after_cut : (c : ℤ) (h : List (ℤ × ℤ)) (t : ℤ) → minutes_after (cut c h) t ≡ minutes_after h (int_max t c)
after_cut c [] t = refl
after_cut c (p ∷ h) t = ⊎_elim
    (λ y.
    rw y (after_cut c h t ∙ none (period_after p.0 p.1 (int_max t c)) (minutes_after h (int_max t c)) (period_none p.0 p.1 (int_max t c) (le_trans p.1 c (int_max t c) (int_le_is p.1 c y) (max_least t c)))))
    (λ n.
    rw n (ap (λ z. period_after (int_max p.0 c) p.1 t +ℤ z) (after_cut c h t) ∙ ap (λ z. z +ℤ minutes_after h (int_max t c)) (clipped p.0 p.1 c t (int_le_not p.1 c n))))
    (cases_Bool (int_le p.1 c))
  where
    none : (a b : ℤ) → a ≡ pos 0 → b ≡ a +ℤ b
    none a b e = omega (arith, ints)

    max_least : (t c : ℤ) → c ≤ℤ int_max t c
    max_least t c = omega (arith, ints, clamps)

    clipped : (s e c t : ℤ) → c <ℤ e → period_after (int_max s c) e t ≡ period_after s e (int_max t c)
    clipped s e c t l = omega (arith, ints, clamps)

-- a cut history is one
cut_is_after : (c s : ℤ) (h : List (ℤ × ℤ)) → IsAfter s h → IsAfter s (cut c h)
cut_is_after c s [] a = tt
cut_is_after c s (p ∷ h) a = ⊎_elim
    (λ y. rw y (later_after (cut c h) s p.1 (let q = a.0 in let r = a.1 in omega (arith, ints)) (cut_is_after c p.1 h a.2)))
    (λ n. rw n (above s p.0 c a.0, meets p.0 p.1 c a.1 (int_le_not p.1 c n), cut_is_after c p.1 h a.2))
    (cases_Bool (int_le p.1 c))
  where
    above : (s p c : ℤ) → s <ℤ p → s <ℤ int_max p c
    above s p c l = omega (arith, ints, clamps)

    meets : (s e c : ℤ) → s <ℤ e → c <ℤ e → int_max s c <ℤ e
    meets s e c l m = omega (arith, ints, clamps)

before_it : (p : ℤ × ℤ) (h : List (ℤ × ℤ)) → IsHistory (p ∷ h) → IsAfter (p.0 -ℤ pos 1) (p ∷ h)
before_it p h i = (let q : (p.0 -ℤ pos 1) <ℤ p.0 = omega (arith, ints) in q, i.0, i.1)

pub cut_history : (c : ℤ) (h : List (ℤ × ℤ)) → IsHistory h → IsHistory (cut c h)
cut_history c [] i = tt
cut_history c (p ∷ h) i = history_after (cut c (p ∷ h)) (p.0 -ℤ pos 1) (cut_is_after c (p.0 -ℤ pos 1) (p ∷ h) (before_it p h i))

append_is_after : (s : ℤ) (h : List (ℤ × ℤ)) (p : ℤ × ℤ) → IsAfter s h → EndsBefore h p.0 → s <ℤ p.0 → p.0 <ℤ p.1 → IsAfter s (h ++ p ∷ [])
append_is_after s [] p a e l m = (l, m, tt)
append_is_after s (q ∷ h) p a e l m = (a.0, a.1, append_is_after q.1 h p a.2 e.1 e.0 m)

pub append_history : (h : List (ℤ × ℤ)) (p : ℤ × ℤ) → IsHistory h → EndsBefore h p.0 → p.0 <ℤ p.1 → IsHistory (h ++ p ∷ [])
append_history [] p i e m = (m, tt)
append_history (q ∷ h) p i e m = (i.0, append_is_after q.1 h p i.1 e.1 e.0 m)

pub grown_history : (window : ℤ) (h : List (ℤ × ℤ)) (p : ℤ × ℤ) → IsHistory h → EndsBefore h p.0 → p.0 <ℤ p.1 → IsHistory (grown window h p)
grown_history window h p i e m = cut_history (p.1 -ℤ window) (h ++ p ∷ []) (append_history h p i e m)

-- extension keeps the order
pub append_monotone : (h k : List (ℤ × ℤ)) (p : ℤ × ℤ) → IsNoMore h k → IsNoMore (h ++ p ∷ []) (k ++ p ∷ [])
append_monotone h k p a t = both (minutes_after (h ++ p ∷ []) t) (minutes_after h t) (minutes_after (k ++ p ∷ []) t) (minutes_after k t) (period_after p.0 p.1 t) (after_append h p t) (after_append k p t) (a t)
  where
    both : (a b c d m : ℤ) → a ≡ b +ℤ m → c ≡ d +ℤ m → b ≤ℤ d → a ≤ℤ c
    both a b c d m h k l = omega (arith, ints)

pub cut_monotone : (c : ℤ) (h k : List (ℤ × ℤ)) → IsNoMore h k → IsNoMore (cut c h) (cut c k)
cut_monotone c h k a t = subst (λ z. z ≤ℤ minutes_after (cut c k) t) (sym (after_cut c h t)) (subst (λ z. minutes_after h (int_max t c) ≤ℤ z) (sym (after_cut c k t)) (a (int_max t c)))

pub grown_monotone : (window : ℤ) (h k : List (ℤ × ℤ)) (p : ℤ × ℤ) → IsNoMore h k → IsNoMore (grown window h p) (grown window k p)
grown_monotone window h k p a = cut_monotone (p.1 -ℤ window) (h ++ p ∷ []) (k ++ p ∷ []) (append_monotone h k p a)

-- a period comes after a history that has no minutes from the one before it on
pub ends_from_none : (h : List (ℤ × ℤ)) (s : ℤ) → IsHistory h → minutes_after h (s -ℤ pos 1) ≤ℤ pos 0 → EndsBefore h s
ends_from_none [] s i l = tt
ends_from_none (p ∷ h) s i l =
    let rest = after_positive h (s -ℤ pos 1) in
    let first = period_positive p.0 p.1 (s -ℤ pos 1) in
    (ended p.0 p.1 s (minutes_after h (s -ℤ pos 1)) i.0 rest l, ends_from_none h s (history_after h p.1 i.1) (within_left (period_after p.0 p.1 (s -ℤ pos 1)) (minutes_after h (s -ℤ pos 1)) (pos 0) first l))
  where
    ended : (s e r m : ℤ) → s <ℤ e → pos 0 ≤ℤ m → (period_after s e (r -ℤ pos 1) +ℤ m) ≤ℤ pos 0 → e <ℤ r
    ended s e r m h k l = omega (arith, ints, clamps)

none_from_ends : (h : List (ℤ × ℤ)) (s : ℤ) → EndsBefore h s → minutes_after h (s -ℤ pos 1) ≡ pos 0
none_from_ends [] s e = refl
none_from_ends (p ∷ h) s e = zeros (period_after p.0 p.1 (s -ℤ pos 1)) (minutes_after h (s -ℤ pos 1)) (period_none p.0 p.1 (s -ℤ pos 1) (let q = e.0 in omega (arith, ints))) (none_from_ends h s e.1)
  where
    zeros : (a b : ℤ) → a ≡ pos 0 → b ≡ pos 0 → a +ℤ b ≡ pos 0
    zeros a b h k = omega (arith, ints)

lt_yes : (a b : ℤ) → a <ℤ b → int_lt a b ≡ true
lt_yes a b h = grind (arith, ints)

lt_is : (a b : ℤ) → int_lt a b ≡ true → a <ℤ b
lt_is a b h = grind (arith, ints)

pub follows_decides : (h : List (ℤ × ℤ)) (p : ℤ × ℤ) → IsHistory h → (follows h p ≡ true → EndsBefore h p.0 × (p.0 <ℤ p.1)) × (EndsBefore h p.0 → p.0 <ℤ p.1 → follows h p ≡ true)
follows_decides h p i = (
  λ e.
      let f = and_parts (int_le (minutes_after h (p.0 -ℤ pos 1)) (pos 0)) (int_lt p.0 p.1) e in
      (ends_from_none h p.0 i (int_le_is (minutes_after h (p.0 -ℤ pos 1)) (pos 0) f.0), lt_is p.0 p.1 f.1),
  λ e l. and_from (int_le (minutes_after h (p.0 -ℤ pos 1)) (pos 0)) (int_lt p.0 p.1)
      (int_le_yes (minutes_after h (p.0 -ℤ pos 1)) (pos 0) (subst (λ z. z ≤ℤ pos 0) (sym (none_from_ends h p.0 e)) (le_refl (pos 0)))) (lt_yes p.0 p.1 l),
)

-- the lesser history boards where the greater does, to a lesser one
pub may_board_monotone : (window cap : ℤ) (h k : List (ℤ × ℤ)) (p : ℤ × ℤ) → IsNoMore h k → may_board window cap k p ≡ true → may_board window cap h p ≡ true
may_board_monotone window cap h k p a e =
    let m = and_parts (follows k p) (fits_window window cap k p) e in
    let f = and_parts (int_le (minutes_after k (p.0 -ℤ pos 1)) (pos 0)) (int_lt p.0 p.1) m.0 in
    and_from (follows h p) (fits_window window cap h p)
    (and_from (int_le (minutes_after h (p.0 -ℤ pos 1)) (pos 0)) (int_lt p.0 p.1)
    (int_le_yes (minutes_after h (p.0 -ℤ pos 1)) (pos 0) (le_trans (minutes_after h (p.0 -ℤ pos 1)) (minutes_after k (p.0 -ℤ pos 1)) (pos 0) (a (p.0 -ℤ pos 1)) (int_le_is (minutes_after k (p.0 -ℤ pos 1)) (pos 0) f.0))) f.1)
    (int_le_yes (minutes_after (grown window h p) (p.1 -ℤ window)) cap
    (le_trans (minutes_after (grown window h p) (p.1 -ℤ window)) (minutes_after (grown window k p) (p.1 -ℤ window)) cap (grown_monotone window h k p a (p.1 -ℤ window)) (int_le_is (minutes_after (grown window k p) (p.1 -ℤ window)) cap m.1)))

pub boarded_monotone : (window cap : ℤ) (h k c : List (ℤ × ℤ)) (p : ℤ × ℤ) → IsNoMore h k → boarded_history window cap k p ≡ Some c
    → (z : List (ℤ × ℤ)) × (boarded_history window cap h p ≡ Some z) × IsNoMore z c
boarded_monotone window cap h k c p a e = ⊎_elim
    (λ y.
    let less = grown_monotone window h k p a in
    let is : Some (grown window k p) ≡ Some c = sym (ap (λ b. cond b (Some (grown window k p)) None) y) ∙ e in
    let same : grown window k p ≡ c = (cc) in
    (grown window h p, ap (λ b. cond b (Some (grown window h p)) None) (may_board_monotone window cap h k p a y), subst (λ z. IsNoMore (grown window h p) z) same less))
    (λ n. absurd (let is : None ≡ Some c = sym (ap (λ b. cond b (Some (grown window k p)) None) n) ∙ e in let q : ⊥ = (cc) in q))
    (cases_Bool (may_board window cap k p))

-- at most one period more
cut_length : (c : ℤ) (h : List (ℤ × ℤ)) → length (cut c h) ≤ length h
cut_length c [] = omega arith
cut_length c (p ∷ h) =
    let rest = cut_length c h in
    ⊎_elim (λ y. rw y (let q : length (cut c h) ≤ suc (length h) = omega arith in q)) (λ n. rw n (let q : suc (length (cut c h)) ≤ suc (length h) = omega arith in q)) (cases_Bool (int_le p.1 c))

pub grown_length : (window : ℤ) (h : List (ℤ × ℤ)) (p : ℤ × ℤ) → length (grown window h p) ≤ length h + 1
grown_length window h p = let k = cut_length (p.1 -ℤ window) (h ++ p ∷ []) in let l = length-append h (p ∷ []) in omega (arith, k, l)

-- the test at the starts of the first decides the order
tests_all : (q : ℤ × ℤ → Bool) (xs : List (ℤ × ℤ)) → ((x : ℤ × ℤ) → Member xs x → q x ≡ true) → list_all q xs ≡ true
tests_all q [] f = refl
tests_all q (x ∷ xs) f = rw (f x (inl refl)) (tests_all q xs (λ y m. f y (inr m)))

all_tested : (q : ℤ × ℤ → Bool) (xs : List (ℤ × ℤ)) → list_all q xs ≡ true → (x : ℤ × ℤ) → Member xs x → q x ≡ true
all_tested q [] h x m = absurd m
all_tested q (y ∷ xs) h x m = ⊎_elim {C = q x ≡ true}
    (λ t.
    let rest : list_all q xs ≡ true = rw t at h in
    ⊎_elim (λ e. subst (λ z. q z ≡ true) e t) (λ n. all_tested q xs rest x n) m)
    (λ f. absurd (let no : false ≡ true = rw f at h in false≢true no))
    (cases_Bool (q y))

pub is_no_more_decides : (h k : List (ℤ × ℤ)) → IsHistory h → IsHistory k → (is_no_more h k ≡ true → IsNoMore h k) × (IsNoMore h k → is_no_more h k ≡ true)
is_no_more_decides h k i j = (
  λ e. starts_suffice h k i j (λ p m. int_le_is (minutes_after h p.0) (minutes_after k p.0) (all_tested (λ p. int_le (minutes_after h p.0) (minutes_after k p.0)) h e p m)),
  λ a. tests_all (λ p. int_le (minutes_after h p.0) (minutes_after k p.0)) h (λ p m. int_le_yes (minutes_after h p.0) (minutes_after k p.0) (a p.0)),
)

-- which windows must be tested: near each instant ends a period whose window has as many duty minutes
member_ends : (s : ℤ) (h : List (ℤ × ℤ)) (p : ℤ × ℤ) → IsAfter s h → Member h p → s <ℤ p.1
member_ends s [] p a m = absurd m
member_ends s (q ∷ h) p a (inl e) = subst (λ z. s <ℤ z.1) e (let k = a.0 in let l = a.1 in omega (arith, ints))
member_ends s (q ∷ h) p a (inr m) = let k = a.0 in let l = a.1 in let r = member_ends q.1 h p a.2 m in omega (arith, ints)

-- nothing before, or the last end before the instant, or a period about it
abbrev Located : List (ℤ × ℤ) → ℤ → Type 0
Located h t = ((u : ℤ) → u ≤ℤ t → minutes_after h u ≡ minutes_after h t)
    ⊎ ((p : ℤ × ℤ) × Member h p × (((p.1 ≤ℤ t) × (minutes_after h p.1 ≡ minutes_after h t)) ⊎ ((t ≤ℤ p.1) × (minutes_after h t ≡ minutes_after h p.1 +ℤ (p.1 -ℤ t)))))

located : (h : List (ℤ × ℤ)) (t : ℤ) → IsHistory h → Located h t
located [] t i = inl (λ u k. refl)
located (p ∷ h) t i = by_lt_z p.0 t
    (λ l. by_lt_z t p.1
    (λ m.
    let s' : p.0 ≤ℤ t = omega (arith, ints) in
    let t' : t ≤ℤ p.1 = omega (arith, ints) in
    inr (p, inl refl, inr (t', part (period_after p.0 p.1 t) (period_after p.0 p.1 p.1) (minutes_after h t) (minutes_after h p.1) t p.1 (period_part p.0 p.1 t s' t') (period_none p.0 p.1 p.1 (le_refl p.1)) (after_same h p.1 t p.1 i.1 t' (le_refl p.1)))))
    (λ m. ⊎_elim
    (λ same. inr (p, inl refl, inl (m, gone (period_after p.0 p.1 p.1) (period_after p.0 p.1 t) (minutes_after h p.1) (minutes_after h t) (period_none p.0 p.1 p.1 (le_refl p.1)) (period_none p.0 p.1 t m) (same p.1 m))))
    (λ k.
    let q = k.0 in
    let later = member_ends p.1 h q i.1 k.1 in
    let end = period_none p.0 p.1 q.1 (let r : p.1 ≤ℤ q.1 = omega (arith, ints) in r) in
    let here = period_none p.0 p.1 t m in
    ⊎_elim
    (λ z. inr (q, inr k.1, inl (z.0, gone (period_after p.0 p.1 q.1) (period_after p.0 p.1 t) (minutes_after h q.1) (minutes_after h t) end here z.1)))
    (λ z. inr (q, inr k.1, inr (z.0, ahead (period_after p.0 p.1 t) (period_after p.0 p.1 q.1) (minutes_after h t) (minutes_after h q.1) t q.1 here end z.1)))
    k.2)
    (located h t (history_after h p.1 i.1))))
    (λ l. inl (λ u k.
    let u' = le_trans u t p.0 k l in
    let short = (let q = i.0 in let r : p.0 ≤ℤ p.1 = omega (arith, ints) in r) in
    ap (λ z. z +ℤ minutes_after h u) (period_same p.0 p.1 u t u' l)
    ∙ ap (λ z. period_after p.0 p.1 t +ℤ z) (after_same h p.1 u t i.1 (le_trans u p.0 p.1 u' short) (le_trans t p.0 p.1 l short))))
  where
    part : (a b c d t e : ℤ) → a +ℤ t ≡ e → b ≡ pos 0 → c ≡ d → a +ℤ c ≡ (b +ℤ d) +ℤ (e -ℤ t)
    part a b c d t e h1 h2 h3 = omega (arith, ints)

    gone : (a b c d : ℤ) → a ≡ pos 0 → b ≡ pos 0 → c ≡ d → a +ℤ c ≡ b +ℤ d
    gone a b c d h1 h2 h3 = omega (arith, ints)

    ahead : (a b c d t e : ℤ) → a ≡ pos 0 → b ≡ pos 0 → c ≡ d +ℤ (e -ℤ t) → a +ℤ c ≡ (b +ℤ d) +ℤ (e -ℤ t)
    ahead a b c d t e h1 h2 h3 = omega (arith, ints)

minus_window : (w t u : ℤ) → t ≤ℤ u → (t -ℤ w) ≤ℤ (u -ℤ w)
minus_window w t u h = omega (arith, ints)

back_window : (w t : ℤ) → pos 0 ≤ℤ w → (t -ℤ w) ≤ℤ t
back_window w t h = omega (arith, ints)

-- of the windows only those that end with a period need testing
pub ends_suffice : (window cap : ℤ) (h : List (ℤ × ℤ)) → IsHistory h → pos 0 ≤ℤ window → pos 0 ≤ℤ cap
    → ((p : ℤ × ℤ) → Member h p → minutes_within h (p.1 -ℤ window) p.1 ≤ℤ cap) → KeepsCap window cap h
ends_suffice window cap h i w c each t = ⊎_elim
    (λ same. none (minutes_after h (t -ℤ window)) (minutes_after h t) cap (same (t -ℤ window) (back_window window t w)) c)
    (λ k.
    let p = k.0 in
    ⊎_elim
    (λ z. past (minutes_after h (t -ℤ window)) (minutes_after h t) (minutes_after h (p.1 -ℤ window)) (minutes_after h p.1) cap
    (after_falls h (p.1 -ℤ window) (t -ℤ window) (minus_window window p.1 t z.0)) z.1 (each p k.1))
    (λ z. within (minutes_after h (t -ℤ window)) (minutes_after h t) (minutes_after h (p.1 -ℤ window)) (minutes_after h p.1) t p.1 window cap
    (after_slowly h (t -ℤ window) (p.1 -ℤ window) i (minus_window window t p.1 z.0)) z.1 (each p k.1))
    k.2)
    (located h t i)
  where
    none : (a b c : ℤ) → a ≡ b → pos 0 ≤ℤ c → (a -ℤ b) ≤ℤ c
    none a b c e k = omega (arith, ints)

    past : (a b c d m : ℤ) → a ≤ℤ c → d ≡ b → (c -ℤ d) ≤ℤ m → (a -ℤ b) ≤ℤ m
    past a b c d m h1 h2 h3 = omega (arith, ints)

    within : (a b c d t e w m : ℤ) → a ≤ℤ (c +ℤ ((e -ℤ w) -ℤ (t -ℤ w))) → b ≡ d +ℤ (e -ℤ t) → (c -ℤ d) ≤ℤ m → (a -ℤ b) ≤ℤ m
    within a b c d t e w m h1 h2 h3 = omega (arith, ints)

ends_before_all : (h : List (ℤ × ℤ)) (t : ℤ) (p : ℤ × ℤ) → EndsBefore h t → Member h p → p.1 <ℤ t
ends_before_all [] t p e m = absurd m
ends_before_all (q ∷ h) t p e (inl r) = subst (λ z. z.1 <ℤ t) r e.0
ends_before_all (q ∷ h) t p e (inr m) = ends_before_all h t p e.1 m

-- nothing after the last end
pub none_left : (h : List (ℤ × ℤ)) (t u : ℤ) → EndsBefore h t → t ≤ℤ u → minutes_after h u ≡ pos 0
none_left [] t u e k = refl
none_left (p ∷ h) t u e k = zeros (period_after p.0 p.1 u) (minutes_after h u) (period_none p.0 p.1 u (let q = e.0 in omega (arith, ints))) (none_left h t u e.1 k)
  where
    zeros : (a b : ℤ) → a ≡ pos 0 → b ≡ pos 0 → a +ℤ b ≡ pos 0
    zeros a b h k = omega (arith, ints)

-- so with one period more only its own window does
pub last_window_suffices : (window cap : ℤ) (h : List (ℤ × ℤ)) (p : ℤ × ℤ) → IsHistory h → EndsBefore h p.0 → p.0 <ℤ p.1 → pos 0 ≤ℤ window → pos 0 ≤ℤ cap
    → (KeepsCap window cap (h ++ p ∷ []) → KeepsCap window cap h × (minutes_after (h ++ p ∷ []) (p.1 -ℤ window) ≤ℤ cap))
    × (KeepsCap window cap h → minutes_after (h ++ p ∷ []) (p.1 -ℤ window) ≤ℤ cap → KeepsCap window cap (h ++ p ∷ []))
last_window_suffices window cap h p i e l w c = (
  λ keeps. (
    λ t. shorter (minutes_after (h ++ p ∷ []) (t -ℤ window)) (minutes_after (h ++ p ∷ []) t) (minutes_after h (t -ℤ window)) (minutes_after h t)
        (period_after p.0 p.1 (t -ℤ window)) (period_after p.0 p.1 t) cap
        (after_append h p (t -ℤ window)) (after_append h p t) (period_falls p.0 p.1 (t -ℤ window) t (back_window window t w)) (keeps t),
    whole (minutes_after (h ++ p ∷ []) (p.1 -ℤ window)) (minutes_after (h ++ p ∷ []) p.1) cap (gone p.1 (le_refl p.1)) (keeps p.1),
  ),
  λ keeps last. ends_suffice window cap (h ++ p ∷ []) (append_history h p i e l) w c (λ q m. ⊎_elim
      (λ n.
      let before = ends_before_all h p.0 q e n in
      let at = after_append h p q.1 in
      let back = after_append h p (q.1 -ℤ window) in
      let end : q.1 ≤ℤ p.0 = omega (arith, ints) in
      let same = period_same p.0 p.1 (q.1 -ℤ window) q.1 (le_trans (q.1 -ℤ window) q.1 p.0 (back_window window q.1 w) end) end in
      earlier (minutes_after (h ++ p ∷ []) (q.1 -ℤ window)) (minutes_after (h ++ p ∷ []) q.1) (minutes_after h (q.1 -ℤ window)) (minutes_after h q.1)
      (period_after p.0 p.1 (q.1 -ℤ window)) (period_after p.0 p.1 q.1) cap back at same (keeps q.1))
      (⊎_elim
      (λ r. subst (λ z. minutes_within (h ++ p ∷ []) (z.1 -ℤ window) z.1 ≤ℤ cap) r
      (unwhole (minutes_after (h ++ p ∷ []) (p.1 -ℤ window)) (minutes_after (h ++ p ∷ []) p.1) cap (gone p.1 (le_refl p.1)) last))
      (λ b. absurd b))
      (Member-append h (p ∷ []) q m)),
)
  where
    shorter : (a b c d m n k : ℤ) → a ≡ c +ℤ m → b ≡ d +ℤ n → n ≤ℤ m → (a -ℤ b) ≤ℤ k → (c -ℤ d) ≤ℤ k
    shorter a b c d m n k h1 h2 h3 h4 = omega (arith, ints)

    whole : (a b k : ℤ) → b ≡ pos 0 → (a -ℤ b) ≤ℤ k → a ≤ℤ k
    whole a b k e h = omega (arith, ints)

    unwhole : (a b k : ℤ) → b ≡ pos 0 → a ≤ℤ k → (a -ℤ b) ≤ℤ k
    unwhole a b k e h = omega (arith, ints)

    earlier : (a b c d m n k : ℤ) → a ≡ c +ℤ m → b ≡ d +ℤ n → m ≡ n → (c -ℤ d) ≤ℤ k → (a -ℤ b) ≤ℤ k
    earlier a b c d m n k h1 h2 h3 h4 = omega (arith, ints)

    zeros : (a b : ℤ) → a ≡ pos 0 → b ≡ pos 0 → a +ℤ b ≡ pos 0
    zeros a b h k = omega (arith, ints)

    gone : (u : ℤ) → p.1 ≤ℤ u → minutes_after (h ++ p ∷ []) u ≡ pos 0
    gone u k =
        let none = period_none p.0 p.1 u k in
        let rest = none_left h p.0 u e (let q : p.0 ≤ℤ u = omega (arith, ints) in q) in
        after_append h p u ∙ zeros (minutes_after h u) (period_after p.0 p.1 u) rest none

-- and what was cut off before is not missed there
pub cut_tells_the_same : (window c : ℤ) (h : List (ℤ × ℤ)) (p : ℤ × ℤ) → c ≤ℤ (p.1 -ℤ window) → (t : ℤ) → minutes_after (grown window (cut c h) p) t ≡ minutes_after (grown window h p) t
cut_tells_the_same window c h p k t =
    let at = int_max t (p.1 -ℤ window) in
    let later : int_max at c ≡ at = beyond t (p.1 -ℤ window) c k in
    after_cut (p.1 -ℤ window) (cut c h ++ p ∷ []) t
    ∙ (after_append (cut c h) p at
    ∙ (ap (λ z. z +ℤ period_after p.0 p.1 at) (after_cut c h at ∙ ap (minutes_after h) later)
    ∙ (sym (after_append h p at) ∙ sym (after_cut (p.1 -ℤ window) (h ++ p ∷ []) t))))
  where
    beyond : (t b c : ℤ) → c ≤ℤ b → int_max (int_max t b) c ≡ int_max t b
    beyond t b c k = omega (arith, ints, clamps)

-- so the histories are the same
pub cut_grows_the_same : (window c : ℤ) (h : List (ℤ × ℤ)) (p : ℤ × ℤ) → IsHistory h → EndsBefore h p.0 → EndsBefore (cut c h) p.0 → p.0 <ℤ p.1 → c ≤ℤ (p.1 -ℤ window) → grown window (cut c h) p ≡ grown window h p
cut_grows_the_same window c h p i e e' l k = same_history (grown window (cut c h) p) (grown window h p)
    (grown_history window (cut c h) p (cut_history c h i) e' l) (grown_history window h p i e l) (cut_tells_the_same window c h p k)

-- the cut to a window has all its minutes
pub grown_has_all : (window : ℤ) (h : List (ℤ × ℤ)) (p : ℤ × ℤ) → minutes_after (grown window h p) (p.1 -ℤ window) ≡ minutes_after (h ++ p ∷ []) (p.1 -ℤ window)
grown_has_all window h p = after_cut (p.1 -ℤ window) (h ++ p ∷ []) (p.1 -ℤ window) ∙ ap (minutes_after (h ++ p ∷ [])) (itself (p.1 -ℤ window))
  where
    itself : (a : ℤ) → int_max a a ≡ a
    itself a = omega (arith, ints, clamps)

-- a cut moves no end
pub ends_before_cut : (c : ℤ) (h : List (ℤ × ℤ)) (t : ℤ) → EndsBefore h t → EndsBefore (cut c h) t
ends_before_cut c [] t e = tt
ends_before_cut c (p ∷ h) t e = ⊎_elim
    (λ y. rw y (ends_before_cut c h t e.1))
    (λ n. rw n (e.0, ends_before_cut c h t e.1))
    (cases_Bool (int_le p.1 c))
