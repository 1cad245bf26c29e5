-- Where no period of a history begins before the window, growth reflects that it is no more than another.
use Rattle.std.proofs.Common.{◌≡◌, false, List, [], ◌∷◌, ◌++◌, ℤ, ◌+ℤ◌, refl, ◌∙◌, ap, arith}
use Rattle.std.specs.Prelude.{◌-ℤ◌, ◌≤ℤ◌, ◌<ℤ◌, int_lt}
use Rattle.std.specs.Int.{int_max}
use Rattle.std.proofs.lemmas.Int.{ints, clamps, by_lt_z}
use Rattle.crew_history.specs.Histories.{period_after, minutes_after, IsHistory, IsNoMore, grown, begins_before}
use Rattle.crew_history.proofs.Histories.{after_falls, after_same, after_append, after_cut}

starts_late : (s u : ℤ) → int_lt s u ≡ false → u ≤ℤ s
starts_late s u h = grind (arith, ints)

same_period : (s e t u : ℤ) → t ≤ℤ u → u ≤ℤ s → period_after s e t ≡ period_after s e u
same_period s e t u h k = omega (arith, ints, clamps)

within : (t u s e : ℤ) → t ≤ℤ u → u ≤ℤ s → s <ℤ e → t ≤ℤ e
within t u s e h k l = omega (arith, ints)

up_to : (u s e : ℤ) → u ≤ℤ s → s <ℤ e → u ≤ℤ e
up_to u s e k l = omega (arith, ints)

-- before it begins nothing changes
not_begun : (h : List (ℤ × ℤ)) (t u : ℤ) → IsHistory h → begins_before h u ≡ false → t ≤ℤ u
    → minutes_after h t ≡ minutes_after h u
not_begun [] t u i b k = refl
not_begun (p ∷ h) t u i b k =
    let late = starts_late p.0 u b in
    let rest = after_same h p.1 t u i.1 (within t u p.0 p.1 k late i.0) (up_to u p.0 p.1 late i.0) in
    ap (λ z. z +ℤ minutes_after h t) (same_period p.0 p.1 t u k late)
    ∙ ap (λ z. period_after p.0 p.1 u +ℤ z) rest

-- what a grown history has after an instant
after_grown : (window : ℤ) (h : List (ℤ × ℤ)) (p : ℤ × ℤ) (t : ℤ)
    → minutes_after (grown window h p) t ≡ minutes_after h (int_max t (p.1 -ℤ window))
    +ℤ period_after p.0 p.1 (int_max t (p.1 -ℤ window))
after_grown window h p t =
    after_cut (p.1 -ℤ window) (h ++ p ∷ []) t ∙ after_append h p (int_max t (p.1 -ℤ window))

less : (a b c d m : ℤ) → a ≡ c +ℤ m → b ≡ d +ℤ m → a ≤ℤ b → c ≤ℤ d
less a b c d m h k l = omega (arith, ints)

through : (a b c d : ℤ) → a ≡ b → b ≤ℤ c → c ≤ℤ d → a ≤ℤ d
through a b c d h k l = omega (arith, ints)

no_earlier : (t c : ℤ) → t ≤ℤ int_max t c
no_earlier t c = omega (arith, ints, clamps)

-- from the window's begin on both have what the period leaves; before it the first has what it has there
reached : (h : List (ℤ × ℤ)) (t c : ℤ) → IsHistory h → begins_before h c ≡ false
    → minutes_after h t ≡ minutes_after h (int_max t c)
reached h t c i b = by_lt_z t c
    (λ l.
    not_begun h t c i b (let q : t ≤ℤ c = omega (arith, ints) in q)
    ∙ ap (minutes_after h) (let q : c ≡ int_max t c = omega (arith, ints, clamps) in q))
    (λ l. ap (minutes_after h) (let q : t ≡ int_max t c = omega (arith, ints, clamps) in q))

pub grown_reflects : (window : ℤ) (h k : List (ℤ × ℤ)) (p : ℤ × ℤ) → IsHistory h
    → begins_before h (p.1 -ℤ window) ≡ false
    → IsNoMore (grown window h p) (grown window k p) → IsNoMore h k
grown_reflects window h k p i b no_more t =
    let u = int_max t (p.1 -ℤ window) in
    let grew = less (minutes_after (grown window h p) t) (minutes_after (grown window k p) t)
    (minutes_after h u) (minutes_after k u) (period_after p.0 p.1 u) (after_grown window h p t)
    (after_grown window k p t) (no_more t) in
    through (minutes_after h t) (minutes_after h u) (minutes_after k u) (minutes_after k t)
    (reached h t (p.1 -ℤ window) i b) grew
    (after_falls k t u (no_earlier t (p.1 -ℤ window)))
