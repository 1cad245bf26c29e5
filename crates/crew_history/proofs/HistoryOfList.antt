-- The history of a list of periods tells whether each window keeps the cap.
use Rattle.std.proofs.Common.{◌≡◌, Bool, true, false, cond, List, [], ◌∷◌, ◌++◌, Some, None, ℤ, pos, ◌+ℤ◌, refl, sym, ◌∙◌, ap, subst, arith, append_assoc, append-nil}
use Rattle.std.specs.Prelude.{◌-ℤ◌, ◌≤ℤ◌, ◌<ℤ◌, int_le}
use Rattle.std.specs.Option.{option_and_then}
use Rattle.std.proofs.lemmas.Int.{ints}
use Rattle.std.proofs.lemmas.Bool.{and_parts, and_from}
use Rattle.crew_history.specs.Histories.{period_after, minutes_after, IsAfter, IsHistory, cut, grown, EndsBefore, KeepsCap, follows, fits_window, may_board, boarded_history, history_from, last_end}
use Rattle.crew_history.proofs.Histories.{after_falls, append_history, cut_history, ends_before_cut, cut_grows_the_same, grown_has_all, last_window_suffices, follows_decides}
use Rattle.crew_resource.proofs.Pools.{and_then_out}

le_yes : (a b : ℤ) → a ≤ℤ b → int_le a b ≡ true
le_yes a b h = grind (arith, ints)

le_is : (a b : ℤ) → int_le a b ≡ true → a ≤ℤ b
le_is a b h = grind (arith, ints)

ends_sooner : (h : List (ℤ × ℤ)) (e s : ℤ) → EndsBefore h (e +ℤ pos 1) → e <ℤ s → EndsBefore h s
ends_sooner [] e s k l = tt
ends_sooner (p ∷ h) e s k l = (let q = k.0 in omega (arith, ints), ends_sooner h e s k.1 l)

ends_append : (h : List (ℤ × ℤ)) (p : ℤ × ℤ) → EndsBefore h p.0 → p.0 <ℤ p.1 → EndsBefore (h ++ p ∷ []) (p.1 +ℤ pos 1)
ends_append [] p k l = (let q : p.1 <ℤ (p.1 +ℤ pos 1) = omega (arith, ints) in q, tt)
ends_append (q ∷ h) p k l = (let r = k.0 in omega (arith, ints), ends_append h p k.1 l)

after_append_all : (h k : List (ℤ × ℤ)) (t : ℤ) → minutes_after (h ++ k) t ≡ minutes_after h t +ℤ minutes_after k t
after_append_all [] k t = zero (minutes_after k t)
  where
    zero : (a : ℤ) → a ≡ pos 0 +ℤ a
    zero a = omega (arith, ints)
after_append_all (p ∷ h) k t = regroup (period_after p.0 p.1 t) (minutes_after (h ++ k) t) (minutes_after h t) (minutes_after k t) (after_append_all h k t)
  where
    regroup : (a b c d : ℤ) → b ≡ c +ℤ d → a +ℤ b ≡ (a +ℤ c) +ℤ d
    regroup a b c d e = omega (arith, ints)

-- the beginning of a list keeps the cap where the list does
pub beginning_keeps : (window cap : ℤ) (h k : List (ℤ × ℤ)) → pos 0 ≤ℤ window → KeepsCap window cap (h ++ k) → KeepsCap window cap h
beginning_keeps window cap h k w keeps t = shorter (minutes_after (h ++ k) (t -ℤ window)) (minutes_after (h ++ k) t) (minutes_after h (t -ℤ window)) (minutes_after h t)
    (minutes_after k (t -ℤ window)) (minutes_after k t) cap
    (after_append_all h k (t -ℤ window)) (after_append_all h k t) (after_falls k (t -ℤ window) t (omega (arith, ints))) (keeps t)
  where
    shorter : (a b c d m n k : ℤ) → a ≡ c +ℤ m → b ≡ d +ℤ n → n ≤ℤ m → (a -ℤ b) ≤ℤ k → (c -ℤ d) ≤ℤ k
    shorter a b c d m n k h1 h2 h3 h4 = omega (arith, ints)

module _ (window cap : ℤ) (w : pos 0 ≤ℤ window) (c : pos 0 ≤ℤ cap) where
  module _ (h : List (ℤ × ℤ)) (e : ℤ) (p : ℤ × ℤ) (i : IsHistory h) (ends : EndsBefore h (e +ℤ pos 1)) (later : e <ℤ p.0) (nonempty : p.0 <ℤ p.1) (keeps : KeepsCap window cap h) where
    before : EndsBefore h p.0
    before = ends_sooner h e p.0 ends later

    same : grown window (cut (e -ℤ window) h) p ≡ grown window h p
    same = cut_grows_the_same window (e -ℤ window) h p i before (ends_before_cut (e -ℤ window) h p.0 before) nonempty (omega (arith, ints))

    comes_after : follows (cut (e -ℤ window) h) p ≡ true
    comes_after = (follows_decides (cut (e -ℤ window) h) p (cut_history (e -ℤ window) h i)).1 (ends_before_cut (e -ℤ window) h p.0 before) nonempty

    in_window : minutes_after (grown window (cut (e -ℤ window) h) p) (p.1 -ℤ window) ≡ minutes_after (h ++ p ∷ []) (p.1 -ℤ window)
    in_window = ap (λ z. minutes_after z (p.1 -ℤ window)) same ∙ grown_has_all window h p

    boards : KeepsCap window cap (h ++ p ∷ []) → boarded_history window cap (cut (e -ℤ window) h) p ≡ Some (grown window h p)
    boards longer =
        let last = ((last_window_suffices window cap h p i before nonempty w c).0 longer).1 in
        let fits = le_yes (minutes_after (grown window (cut (e -ℤ window) h) p) (p.1 -ℤ window)) cap (subst (λ z. z ≤ℤ cap) (sym in_window) last) in
        let may = and_from (follows (cut (e -ℤ window) h) p) (fits_window window cap (cut (e -ℤ window) h) p) comes_after fits in
        ap (λ b. cond b (Some (grown window (cut (e -ℤ window) h) p)) None) may ∙ ap (λ z. Some z) same

    boarded : (z : List (ℤ × ℤ)) → boarded_history window cap (cut (e -ℤ window) h) p ≡ Some z → KeepsCap window cap (h ++ p ∷ []) × (z ≡ grown window h p)
    boarded z b =
        let k = out (may_board window cap (cut (e -ℤ window) h) p) (grown window (cut (e -ℤ window) h) p) z b in
        let f = and_parts (follows (cut (e -ℤ window) h) p) (fits_window window cap (cut (e -ℤ window) h) p) k.0 in
        let last = subst (λ z. z ≤ℤ cap) in_window (le_is (minutes_after (grown window (cut (e -ℤ window) h) p) (p.1 -ℤ window)) cap f.1) in
        ((last_window_suffices window cap h p i before nonempty w c).1 keeps last, sym k.1 ∙ same)
      where
        out : {A : Type 0} (b : Bool) (a z : A) → cond b (Some a) None ≡ Some z → (b ≡ true) × (a ≡ z)
        out true a z e = (refl, let q : a ≡ z = (cc) in q)
        out false a z e = absurd (let q : ⊥ = (cc) in q)

  -- where each window keeps the cap there is a history, of what lies in the last window
  pub history_there : (ps h : List (ℤ × ℤ)) (e : ℤ) → IsHistory h → EndsBefore h (e +ℤ pos 1) → IsAfter e ps → KeepsCap window cap (h ++ ps)
      → history_from window cap (cut (e -ℤ window) h) ps ≡ Some (cut (last_end e ps -ℤ window) (h ++ ps))
  history_there [] h e i ends after keeps = ap (λ z. Some (cut (e -ℤ window) z)) (sym (append-nil h))
  history_there (p ∷ ps) h e i ends after keeps =
      let longer : KeepsCap window cap ((h ++ p ∷ []) ++ ps) = subst (KeepsCap window cap) (sym (append_assoc h (p ∷ []) ps)) keeps in
      let one = beginning_keeps window cap (h ++ p ∷ []) ps w longer in
      let now = beginning_keeps window cap h (p ∷ ps) w keeps in
      let ended = ends_sooner h e p.0 ends after.0 in
      ap (option_and_then (λ z. history_from window cap z ps)) (boards h e p i ends after.0 after.1 now one)
      ∙ (history_there ps (h ++ p ∷ []) p.1 (append_history h p i ended after.1) (ends_append h p ended after.1) after.2 longer
      ∙ ap (λ z. Some (cut (last_end p.1 ps -ℤ window) z)) (append_assoc h (p ∷ []) ps))

  -- and nowhere else
  pub history_keeps : (ps h : List (ℤ × ℤ)) (e : ℤ) (z : List (ℤ × ℤ)) → IsHistory h → EndsBefore h (e +ℤ pos 1) → IsAfter e ps → KeepsCap window cap h
      → history_from window cap (cut (e -ℤ window) h) ps ≡ Some z → KeepsCap window cap (h ++ ps)
  history_keeps [] h e z i ends after keeps there = subst (KeepsCap window cap) (sym (append-nil h)) keeps
  history_keeps (p ∷ ps) h e z i ends after keeps there =
      let k = and_then_out (λ z. history_from window cap z ps) (boarded_history window cap (cut (e -ℤ window) h) p) z there in
      let b = boarded h e p i ends after.0 after.1 keeps k.0 k.1 in
      let ended = ends_sooner h e p.0 ends after.0 in
      subst (KeepsCap window cap) (append_assoc h (p ∷ []) ps)
      (history_keeps ps (h ++ p ∷ []) p.1 z (append_history h p i ended after.1) (ends_append h p ended after.1) after.2 b.0
      (ap (λ y. history_from window cap y ps) (sym b.1) ∙ k.2))

  nothing_keeps : KeepsCap window cap []
  nothing_keeps t = none cap c
    where
      none : (m : ℤ) → pos 0 ≤ℤ m → (pos 0 -ℤ pos 0) ≤ℤ m
      none m h = omega (arith, ints)

  -- the history of a whole list: none where some window passes the cap, else what lies in the last window
  pub history_of_list : (p : ℤ × ℤ) (ps : List (ℤ × ℤ)) → IsHistory (p ∷ ps)
      → (KeepsCap window cap (p ∷ ps) → history_from window cap [] (p ∷ ps) ≡ Some (cut (last_end p.1 ps -ℤ window) (p ∷ ps)))
      × ((z : List (ℤ × ℤ)) → history_from window cap [] (p ∷ ps) ≡ Some z → KeepsCap window cap (p ∷ ps))
  history_of_list p ps i =
      let start : (p.0 -ℤ pos 1) <ℤ p.0 = omega (arith, ints) in (
        λ keeps. history_there (p ∷ ps) [] (p.0 -ℤ pos 1) tt tt (start, i.0, i.1) keeps,
        λ z there. history_keeps (p ∷ ps) [] (p.0 -ℤ pos 1) z tt tt (start, i.0, i.1) nothing_keeps there,
      )
