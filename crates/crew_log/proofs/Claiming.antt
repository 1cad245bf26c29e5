-- A claim keeps the rule of the history, and what is claimed stays so.
use Rattle.std.proofs.Common.{◌≡◌, ◌≢◌, ℕ, ◌+◌, ◌<◌, ◌≤◌, ◌==◌, ◌&&◌, cond, Bool, length-append, true, false, List, [], ◌∷◌, ◌++◌, length, slice_index_or, slice_set, replicate, Option, Some, None, refl, ap, sym, ◌∙◌, subst, inl, ⊎_elim, arith}
use Rattle.std.proofs.lemmas.Bool.Decides.{eqb_tells, nat_tests}
use Rattle.std.proofs.lemmas.List.{get_or-set_same, get_or-set_other, append-nil, length-set, get_or-replicate, length-replicate}
use Rattle.std.proofs.Math.ListN.{get_or-append}
use Rattle.std.proofs.Math.Seq.{get_or-append_seam}
use Rattle.std.proofs.Math.Nat.{eq-or-lt_of_le}
use mathlib.Core.List.{IsPrefix}
use prog.Atomic.{either}
use Rattle.logbook.specs.Pages.{Cell, cell, keeps, no_nib, step, Moves, Goes, View, Book, Named}
use Rattle.crew_log.specs.declared.rights.Claim.{Claim}
use Rattle.crew_log.specs.Machinery.Rights.{AllBelow, AreCounters, Claimed, IsKept, counter_of, place_of}

-- a counter that rises is above what it was above
cell_more : (cs : List Cell) (k m j n : ℕ) → k < length cs → (cell cs k).0 ≤ m → n < (cell cs j).0 → n < (cell (slice_set cs k (m, true)) j).0
cell_more cs k m j n l le h =
    ⊎_elim
    (λ (t : ((j == k) ≡ true) × (j ≡ k)).
    let here : cell cs j ≡ cell cs k = ap (cell cs) t.1 in
    let there : cell (slice_set cs k (m, true)) j ≡ (m, true) = ap (cell (slice_set cs k (m, true))) t.1 ∙ get_or-set_same cs k (m, true) (0, false) l in
    omega (arith, le, h, ap (λ (c : Cell). c.0) here, ap (λ (c : Cell). c.0) there))
    (λ (t : ((j == k) ≡ false) × (j ≢ k)). subst (λ (c : Cell). n < c.0) (sym (get_or-set_other cs k j (m, true) (0, false) t.1)) h)
    (eqb_tells j k)

below_more : (cs : List Cell) (k m : ℕ) (log : List Claim) → k < length cs → (cell cs k).0 ≤ m → AllBelow cs log → AllBelow (slice_set cs k (m, true)) log
below_more cs k m [] l le h = tt
below_more cs k m (c ∷ log) l le h = (cell_more cs k m c.seat c.number l le h.0, below_more cs k m log l le h.1)

below_push : (cs : List Cell) (c : Claim) (log : List Claim) → AllBelow cs log → c.number < (cell cs c.seat).0 → AllBelow cs (log ++ c ∷ [])
below_push cs c [] h l = (l, tt)
below_push cs c (d ∷ log) h l = (h.0, below_push cs c log h.1 l)

home_more : (cs : List Cell) (k m j : ℕ) → k < length cs → (cell cs j).1 ≡ true → (cell (slice_set cs k (m, true)) j).1 ≡ true
home_more cs k m j l h =
    ⊎_elim
    (λ (t : ((j == k) ≡ true) × (j ≡ k)). ap (λ (c : Cell). c.1) (ap (cell (slice_set cs k (m, true))) t.1 ∙ get_or-set_same cs k (m, true) (0, false) l))
    (λ (t : ((j == k) ≡ false) × (j ≢ k)). ap (λ (c : Cell). c.1) (get_or-set_other cs k j (m, true) (0, false) t.1) ∙ h)
    (eqb_tells j k)

kept_more : (cs : List Cell) (k m : ℕ) (log : List Claim) → IsKept cs log → k < 64 → (cell cs k).0 ≤ m → IsKept (slice_set cs k (m, true)) log
kept_more cs k m log kept l le =
    let l' : k < length cs = subst (λ n. k < n) (sym kept.wide) l in
    record { wide = length-set cs k (m, true) ∙ kept.wide; home = (λ seat s. home_more cs k m seat l' (kept.home seat s)); below = below_more cs k m log l' le kept.below }

-- what is below the counter's number isn't claimed
fresh : (cs : List Cell) (log : List Claim) (seat number : ℕ) → AllBelow cs log → (cell cs seat).0 ≤ number → place_of log seat number ≡ None
fresh cs [] seat number h le = refl
fresh cs (c ∷ log) seat number h le =
    let rest = fresh cs log seat number h.1 le in
    ⊎_elim
    (λ (t : ((c.seat == seat) ≡ true) × (c.seat ≡ seat)).
    let less : c.number < (cell cs seat).0 = subst (λ s. c.number < (cell cs s).0) t.1 h.0 in
    ⊎_elim
    (λ (u : ((c.number == number) ≡ true) × (c.number ≡ number)). absurd (omega (arith, u.1, less, le)))
    (λ (u : ((c.number == number) ≡ false) × (c.number ≢ number)). rw (t.0, u.0) rest)
    (eqb_tells c.number number))
    (λ (t : ((c.seat == seat) ≡ false) × (c.seat ≢ seat)). rw t.0 rest)
    (eqb_tells c.seat seat)

-- a choice that gives nothing is of the second
two : (b : Bool) (place old new : Option ℕ) (wanted : Option ℕ) → cond b place old ≡ None → (old ≡ None → new ≡ wanted) → (b ≡ true → place ≡ None → ⊥) → cond b place new ≡ wanted
two true place old new wanted h f g = absurd (g refl h)
two false place old new wanted h f g = f h

claimed : (log : List Claim) (c : Claim) → place_of log c.seat c.number ≡ None → place_of (log ++ c ∷ []) c.seat c.number ≡ Some c.place
claimed [] c h = grind (arith, nat_tests)
claimed (d ∷ log) c h =
    two ((d.seat == c.seat) && (d.number == c.number)) (Some d.place) (place_of log c.seat c.number) (place_of (log ++ c ∷ []) c.seat c.number) (Some c.place) h (λ none. claimed log c none) (λ _ e. cc e)

same_side : (b : Bool) (place old new wanted : Option ℕ) → cond b place old ≡ wanted → (old ≡ wanted → new ≡ wanted) → cond b place new ≡ wanted
same_side true place old new wanted h f = h
same_side false place old new wanted h f = f h

place_more : (xs ys : List Claim) (seat number place : ℕ) → place_of xs seat number ≡ Some place → place_of (xs ++ ys) seat number ≡ Some place
place_more [] ys seat number place h = absurd cc
place_more (c ∷ xs) ys seat number place h =
    same_side ((c.seat == seat) && (c.number == number)) (Some c.place) (place_of xs seat number) (place_of (xs ++ ys) seat number) (Some place) h (place_more xs ys seat number place)

abbrev pub shown : List Claim → List Claim
shown log = []

abbrev pub moved : List Claim → List Claim → ℕ → Type 0
moved xs ys n = Unit {0}

-- a place is claimed for the number that a seat's counter is at
kept_push : (cs : List Cell) (c : Claim) (log : List Claim) → IsKept cs log → c.seat < 64 → (cell cs c.seat).0 ≡ c.number → IsKept (slice_set cs c.seat (c.number + 1, true)) (log ++ c ∷ [])
kept_push cs c log kept l at =
    let more = kept_more cs c.seat (c.number + 1) log kept l (omega (arith, at)) in
    let l' : c.seat < length cs = subst (λ n. c.seat < n) (sym kept.wide) l in
    let there : cell (slice_set cs c.seat (c.number + 1, true)) c.seat ≡ (c.number + 1, true) = get_or-set_same cs c.seat (c.number + 1, true) (0, false) l' in
    record { wide = more.wide; home = more.home; below = below_push (slice_set cs c.seat (c.number + 1, true)) c log more.below (omega (arith, ap (λ (x : Cell). x.0) there)) }

claims_goes : (v log : List Claim) (cs : List Cell) (c : Claim) → IsKept cs log → c.seat < 64 → (b : Bool) → ((cell cs c.seat).0 == c.number) ≡ b
    → Goes IsKept shown moved c.seat (v, (no_nib, None)) (λ n. either (n == c.number) (c.number + 1) n) (Claimed (step c.seat c.number (c.number + 1) c) (v, (no_nib, None))) cs log
claims_goes v log cs c kept l true is =
    let at : (cell cs c.seat).0 ≡ c.number = grind (arith, nat_tests) in
    let n : either ((cell cs c.seat).0 == c.number) (c.number + 1) (cell cs c.seat).0 ≡ c.number + 1 = rw is refl in (
      keeps,
      c ∷ [],
      None,
      tt,
      subst (λ (m : ℕ). IsKept (slice_set cs c.seat (m, true)) (log ++ c ∷ [])) (sym n) (kept_push cs c log kept l at),
      inl (refl, refl),
      rw is (claimed log c (fresh cs log c.seat c.number kept.below (omega (arith, at)))),
    )
claims_goes v log cs c kept l false is =
    let n : either ((cell cs c.seat).0 == c.number) (c.number + 1) (cell cs c.seat).0 ≡ (cell cs c.seat).0 = rw is refl in
    let all : log ++ [] ≡ log = append-nil log in (
      keeps,
      [],
      None,
      tt,
      subst (λ (m : ℕ). IsKept (slice_set cs c.seat (m, true)) (log ++ [])) (sym n) (subst (λ (ls : List Claim). IsKept (slice_set cs c.seat ((cell cs c.seat).0, true)) ls) (sym all) (kept_more cs c.seat (cell cs c.seat).0 log kept l (omega arith))),
      inl (refl, refl),
      rw is tt,
    )

pub claims_moves : (v : List Claim) (c : Claim) → c.seat < 64
    → Moves IsKept shown moved c.seat (v, (no_nib, None)) (λ n. either (n == c.number) (c.number + 1) n) (Claimed (step c.seat c.number (c.number + 1) c) (v, (no_nib, None)))
claims_moves v c l cs log kept pre away =
    (subst (λ n. c.seat < n) (sym kept.wide) l, kept.home c.seat l, claims_goes v log cs c kept l ((cell cs c.seat).0 == c.number) refl)

-- a look changes nothing
pub looks_moves : (v : List Claim) (seat : ℕ) (then : ℕ → View Claim ℕ → Type 0) → ((n : ℕ) (w : View Claim ℕ) → then n w) → seat < 64
    → Moves IsKept shown moved seat (v, (no_nib, None)) (λ n. n) then
looks_moves v seat then any l cs log kept pre away =
    let all : log ++ [] ≡ log = append-nil log in (
      subst (λ n. seat < n) (sym kept.wide) l,
      kept.home seat l,
      (
        keeps,
        [],
        None,
        tt,
        subst (λ (ls : List Claim). IsKept (slice_set cs seat ((cell cs seat).0, true)) ls) (sym all) (kept_more cs seat (cell cs seat).0 log kept l (omega arith)),
        inl (refl, refl),
        any (cell cs seat).0 (log ++ [], (no_nib, None)),
      ),
    )

-- counters of seats that have claimed nothing
pub kept_new : (n : ℕ) → n ≡ 64 → IsKept (replicate n (0, true)) []
kept_new n is =
    record {
      wide = length-replicate n (0, true) ∙ is;
      home = (λ seat l. ap (λ (c : Cell). c.1) (get_or-replicate n seat (0, true) (0, false) (omega (arith, is, l))));
      below = tt;
    }

pub counters_push : (book : Book) (n : ℕ) (ws : List Named) (w : Named) → AreCounters book n ws → w ≡ counter_of book n → AreCounters book (n + 1) (ws ++ w ∷ [])
counters_push book n ws w h is = (
  omega (arith, h.0, length-append ws (w ∷ [])),
  λ seat d l. ⊎_elim
      (λ (t : seat ≡ n). ap (λ k. slice_index_or (ws ++ w ∷ []) k d) (t ∙ sym h.0) ∙ (get_or-append_seam ws w [] d ∙ (is ∙ ap (counter_of book) (sym t))))
      (λ (t : seat < n). get_or-append ws (w ∷ []) d seat (omega (arith, t, h.0)) ∙ h.1 seat d t)
      (eq-or-lt_of_le {n = seat} {m = n} (omega (arith, l))),
)

place_after : (xs all : List Claim) (seat number place : ℕ) → IsPrefix xs all → place_of xs seat number ≡ Some place → place_of all seat number ≡ Some place
place_after xs all seat number place p h = subst (λ (ls : List Claim). place_of ls seat number ≡ Some place) p.1 (place_more xs p.0 seat number place h)

-- by two beginnings of one history a number of a seat has one place
pub one_place : (all xs ys : List Claim) (seat number other_seat other_number place other : ℕ) → IsPrefix xs all → IsPrefix ys all → seat ≡ other_seat → number ≡ other_number
    → place_of xs seat number ≡ Some place → place_of ys other_seat other_number ≡ Some other → place ≡ other
one_place all xs ys seat number other_seat other_number place other p q s n h k =
    let one = place_after xs all seat number place p h in
    let two = place_after ys all other_seat other_number other q k in
    let same : place_of all seat number ≡ place_of all other_seat other_number = ap (place_of all seat) n ∙ ap (λ t. place_of all t other_number) s in
    cc (one, two, same)
