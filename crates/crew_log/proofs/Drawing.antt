-- A draw keeps the rule of the history of draws, and takes the place right after those drawn before.
use Rattle.std.proofs.Common.{◌≡◌, ℕ, suc, ◌+◌, ◌<◌, ◌==◌, Bool, true, false, List, [], ◌∷◌, ◌++◌, length, slice_set, replicate, None, refl, ap, sym, ◌∙◌, subst, inl, arith}
use Rattle.std.proofs.lemmas.Bool.Decides.{nat_tests}
use Rattle.std.proofs.lemmas.List.{get_or-set_same, append-nil, length-set}
use prog.Atomic.{either}
use Rattle.logbook.specs.Pages.{Cell, cell, keeps, no_nib, step, Moves, Goes, View}
use Rattle.crew_log.specs.Machinery.Draws.{AreDrawn, Drew, first_places}

abbrev pub shown : List ℕ → List ℕ
shown log = []

abbrev pub moved : List ℕ → List ℕ → ℕ → Type 0
moved xs ys n = Unit {0}

one_more : (n m : ℕ) (log : List ℕ) → log ≡ first_places n → n ≡ m → log ++ m ∷ [] ≡ first_places (m + 1)
one_more n m log h e =
    let last : first_places m ++ m ∷ [] ≡ first_places (suc m) = refl in
    let next : suc m ≡ m + 1 = omega arith in
    ap (λ xs. xs ++ m ∷ []) (h ∙ ap first_places e) ∙ (last ∙ ap first_places next)

set_to : (cs : List Cell) (m : ℕ) (log : List ℕ) → length cs ≡ 1 → log ≡ first_places m → AreDrawn (slice_set cs 0 (m, true)) log
set_to cs m log wide h =
    let l : 0 < length cs = subst (λ n. 0 < n) (sym wide) (omega arith) in
    let there : cell (slice_set cs 0 (m, true)) 0 ≡ (m, true) = get_or-set_same cs 0 (m, true) (0, false) l in
    record {
      wide = length-set cs 0 (m, true) ∙ wide;
      home = ap (λ (c : Cell). c.1) there;
      drawn = h ∙ ap first_places (sym (ap (λ (c : Cell). c.0) there));
    }

draws_goes : (v log : List ℕ) (cs : List Cell) (place : ℕ) → AreDrawn cs log → (b : Bool) → ((cell cs 0).0 == place) ≡ b
    → Goes AreDrawn shown moved 0 (v, (no_nib, None)) (λ n. either (n == place) (place + 1) n) (Drew (step 0 place (place + 1) place) (v, (no_nib, None))) cs log
draws_goes v log cs place kept true is =
    let at : (cell cs 0).0 ≡ place = grind (arith, nat_tests) in
    let n : either ((cell cs 0).0 == place) (place + 1) (cell cs 0).0 ≡ place + 1 = rw is refl in
    let more = one_more (cell cs 0).0 place log kept.drawn at in (
      keeps,
      place ∷ [],
      None,
      tt,
      subst (λ (m : ℕ). AreDrawn (slice_set cs 0 (m, true)) (log ++ place ∷ [])) (sym n) (set_to cs (place + 1) (log ++ place ∷ []) kept.wide more),
      inl (refl, refl),
      rw is more,
    )
draws_goes v log cs place kept false is =
    let n : either ((cell cs 0).0 == place) (place + 1) (cell cs 0).0 ≡ (cell cs 0).0 = rw is refl in
    let all : log ++ [] ≡ log = append-nil log in (
      keeps,
      [],
      None,
      tt,
      subst (λ (m : ℕ). AreDrawn (slice_set cs 0 (m, true)) (log ++ [])) (sym n) (subst (λ (ls : List ℕ). AreDrawn (slice_set cs 0 ((cell cs 0).0, true)) ls) (sym all) (set_to cs (cell cs 0).0 log kept.wide kept.drawn)),
      inl (refl, refl),
      rw is tt,
    )

pub draws_moves : (v : List ℕ) (place : ℕ)
    → Moves AreDrawn shown moved 0 (v, (no_nib, None)) (λ n. either (n == place) (place + 1) n) (Drew (step 0 place (place + 1) place) (v, (no_nib, None)))
draws_moves v place cs log kept pre away =
    (subst (λ n. 0 < n) (sym kept.wide) (omega arith), kept.home, draws_goes v log cs place kept ((cell cs 0).0 == place) refl)

-- a look changes nothing
pub looks_moves : (v : List ℕ) (then : ℕ → View ℕ ℕ → Type 0) → ((n : ℕ) (w : View ℕ ℕ) → then n w) → Moves AreDrawn shown moved 0 (v, (no_nib, None)) (λ n. n) then
looks_moves v then any cs log kept pre away =
    let all : log ++ [] ≡ log = append-nil log in (
      subst (λ n. 0 < n) (sym kept.wide) (omega arith),
      kept.home,
      (
        keeps,
        [],
        None,
        tt,
        subst (λ (ls : List ℕ). AreDrawn (slice_set cs 0 ((cell cs 0).0, true)) ls) (sym all) (set_to cs (cell cs 0).0 log kept.wide kept.drawn),
        inl (refl, refl),
        any (cell cs 0).0 (log ++ [], (no_nib, None)),
      ),
    )

-- a counter of which nothing is drawn
pub kept_new : AreDrawn (replicate 1 (0, true)) []
kept_new = record { wide = refl; home = refl; drawn = refl }
