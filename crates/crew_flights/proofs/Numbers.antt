-- Of each seat, the entries in turn are numbered in order.
use Rattle.std.proofs.Common.{◌≡◌, ◌<◌, ◌+◌, ◌∙◌, ℕ, Bool, true, false, cond, List, [], ◌∷◌, zero, suc, length, get_or, refl, sym, ap, subst, arith, zero-add}
use Rattle.std.specs.Prelude.{◌==◌, ◌&&◌, map}
use Rattle.std.specs.List.{filter}
use Rattle.crew_flights.specs.Fold.{is_in_turn, turns}
use Rattle.crew_flights.specs.Turns.{in_turn_after, AreNumberedInTurn}
use Rattle.crew_flights.specs.declared.entries.Entry.{Entry}

-- the numbers of a seat among entries
abbrev numbers : ℕ → List Entry → List ℕ
numbers seat es = map (λ e. e.number) (filter (λ e. e.seat == seat) es)

-- one number, and those that rise from the next
step : (n : ℕ) (rest : List ℕ) → ((k : ℕ) → k < length rest → get_or rest k 0 ≡ (n + 1) + k) → (k : ℕ) → k < length (n ∷ rest) → get_or (n ∷ rest) k 0 ≡ n + k
step n rest h zero below = omega arith
step n rest h (suc k) below = let i : k < length rest = omega arith in let e = h k i in omega (arith, e)

-- an entry in turn (a) of the seat (b) stands before the rest, where its number is the seat's count (c)
one_more : (a b c : Bool) (n t : ℕ) (rest : List ℕ) → (b ≡ true → a ≡ c) → (c ≡ true → n ≡ t) → ((k : ℕ) → k < length rest → get_or rest k 0 ≡ (t + cond (b && c) 1 0) + k) → (k : ℕ) → k < length (cond a (cond b (n ∷ rest) rest) rest) → get_or (cond a (cond b (n ∷ rest) rest) rest) k 0 ≡ t + k
one_more true true true n t rest same is h k below = step n rest (λ j i. let e = h j i in let q = is refl in omega (arith, e, q)) k below ∙ ap (λ x. x + k) (is refl)
one_more true true false n t rest same is h k below = absurd (let q = same refl in cc)
one_more true false c n t rest same is h k below = let e = h k below in omega (arith, e)
one_more false true true n t rest same is h k below = absurd (let q = same refl in cc)
one_more false true false n t rest same is h k below = let e = h k below in omega (arith, e)
one_more false false c n t rest same is h k below = let e = h k below in omega (arith, e)

same_numbers : (seat : ℕ) (a : Bool) (e : Entry) (later : List Entry) → numbers seat (cond a (e ∷ later) later) ≡ cond a (cond (e.seat == seat) (e.number ∷ numbers seat later) (numbers seat later)) (numbers seat later)
same_numbers seat false e later = refl
same_numbers seat true e later = elim (e.seat == seat) as (λ b. map (λ (x : Entry). x.number) (cond b (e ∷ filter (λ x. x.seat == seat) later) (filter (λ x. x.seat == seat) later)) ≡ cond b (e.number ∷ numbers seat later) (numbers seat later)) [ true ↦ refl | false ↦ refl ]

same_number : (m n : ℕ) → (m == n) ≡ true → m ≡ n
same_number m n h = grind arith

counted : (seat : ℕ) (earlier later : List Entry) (k : ℕ) → k < length (numbers seat (in_turn_after earlier later)) → get_or (numbers seat (in_turn_after earlier later)) k 0 ≡ turns earlier seat + k
counted seat earlier [] = λ k below. absurd (omega arith)
counted seat earlier (e ∷ later) =
    let rest = in_turn_after (e ∷ earlier) later in
    subst (λ ns. (k : ℕ) → k < length ns → get_or ns k 0 ≡ turns earlier seat + k) (sym (same_numbers seat (is_in_turn earlier e) e rest))
    (one_more (is_in_turn earlier e) (e.seat == seat) (e.number == turns earlier seat) e.number (turns earlier seat) (numbers seat rest)
    (λ h. ap (λ s. e.number == turns earlier s) (same_number e.seat seat h))
    (same_number e.number (turns earlier seat))
    (counted seat (e ∷ earlier) later))

pub numbered_in_turn : AreNumberedInTurn
numbered_in_turn entries seat k below = counted seat [] entries k below ∙ zero-add k
