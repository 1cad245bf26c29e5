-- As many cells are done, and out, as marks say.
use Rattle.std.proofs.Common.{◌≡◌, ◌∷◌, [], suc, Bool, true, false, cond, List, length, map, refl, ap}
use Rattle.std.specs.List.{filter}
use Rattle.crew_board.specs.Cells.{CrewCells, mark_of, marks_of}
use Rattle.crew_machine.specs.Crew.{DutyNode, Entries}
use Rattle.crew_machine.specs.Rounds as Rounds
use Rattle.crew_machine.specs.declared.rounds.Cell.{Cell}
use Rattle.crew_machine.specs.declared.rounds.Cell.TheVariants.{Waiting, Out, Done}
use Rattle.crew_round.specs.Marks as Marks

same-done : (c : Cell Entries) → Marks.is_done (mark_of c) ≡ Rounds.is_done c
same-done Waiting = refl
same-done Out = refl
same-done (Done f) = refl

same-out : (c : Cell Entries) → Marks.is_out (mark_of c) ≡ Rounds.is_out c
same-out Waiting = refl
same-out Out = refl
same-out (Done f) = refl

counted : {X Y : Type 0} (f : X → Y) (p : X → Bool) (q : Y → Bool) → ((x : X) → q (f x) ≡ p x) → (xs : List X) → length (filter q (map f xs)) ≡ length (filter p xs)
counted f p q h [] = refl
counted f p q h (x ∷ xs) = by (p x) (q (f x)) (h x) (counted f p q h xs)
  where
    by : (a b : Bool) → b ≡ a → length (filter q (map f xs)) ≡ length (filter p xs) → length (cond b (f x ∷ filter q (map f xs)) (filter q (map f xs))) ≡ length (cond a (x ∷ filter p xs) (filter p xs))
    by true true e r = ap suc r
    by true false e r = absurd (let z : ⊥ = (cc) in z)
    by false true e r = absurd (let z : ⊥ = (cc) in z)
    by false false e r = r

pub done-counted : (cells : CrewCells) → length (filter Marks.is_done (marks_of cells)) ≡ length (filter (λ (c : DutyNode × Cell Entries). Rounds.is_done c.1) cells)
done-counted cells = counted (λ (c : DutyNode × Cell Entries). mark_of c.1) (λ (c : DutyNode × Cell Entries). Rounds.is_done c.1) Marks.is_done (λ c. same-done c.1) cells

pub out-counted : (cells : CrewCells) → length (filter Marks.is_out (marks_of cells)) ≡ length (filter (λ (c : DutyNode × Cell Entries). Rounds.is_out c.1) cells)
out-counted cells = counted (λ (c : DutyNode × Cell Entries). mark_of c.1) (λ (c : DutyNode × Cell Entries). Rounds.is_out c.1) Marks.is_out (λ c. same-out c.1) cells
