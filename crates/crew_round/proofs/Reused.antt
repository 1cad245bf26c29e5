-- Nodes marked one after another: one more.
use Rattle.std.proofs.Common.{◌≡◌, ℕ, ◌<◌, true, List, [], ◌∷◌, ◌++◌, filter, get_or, length, slice_set, refl, ap, subst, arith}
use Rattle.std.proofs.lemmas.Option.{get_or_from_slice_get, slice_get_within}
use Rattle.crew_round.proofs.Tallies.{count-set}
use Rattle.crew_round.specs.Machinery.Cells.{is_undone, one_if}
use Rattle.crew_round.specs.Marks.{IsMarked, IsReusable, Marks, Reuses, marked}
use Rattle.crew_round.specs.declared.mark.Mark.{Mark}
use Rattle.crew_round.specs.declared.mark.Mark.TheVariants.{Done, Waiting}

pub reuses-more : (old : Marks) (places : List ℕ) (mid : Marks) (place : ℕ) → Reuses old places mid → IsReusable mid place → Reuses old (places ++ place ∷ []) (marked mid place true)
reuses-more old [] mid place e r = (subst (λ (z : Marks). IsReusable z place) e r, ap (λ (z : Marks). marked z place true) e)
reuses-more old (p ∷ places) mid place s r = (s.0, reuses-more (marked old p true) places mid place s.1 r)

-- a waiting node that is marked done leaves fewer undone
pub undone-less : (m : Marks) (place : ℕ) (next : Marks) → IsMarked m place Waiting → next ≡ marked m place true → length (filter is_undone next.marks) < length (filter is_undone m.marks)
undone-less m place next at e =
    let counted = count-set is_undone m.marks place Done Waiting (slice_get_within m.marks place Waiting at) in
    let was : one_if (is_undone (get_or m.marks place Waiting)) ≡ 1 = ap (λ (z : Mark). one_if (is_undone z)) (get_or_from_slice_get m.marks place Waiting Waiting at) in
    let is : one_if (is_undone Done) ≡ 0 = refl in
    let same : length (filter is_undone next.marks) ≡ length (filter is_undone (slice_set m.marks place Done)) = ap (λ (z : Marks). length (filter is_undone z.marks)) e in
    omega (arith, counted, was, is, same)
