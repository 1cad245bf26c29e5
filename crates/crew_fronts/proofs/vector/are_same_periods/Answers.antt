use Rattle.std.proofs.Common.{◌≡◌, ◌∙◌, ◌&&◌, ℤ, ap, sym, refl}
use Rattle.std.proofs.lemmas.Bool.{and_from, and_parts}
use Rattle.std.specs.Ordering.{int_eq}
use Rattle.std.proofs.lemmas.Bool.Decides.{Decides-eqb, Decides-int_eq}
use Rattle.std.proofs.lemmas.Slice.Eq.{slice_eq-Decides}
use Rattle.std.specs.Bool.{Decides}
use Rattle.crew_pass.specs.crew_history.HistoryValues.{periods_of}
use Rattle.crew_pass.specs.crew_history.declared.history.History.{History}
use Rattle.crew_pass.proofs.crew_history_lemmas.FixedHistories.{same_fields, same_value}
use Rattle.crew_fronts.proofs.vector.are_same_periods.Goals as goal

pair-decides : (p q : ℤ × ℤ) → Decides (int_eq p.0 q.0 && int_eq p.1 q.1) (p ≡ q)
pair-decides p q = (
  λ t. let k = and_parts _ _ t in ap (λ z. (z, p.1)) ((Decides-int_eq p.0 q.0).0 k.0) ∙ ap (λ z. (q.0, z)) ((Decides-int_eq p.1 q.1).0 k.1),
  λ e. and_from _ _ ((Decides-int_eq p.0 q.0).1 (ap (λ z. z.0) e)) ((Decides-int_eq p.1 q.1).1 (ap (λ z. z.1) e)),
)

pub returns : goal.returns
returns c =
    let a = c.args.one.now in
    let b = c.args.other.now in
    let arrays = slice_eq-Decides pair-decides a.periods b.periods _ refl in (
      λ t. let k = and_parts _ _ (sym c.eq.ensures ∙ t) in ap periods_of (same_fields a b (arrays.0 k.0) ((Decides-eqb a.len b.len).0 k.1)),
      λ e.
          let same = same_value a b e in
          c.eq.ensures ∙ and_from _ _ (arrays.1 (ap (λ (h : History). h.periods) same)) ((Decides-eqb a.len b.len).1 (ap (λ (h : History). h.len) same)),
    )
