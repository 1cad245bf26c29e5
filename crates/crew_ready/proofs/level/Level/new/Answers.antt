use Rattle.std.proofs.Common.{◌∙◌, ap, subst, sym}
use Rattle.crew_ready.proofs.Rows.{empty-above, empty-flags, empty-row}
use Rattle.crew_ready.specs.Machinery.Words.{IsAbove, IsRow, flags_of}
use Rattle.crew_ready.proofs.level.Level.new.Goals as goal

pub invariant_of-result : goal.invariant_of-result
invariant_of-result c =
    let is = c.in_ok-words.ensures in
    let rows = c.rows_of-rows.result in (
      subst (IsRow c.args.count) (sym is) (empty-row c.args.count rows c.rows_of-rows.ensures.enough c.rows_of-rows.ensures.tight c.requires),
      subst (λ z. IsAbove z c.in_ok-above.above) (sym is) (c.in_ok-above.ensures ∙ empty-above rows),
    )

pub returns : goal.returns
returns c = ap (flags_of c.args.count) c.in_ok-words.ensures ∙ empty-flags c.args.count c.rows_of-rows.result
