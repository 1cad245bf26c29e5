use Rattle.std.proofs.Common.{◌∙◌, ap, subst, sym}
use Rattle.crew_ready.proofs.Rows.{empty-flags, empty-row}
use Rattle.crew_ready.specs.Machinery.Words.{IsRow, flags_of}
use Rattle.crew_ready.proofs.row.Row.new.Goals as goal

pub invariant_of-result : goal.invariant_of-result
invariant_of-result c = subst (IsRow c.args.count) (sym c.in_ok-words.ensures) (empty-row c.args.count c.rows_of.result c.rows_of.ensures.enough c.rows_of.ensures.tight c.requires)

pub returns : goal.returns
returns c = ap (flags_of c.args.count) c.in_ok-words.ensures ∙ empty-flags c.args.count c.rows_of.result
