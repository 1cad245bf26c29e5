use Rattle.std.proofs.Common.{◌∙◌, ap, length}
use Rattle.std.specs.Prelude.{unwrap_or}
use Rattle.std.specs.Ordering.{is_lt}
use Rattle.crew_front.proofs.EntryLemmas.{unwrap_or-position}
use Rattle.crew_front.proofs.front.gap_for.Goals as goal

pub returns : goal.returns
returns g c =
    c.unwrap_or.ensures ∙ (ap (λ o. unwrap_or o (length c.args.entries.now)) c.first_after.ensures ∙ unwrap_or-position (λ e. is_lt (g.R.Value.Ord.cmp c.args.value.now e.0)) c.args.entries.now)
