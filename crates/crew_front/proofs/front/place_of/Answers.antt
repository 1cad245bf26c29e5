use Rattle.std.proofs.Common.{◌∙◌, ap, length}
use Rattle.std.specs.Prelude.{unwrap_or, slice_get}
use Rattle.std.specs.Ordering.{is_eq}
use Rattle.crew_front.proofs.EntryLemmas.{unwrap_or-position, place_there}
use Rattle.crew_front.proofs.front.place_of.Goals as goal

pub returns : goal.returns
returns g c =
    let es = c.args.entries.now in
    let v = c.args.value.now in
    let is = c.unwrap_or.ensures ∙ (ap (λ o. unwrap_or o (length es)) c.first_equal.ensures ∙ unwrap_or-position (λ e. is_eq (g.R.Value.Ord.cmp v e.0)) es) in
    let k = place_there g.R.Value.Ord.cmp g.R.Resource.below g.met.R.Value.Ord.total g.met.R.Resource.order es v es c.requires in
    (k.0, ap (slice_get es) is ∙ k.1)
