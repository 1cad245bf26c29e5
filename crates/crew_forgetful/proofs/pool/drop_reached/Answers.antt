use Rattle.std.proofs.Common.{rules, not, ℕ}
use Rattle.std.specs.Prelude.{nat_le}
use Rattle.std.proofs.lemmas.Fn.{filter_same}
use Rattle.crew_forgetful.specs.Forgetful.{stands}
use Rattle.crew_forgetful.proofs.pool.drop_reached.Goals as goal

pub returns : goal.returns
returns g c =
    let Entry = g.row.R-Value.Denot × ℕ in
    let test = λ (e : Entry). not (stands g.R.Resource.below g.R.Forgets.same_sums nat_le c.args.value.now c.args.walk e.0 e.1) in
    filter_same _ test _ (λ x b f' k. search rules) _ _ c.retain.ensures.filtered
