use Rattle.std.proofs.Common.{◌∙◌, List, sym, subst}
use Rattle.std.specs.List.Sorted.{IsPermutation}
use Rattle.std.proofs.lemmas.List.Sorted.{IsPermutation-sym}
use Rattle.crew_label.specs.Pools.{ArePoolOf}
use Rattle.crew_label.specs.declared.label.Label.{Label}
use Rattle.crew_pool.proofs.Permuted.{Member-permuted}
use Rattle.crew_resource.specs.Members.{Member}
use Rattle.crew_room.proofs.Sorted.{pool-permuted}
use Rattle.crew_room.proofs.room.Room.sorted.Goals as goal

pub returns-clause-pool : goal.returns-clause-pool
returns-clause-pool g c same trail candidates h =
    let new = c.sort_labels.new.labels.items in
    let all = c.in_ok-labels.ensures ∙ (c.as_slice.ensures ∙ c.self.view_is) in
    subst (λ (ls : List (Label g.row.R-Value.Denot)). ArePoolOf g.R.Resource.below same trail candidates ls) (sym c.from_rising.ensures)
    (pool-permuted g.R.Resource.below same trail candidates c.args.self.now new
    (subst (λ (ls : List (Label g.row.R-Value.Denot)). IsPermutation ls new) all c.sort_labels.ensures.same) h)

pub returns-clause-from : goal.returns-clause-from
returns-clause-from g c l m =
    let new = c.sort_labels.new.labels.items in
    let all = c.in_ok-labels.ensures ∙ (c.as_slice.ensures ∙ c.self.view_is) in
    Member-permuted new c.args.self.now
    (IsPermutation-sym c.args.self.now new (subst (λ (ls : List (Label g.row.R-Value.Denot)). IsPermutation ls new) all c.sort_labels.ensures.same))
    l (subst (λ (ls : List (Label g.row.R-Value.Denot)). Member ls l) c.from_rising.ensures m)
