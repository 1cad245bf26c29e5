use Rattle.std.specs.Ordering.{is_lt}
use Rattle.std.proofs.Common.{rules}
use Rattle.std.proofs.lemmas.List.Sorted.{answers_always, ranks_by}
use Rattle.crew_label.specs.declared.label.Label.{Label}
use Rattle.crew_room.proofs.Sorted.{apart-permuted, sorted-rises}
use Rattle.crew_room.proofs.copy.sort_labels.Goals as goal

pub returns-clause-rises : goal.returns-clause-rises
returns-clause-rises g c =
    let cmp = g.R.Value.Ord.cmp in
    let total = g.met.R.Value.Ord.total in
    let order = g.met.R.Resource.order in
    let new = c.sort_unstable_by.new.self.items in
    sorted-rises cmp g.R.Resource.below total order new
    (c.sort_unstable_by.ensures.sorted (λ (a b : Label g.row.R-Value.Denot). is_lt (cmp a.value b.value)) (ranks_by total (λ (l : Label g.row.R-Value.Denot). l.value)) (answers_always _ _ _ (λ f a r k h. search rules)))
    (apart-permuted cmp g.R.Resource.below total order c.args.labels.now.items new c.sort_unstable_by.ensures.permutation c.requires)
