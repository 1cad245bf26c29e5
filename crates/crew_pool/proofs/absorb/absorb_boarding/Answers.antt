use Rattle.std.proofs.Common.{◌≡◌, ℕ, ◌++◌, List, map, false, sym, ◌∙◌, ap, subst, ⊎_elim}
use Rattle.crew_resource.specs.Members.{Member}
use Rattle.crew_pool.specs.Apart.{AreApart}
use Rattle.crew_pool.specs.Counted.{boarded_labels}
use Rattle.crew_pool.specs.Machinery.Meets.{vectors_of}
use Rattle.crew_pool.specs.LabelWalks.{IsPoolOf, shown}
use Rattle.crew_pool.specs.declared.label_walk.LabelWalk.{LabelWalk}
use Rattle.crew_pool.proofs.BoardLemmas.{boarded_counted, counted_alike, is_rank, shown_boarded}
use Rattle.crew_pool.proofs.absorb.absorb_boarding.Goals as goal

pub new-requires-clause-whole : goal.new-requires-clause-whole
new-requires-clause-whole g c l m = (c.requires.list_counts l m).stands

pub merge_entries-requires-clause-list : goal.merge_entries-requires-clause-list
merge_entries-requires-clause-list g c = subst (λ (es : List (g.row.R-Value.Denot × LabelWalk)). AreApart g.R.Resource.below (vectors_of es)) (sym c.iter-entries.ensures.all) c.iter-entries.ensures.apart

pub merge_entries-requires-clause-between : goal.merge_entries-requires-clause-between
merge_entries-requires-clause-between g c a b m n e =
    let board = λ (v : g.row.R-Value.Denot). g.R.Staged.boards c.args.resource.now v c.args.item.now in
    let items : c.iter-entries.result ≡ boarded_labels board c.args.duty c.args.list.now = c.iter-entries.ensures.all ∙ c.new.ensures.labels in
    let count = g.R.Staged.count_of c.args.resource.now in
    let ws = c.args.walks.now in
    let law = g.met.R.Staged.counting c.args.resource.now c.requires.counting.0 c.requires.counting.1 in
    let rank = is_rank c.args.duty c.requires.duty in
    let counted = boarded_counted count ws board c.args.duty rank (λ v z e. law.one_more v z c.args.item.now e) c.args.list.now c.requires.list_counts in
    counted_alike count ws false a b (c.requires.pool_counts a (subst (λ (es : List (g.row.R-Value.Denot × LabelWalk)). Member es a) c.pool.view_is m)) (counted b (subst (λ (es : List (g.row.R-Value.Denot × LabelWalk)). Member es b) items n)) e

pub merge_entries-requires-clause-within : goal.merge_entries-requires-clause-within
merge_entries-requires-clause-within g c a b m n e =
    let board = λ (v : g.row.R-Value.Denot). g.R.Staged.boards c.args.resource.now v c.args.item.now in
    let items : c.iter-entries.result ≡ boarded_labels board c.args.duty c.args.list.now = c.iter-entries.ensures.all ∙ c.new.ensures.labels in
    let count = g.R.Staged.count_of c.args.resource.now in
    let ws = c.args.walks.now in
    let law = g.met.R.Staged.counting c.args.resource.now c.requires.counting.0 c.requires.counting.1 in
    let rank = is_rank c.args.duty c.requires.duty in
    let counted = boarded_counted count ws board c.args.duty rank (λ v z e. law.one_more v z c.args.item.now e) c.args.list.now c.requires.list_counts in
    counted_alike count ws false a b (counted a (subst (λ (es : List (g.row.R-Value.Denot × LabelWalk)). Member es a) items m)) (counted b (subst (λ (es : List (g.row.R-Value.Denot × LabelWalk)). Member es b) items n)) e

pub returns-clause-local : goal.returns-clause-local
returns-clause-local g c cs h =
    let board = λ (v : g.row.R-Value.Denot). g.R.Staged.boards c.args.resource.now v c.args.item.now in
    let items : c.iter-entries.result ≡ boarded_labels board c.args.duty c.args.list.now = c.iter-entries.ensures.all ∙ c.new.ensures.labels in
    let count = g.R.Staged.count_of c.args.resource.now in
    let ws = c.args.walks.now in
    let law = g.met.R.Staged.counting c.args.resource.now c.requires.counting.0 c.requires.counting.1 in
    let rank = is_rank c.args.duty c.requires.duty in
    let counted = boarded_counted count ws board c.args.duty rank (λ v z e. law.one_more v z c.args.item.now e) c.args.list.now c.requires.list_counts in
    subst (λ (es : List (g.row.R-Value.Denot × List ℕ)). IsPoolOf g.R.Resource.below (cs ++ es) (map (shown ws) c.merge_entries.new.labels))
    (ap (map (shown ws)) items ∙ shown_boarded ws board c.args.duty rank c.args.list.now (λ l m. (c.requires.list_counts l m).stands))
    (c.in_ok-merge_entries.ensures.local cs (subst (λ (es : List (g.row.R-Value.Denot × LabelWalk)). IsPoolOf g.R.Resource.below cs (map (shown ws) es)) (sym c.pool.view_is) h))

pub returns-clause-counts : goal.returns-clause-counts
returns-clause-counts g c l m =
    let board = λ (v : g.row.R-Value.Denot). g.R.Staged.boards c.args.resource.now v c.args.item.now in
    let items : c.iter-entries.result ≡ boarded_labels board c.args.duty c.args.list.now = c.iter-entries.ensures.all ∙ c.new.ensures.labels in
    let count = g.R.Staged.count_of c.args.resource.now in
    let ws = c.args.walks.now in
    let law = g.met.R.Staged.counting c.args.resource.now c.requires.counting.0 c.requires.counting.1 in
    let rank = is_rank c.args.duty c.requires.duty in
    let counted = boarded_counted count ws board c.args.duty rank (λ v z e. law.one_more v z c.args.item.now e) c.args.list.now c.requires.list_counts in
    ⊎_elim (λ p. c.requires.pool_counts l (subst (λ (es : List (g.row.R-Value.Denot × LabelWalk)). Member es l) c.pool.view_is p)) (λ q. counted l (subst (λ (es : List (g.row.R-Value.Denot × LabelWalk)). Member es l) items q)) (c.merge_entries.ensures.from l m)
