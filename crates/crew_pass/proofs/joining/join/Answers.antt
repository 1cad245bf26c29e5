use Rattle.std.proofs.Common.{◌++◌, ℕ, List, sym, subst}
use Rattle.std.proofs.lemmas.Result.{on_ok_weaker}
use Rattle.crew_label.specs.Pools.{AreCounted, ArePoolOf}
use Rattle.crew_label.specs.Tables.{leads_in, trail_in}
use Rattle.crew_label.specs.declared.label.Label.{Label}
use Rattle.crew_labelling.specs.Held.{trail_of}
use Rattle.crew_resource.specs.Members.{Member}
use Rattle.crew_pass.specs.Machinery.Shelves.{Sighted}
use Rattle.crew_pass.specs.Machinery.Terms.{labels_table, terms}
use Rattle.crew_pass.proofs.joining.join.Goals as goal

pub wait-requires-clause-counts : goal.wait-requires-clause-counts
wait-requires-clause-counts g c =
    let w = (terms g.R.Value.Ord.cmp g.R.Lapses g.R.Staged g.R.Forgets g.R.Resource c.args.ground.now) in
    subst (λ (s : Sighted g.row.R-Value.Denot). AreCounted w.count (λ link. leads_in s.table.leaves s.seen link) (λ link. trail_in s.table.leaves s.table.pools link) c.args.room.now) (sym c.over-sight.ensures) c.requires.counts

pub wait-requires-clause-others : goal.wait-requires-clause-others
wait-requires-clause-others g c =
    let w = (terms g.R.Value.Ord.cmp g.R.Lapses g.R.Staged g.R.Forgets g.R.Resource c.args.ground.now) in
    subst (λ (s : Sighted g.row.R-Value.Denot). AreCounted w.count (λ link. leads_in s.table.leaves s.seen link) (λ link. trail_in s.table.leaves s.table.pools link) c.as_slice.result.now) (sym c.over-sight.ensures)
    (λ l m. c.requires.others l (subst (λ (ls : List (Label g.row.R-Value.Denot)). Member ls l) c.as_slice.ensures.all m))

pub returns-clause-pool : goal.returns-clause-pool
returns-clause-pool g c =
    let w = (terms g.R.Value.Ord.cmp g.R.Lapses g.R.Staged g.R.Forgets g.R.Resource c.args.ground.now) in
    let trail = trail_of (labels_table w) in
    let new = c.wait.new.self in
    on_ok_weaker c.wait.result
    (λ joins. subst (λ (ls : List (Label g.row.R-Value.Denot)). (firsts seconds : List (g.row.R-Value.Denot × List ℕ)) → ArePoolOf w.below w.same trail firsts c.args.room.now → ArePoolOf w.below w.same trail seconds ls
    → ArePoolOf w.below w.same trail (firsts ++ seconds) new) c.as_slice.ensures.all
    (subst (λ (s : Sighted g.row.R-Value.Denot). (firsts seconds : List (g.row.R-Value.Denot × List ℕ)) → ArePoolOf w.below w.same (λ link. trail_in s.table.leaves s.table.pools link) firsts c.args.room.now → ArePoolOf w.below w.same (λ link. trail_in s.table.leaves s.table.pools link) seconds c.as_slice.result.now
    → ArePoolOf w.below w.same (λ link. trail_in s.table.leaves s.table.pools link) (firsts ++ seconds) new) c.over-sight.ensures joins))
    c.wait.ensures.pool

pub returns-clause-counts : goal.returns-clause-counts
returns-clause-counts g c =
    let w = (terms g.R.Value.Ord.cmp g.R.Lapses g.R.Staged g.R.Forgets g.R.Resource c.args.ground.now) in
    subst (λ (s : Sighted g.row.R-Value.Denot). AreCounted w.count (λ link. leads_in s.table.leaves s.seen link) (λ link. trail_in s.table.leaves s.table.pools link) c.wait.new.self) c.over-sight.ensures c.wait.ensures.counts
