use Rattle.std.proofs.Common.{◌++◌, ◌⊎◌, List, [], inl, inr, get_or, sym, subst, ⊎_elim}
use Rattle.std.proofs.lemmas.Result.{IfOk-weaker}
use Rattle.crew_label.specs.Pools.{ArePoolOf}
use Rattle.crew_label.specs.declared.label.Label.{Label}
use Rattle.crew_labelling.specs.Held.{trail_of}
use Rattle.crew_labelling.specs.Labellings.{labelling_of}
use Rattle.crew_resource.specs.Members.{Member}
use Rattle.crew_pass.specs.Machinery.Stretches.{CountThere}
use Rattle.crew_pass.specs.Machinery.Terms.{labels_table, terms}
use Rattle.crew_pass.proofs.Gathered.{empty-pool}
use Rattle.crew_pass.proofs.Stretched.{arrival-counts}
use Rattle.crew_pass.proofs.stretching.one_more.Goals as goal

-- nothing is in the room
pub join-requires-clause-counts : goal.join-requires-clause-counts
join-requires-clause-counts g c =
    let w = (terms g.R.Value.Ord.cmp g.R.Lapses g.R.Staged g.R.Forgets g.R.Resource c.args.ground.now) in
    subst (λ (ls : List (Label g.row.R-Value.Denot)). CountThere w c.args.seen.now.departures ls) (sym c.clear.ensures) (λ l m. absurd m)

pub join-requires-2-clause-others : goal.join-requires-2-clause-others
join-requires-2-clause-others g c =
    let w = (terms g.R.Value.Ord.cmp g.R.Lapses g.R.Staged g.R.Forgets g.R.Resource c.args.ground.now) in
    arrival-counts w c.requires.may c.args.seen.now c.requires.seen c.args.place c.requires.place c.requires.there c.at.result.now (c.requires.seen.arrivals.same c.args.place c.at.result.now c.at.ensures)

pub returns-clause-pool : goal.returns-clause-pool
returns-clause-pool g c =
    let w = (terms g.R.Value.Ord.cmp g.R.Lapses g.R.Staged g.R.Forgets g.R.Resource c.args.ground.now) in
    let trail = trail_of (labels_table w) in
    let own = c.requires.seen.arrivals.same c.args.place c.at.result.now c.at.ensures in
    IfOk-weaker c.sorted.result _ _
    (λ whole pool firsts seconds i j.
    let one = c.in_ok-join.ensures.pool [] firsts (empty-pool w trail c.clear.new.self c.clear.ensures) i in
    let two = subst (λ (ls : List (Label g.row.R-Value.Denot)). ArePoolOf w.below w.same trail seconds ls) (sym own) j in
    pool w.same trail (firsts ++ seconds) (c.in_ok-join-2.ensures.pool firsts seconds one two))
    c.sorted.ensures.pool

pub returns-clause-from : goal.returns-clause-from
returns-clause-from g c =
    let w = (terms g.R.Value.Ord.cmp g.R.Lapses g.R.Staged g.R.Forgets g.R.Resource c.args.ground.now) in
    let own = c.requires.seen.arrivals.same c.args.place c.at.result.now c.at.ensures in
    IfOk-weaker c.sorted.result _ _
    (λ whole from l m. ⊎_elim {C = Member c.args.shorter.now l ⊎ Member (get_or (labelling_of w).arrivals c.args.place []) l}
    (λ a. ⊎_elim {C = Member c.args.shorter.now l ⊎ Member (get_or (labelling_of w).arrivals c.args.place []) l}
    (λ b. absurd (subst (λ (ls : List (Label g.row.R-Value.Denot)). Member ls l) c.clear.ensures b)) inl (c.in_ok-join.ensures.from l a))
    (λ a. inr (subst (λ (ls : List (Label g.row.R-Value.Denot)). Member ls l) own a))
    (c.in_ok-join-2.ensures.from l (from l m)))
    c.sorted.ensures.from
