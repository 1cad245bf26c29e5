use Rattle.std.proofs.Common.{◌++◌, ◌⊎◌, List, [], inl, inr, sym, subst, ⊎_elim}
use Rattle.std.proofs.lemmas.Result.{IfOk-weaker}
use Rattle.crew_label.specs.declared.label.Label.{Label}
use Rattle.crew_labelling.specs.Held.{trail_of}
use Rattle.crew_resource.specs.Members.{Member}
use Rattle.crew_pass.specs.Machinery.Stretches.{CountThere}
use Rattle.crew_pass.specs.Machinery.Terms.{labels_table, terms}
use Rattle.crew_pass.proofs.Gathered.{empty-pool}
use Rattle.crew_pass.proofs.standing.three.Goals as goal

-- nothing is in the room
pub join-requires-clause-counts : goal.join-requires-clause-counts
join-requires-clause-counts g c =
    let w = (terms g.R.Value.Ord.cmp g.R.Lapses g.R.Staged g.R.Forgets g.R.Resource c.args.ground.now) in
    subst (λ (ls : List (Label g.row.R-Value.Denot)). CountThere w c.args.seen.now.departures ls) (sym c.clear.ensures) (λ l m. absurd m)

pub returns-clause-pool : goal.returns-clause-pool
returns-clause-pool g c =
    let w = (terms g.R.Value.Ord.cmp g.R.Lapses g.R.Staged g.R.Forgets g.R.Resource c.args.ground.now) in
    let trail = trail_of (labels_table w) in
    IfOk-weaker c.sorted.result _ _
    (λ whole pool firsts seconds thirds i j k.
    let one = c.in_ok-join.ensures.pool [] firsts (empty-pool w trail c.clear.new.self c.clear.ensures) i in
    let two = c.in_ok-join-2.ensures.pool firsts seconds one j in
    pool w.same trail ((firsts ++ seconds) ++ thirds) (c.in_ok-join-3.ensures.pool (firsts ++ seconds) thirds two k))
    c.sorted.ensures.pool

pub returns-clause-from : goal.returns-clause-from
returns-clause-from g c =
    let There = λ (l : Label g.row.R-Value.Denot). Member c.args.down.now l ⊎ Member c.args.up.now l ⊎ Member c.args.idle.now l in
    IfOk-weaker c.sorted.result _ _
    (λ whole from l m. ⊎_elim {C = There l}
    (λ a. ⊎_elim {C = There l}
    (λ b. ⊎_elim {C = There l}
    (λ e. absurd (subst (λ (ls : List (Label g.row.R-Value.Denot)). Member ls l) c.clear.ensures e)) inl (c.in_ok-join.ensures.from l b))
    (λ b. inr (inl b)) (c.in_ok-join-2.ensures.from l a))
    (λ a. inr (inr a))
    (c.in_ok-join-3.ensures.from l (from l m)))
    c.sorted.ensures.from
