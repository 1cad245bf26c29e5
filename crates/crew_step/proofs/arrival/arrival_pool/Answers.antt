use Rattle.std.proofs.Common.{◌≡◌, ◌∙◌, ◌+◌, ◌++◌, [], List, Some, ℕ, ap, arith, false, get_or, map, subst, sym, take}
use Rattle.std.specs.Prelude.{slice_get}
use Rattle.std.proofs.lemmas.List.{take_all}
use Rattle.std.proofs.lemmas.Option.{slice_get-get_or}
use Rattle.std.proofs.lemmas.Result.{IfOk-weaker}
use Rattle.crew_pool.specs.Counted.{AreCounted}
use Rattle.crew_pool.specs.LabelWalks.{IsPoolOf, shown}
use Rattle.crew_pool.specs.declared.label_walk.LabelWalk.{LabelWalk}
use Rattle.crew_resource.specs.Members.{Member}
use Rattle.crew_resource.proofs.Members.{Member-at, Member-get}
use Rattle.crew_step.specs.Pools.{boarded, boarding}
use Rattle.crew_step.proofs.Loops.{flat-more}
use Rattle.crew_step.proofs.arrival.arrival_pool.Goals as goal

pub at-duty-requires : goal.at-duty-requires
at-duty-requires g c =
    let ranks = c.args.ranks.now in
    (c.requires.within (get_or ranks c.loop-rank.rank-index 0) (Member-get ranks c.loop-rank.rank-index 0 c.loop-rank-test.true)).0

pub bounds-positions-rank : goal.bounds-positions-rank
bounds-positions-rank g c =
    let ranks = c.args.ranks.now in
    let within = (c.requires.within (get_or ranks c.loop-rank.rank-index 0) (Member-get ranks c.loop-rank.rank-index 0 c.loop-rank-test.true)).0 in
    omega (arith, within, c.requires.positions)

pub get-from-requires : goal.get-from-requires
get-from-requires g c =
    let ranks = c.args.ranks.now in
    (c.requires.within (get_or ranks c.loop-rank.rank-index 0) (Member-get ranks c.loop-rank.rank-index 0 c.loop-rank-test.true)).1

pub absorb_boarding-requires-clause-duty : goal.absorb_boarding-requires-clause-duty
absorb_boarding-requires-clause-duty g c =
    let ranks = c.args.ranks.now in
    let within = (c.requires.within (get_or ranks c.loop-rank.rank-index 0) (Member-get ranks c.loop-rank.rank-index 0 c.loop-rank-test.true)).0 in
    omega (arith, within, c.requires.few)

pub absorb_boarding-requires-clause-can : goal.absorb_boarding-requires-clause-can
absorb_boarding-requires-clause-can g c l m =
    let ranks = c.args.ranks.now in
    let rank = get_or ranks c.loop-rank.rank-index 0 in
    let within = c.requires.within rank (Member-get ranks c.loop-rank.rank-index 0 c.loop-rank-test.true) in
    let duty = c.at-duty.result.now in
    let from = c.get-from.result.now in
    c.requires.can from l duty
    (subst (Member c.args.pools.now) (sym c.get-from.ensures) (Member-get c.args.pools.now (get_or c.args.positions.now rank 0) [] within.1)) m
    (Member-at c.args.duties.now rank duty c.at-duty.ensures)

pub absorb_boarding-requires-clause-list_counts : goal.absorb_boarding-requires-clause-list_counts
absorb_boarding-requires-clause-list_counts g c =
    let ranks = c.args.ranks.now in
    let rank = get_or ranks c.loop-rank.rank-index 0 in
    let within = c.requires.within rank (Member-get ranks c.loop-rank.rank-index 0 c.loop-rank-test.true) in
    let from = c.get-from.result.now in
    c.requires.whole from (subst (Member c.args.pools.now) (sym c.get-from.ensures) (Member-get c.args.pools.now (get_or c.args.positions.now rank 0) [] within.1))

pub loop-rank-init : goal.loop-rank-init
loop-rank-init g c =
    let V = g.row.R-Value.Denot in
    let ws = c.args.walks.now in
    let count = g.R.Staged.count_of c.args.resource.now in
    let none : IsPoolOf {V = V} g.R.Resource.below [] (map (shown {V = V} ws) []) × AreCounted {V = V} count ws false [] =
    (record { among = λ v w m. absurd m; covers = λ v w m. absurd m; alone = λ v w x y m. absurd m }, λ l m. absurd m) in
    subst (λ (es : List (V × LabelWalk)). IsPoolOf {V = V} g.R.Resource.below [] (map (shown {V = V} ws) es) × AreCounted {V = V} count ws false es) (sym c.begin-pool.ensures) none

pub loop-rank-preserved : goal.loop-rank-preserved
loop-rank-preserved g c =
    let V = g.row.R-Value.Denot in
    let below = g.R.Resource.below in
    let ws = c.args.walks.now in
    let ranks = c.args.ranks.now in
    let i = c.loop-rank.rank-index in
    let rank = get_or ranks i 0 in
    let within = c.requires.within rank (Member-get ranks i 0 c.loop-rank-test.true) in
    let position = get_or c.args.positions.now rank 0 in
    let duty = c.at-duty.result.now in
    let from = c.get-from.result.now in
    let board = g.R.Staged.boards c.args.resource.now in
    let now = c.absorb_boarding.new.pool in
    let one : ℕ → List (V × List ℕ) = λ r. boarding board (slice_get c.args.duties.now r) r (map (shown {V = V} ws) (get_or c.args.pools.now (get_or c.args.positions.now r 0) [])) in
    let before : List (V × List ℕ) = boarded {V = V} ws board c.args.duties.now c.args.positions.now c.args.pools.now (take i ranks) in
    let known = c.at-duty.ensures in
    let labels : List (V × LabelWalk) → List (V × List ℕ) = map (shown {V = V} ws) in
    let there : get_or c.args.pools.now position [] ≡ from = sym c.get-from.ensures in
    let brings : boarding board (Some duty) rank (labels from) ≡ one rank =
    sym (ap (λ o. boarding board o rank (labels from)) known) ∙ sym (ap (λ (es : List (V × LabelWalk)). boarding board (slice_get c.args.duties.now rank) rank (labels es)) there) in
    let step = c.in_ok-absorb_boarding.ensures.local before c.loop-rank.invariant.0 in
    let more : before ++ one rank ≡ boarded {V = V} ws board c.args.duties.now c.args.positions.now c.args.pools.now (take (i + 1) ranks) =
    flat-more one [] ranks i rank (slice_get-get_or ranks i 0 c.loop-rank-test.true) in (
      subst (λ (es : List (V × List ℕ)). IsPoolOf below es (labels now)) more
          (subst (λ (es : List (V × List ℕ)). IsPoolOf below (before ++ es) (labels now)) brings step),
      c.in_ok-absorb_boarding.ensures.counts,
    )

pub returns-clause-local : goal.returns-clause-local
returns-clause-local g c =
    let V = g.row.R-Value.Denot in
    let ws = c.args.walks.now in
    let brought = boarded {V = V} ws (g.R.Staged.boards c.args.resource.now) c.args.duties.now c.args.positions.now c.args.pools.now in
    let all = take_all c.loop-rank.rank-index c.args.ranks.now (omega arith) in
    IfOk-weaker c.copy_out.result _ _
    (λ pool same. subst (λ (es : List (V × LabelWalk)). IsPoolOf g.R.Resource.below (brought c.args.ranks.now) (map (shown {V = V} ws) es)) (sym same)
    (subst (λ (ranks : List ℕ). IsPoolOf g.R.Resource.below (brought ranks) (map (shown {V = V} ws) c.loop-rank.pool)) all c.loop-rank.invariant.0)) c.copy_out.ensures

pub returns-clause-counts : goal.returns-clause-counts
returns-clause-counts g c =
    let V = g.row.R-Value.Denot in
    IfOk-weaker c.copy_out.result _ _
    (λ pool same. subst (λ (es : List (V × LabelWalk)). AreCounted {V = V} (g.R.Staged.count_of c.args.resource.now) c.args.walks.now false es) (sym same) c.loop-rank.invariant.1) c.copy_out.ensures
