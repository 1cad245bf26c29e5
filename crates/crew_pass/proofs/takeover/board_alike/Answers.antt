use Rattle.std.proofs.Common.{◌≡◌, ℕ, List, get_or, sym, subst, arith}
use Rattle.crew_net.specs.Events.{arrives_at}
use Rattle.crew_net.specs.Ranks.{ranks_where}
use Rattle.crew_net.proofs.ArrivalPlaces.{rank-within}
use Rattle.crew_net.proofs.Numbers.{get-within}
use Rattle.crew_net.proofs.Slices.{get-at, member-place, stands}
use Rattle.crew_resource.specs.Members.{Member}
use Rattle.crew_resource.proofs.Members.{Member-get}
use Rattle.crew_pass.specs.Machinery.Beside.{IsAlikeThere}
use Rattle.crew_pass.specs.Machinery.Ended.{passed_terms}
use Rattle.crew_pass.specs.Machinery.Terms.{terms}
use Rattle.crew_pass.proofs.Steps.{one-step}
use Rattle.crew_pass.proofs.takeover.board_alike.Goals as goal

pub loop-rank-init : goal.loop-rank-init
loop-rank-init g c = λ k a b. absurd (omega (arith, b))

pub boards_alike-requires-clause-rank : goal.boards_alike-requires-clause-rank
boards_alike-requires-clause-rank g c =
    let net = c.args.ground.now.net.now in
    let ranks = c.arriving-rank-items.result.now in
    let rank = get_or ranks c.loop-rank.rank-index 0 in
    let x = stands net.arrivals c.args.place c.requires.place in
    rank-within x.0 net.duties rank (subst (λ (rs : List ℕ). Member rs rank) (c.arriving-rank-items.ensures x.0 x.1) (Member-get ranks c.loop-rank.rank-index 0 c.loop-rank-test.true))

pub loop-rank-preserved : goal.loop-rank-preserved
loop-rank-preserved g c =
    let w = terms g.R.Value.Ord.cmp g.R.Lapses g.R.Staged g.R.Forgets g.R.Resource c.args.ground.now in
    let z = passed_terms g.R.Value.Ord.cmp g.R.Lapses g.R.Staged g.R.Forgets g.R.Resource c.args.beside.now.earlier.now in
    let ranks = c.arriving-rank-items.result.now in
    one-step (λ (i : ℕ). IsAlikeThere w z (get_or c.args.ground.now.positions.now (get_or ranks i 0) 0)) 0 c.loop-rank.rank-index c.loop-rank.invariant (c.boards_alike.ensures c.if-not-boards_alike.false)

pub returns : goal.returns
returns g c e rank arrives =
    let w = terms g.R.Value.Ord.cmp g.R.Lapses g.R.Staged g.R.Forgets g.R.Resource c.args.ground.now in
    let z = passed_terms g.R.Value.Ord.cmp g.R.Lapses g.R.Staged g.R.Forgets g.R.Resource c.args.beside.now.earlier.now in
    let ranks = c.arriving-rank-items.result.now in
    let is : ranks ≡ ranks_where (arrives_at arrives.arrival) c.args.ground.now.net.now.duties = c.arriving-rank-items.ensures arrives.arrival arrives.releases in
    let at = member-place ranks rank (subst (λ (rs : List ℕ). Member rs rank) (sym is) arrives.among) in
    let inside = get-within ranks at.0 rank at.1 in
    let test = c.loop-rank-test.false in
    subst (λ (r : ℕ). IsAlikeThere w z (get_or c.args.ground.now.positions.now r 0)) (get-at ranks at.0 rank 0 at.1) (c.loop-rank.invariant at.0 (omega arith) (omega (arith, inside, test)))
