use Rattle.std.proofs.Common.{◌≡◌, ℕ, List, get_or, sym, subst, arith}
use Rattle.crew_net.specs.Events.{arrives_at}
use Rattle.crew_net.specs.Ranks.{ranks_where}
use Rattle.crew_net.proofs.ArrivalPlaces.{rank-within}
use Rattle.crew_net.proofs.Numbers.{get-within}
use Rattle.crew_net.proofs.Slices.{get-at, member-place, stands}
use Rattle.crew_resource.specs.Members.{Member}
use Rattle.crew_resource.proofs.Members.{Member-get}
use Rattle.crew_pass.specs.Machinery.Passing.{ArrivesAt}
use Rattle.crew_pass.specs.Machinery.Shelves.{IsThere}
use Rattle.crew_pass.proofs.More.{stay, stay-then}
use Rattle.crew_pass.proofs.Steps.{one-step}
use Rattle.crew_pass.proofs.seeing.see_fronts_between.Goals as goal

pub loop-rank-init : goal.loop-rank-init
loop-rank-init g c = (c.requires.seen, stay c.args.seen.now, λ k a b. absurd (omega (arith, b)))

pub take_front-requires-clause-seen : goal.take_front-requires-clause-seen
take_front-requires-clause-seen g c = c.loop-rank.invariant.0

pub take_front-requires-clause-rank : goal.take_front-requires-clause-rank
take_front-requires-clause-rank g c =
    let net = c.args.ground.now.net.now in
    let ranks = c.arriving-rank-items.result.now in
    let rank = get_or ranks c.loop-rank.rank-index 0 in
    let x = stands net.arrivals c.args.place c.requires.place in
    rank-within x.0 net.duties rank (subst (λ (rs : List ℕ). Member rs rank) (c.arriving-rank-items.ensures x.0 x.1) (Member-get ranks c.loop-rank.rank-index 0 c.loop-rank-test.true))

pub take_front-requires-clause-there : goal.take_front-requires-clause-there
take_front-requires-clause-there g c =
    let net = c.args.ground.now.net.now in
    let ranks = c.arriving-rank-items.result.now in
    let rank = get_or ranks c.loop-rank.rank-index 0 in
    let x = stands net.arrivals c.args.place c.requires.place in
    let arrives : ArrivesAt net c.args.place rank = record {
      arrival = x.0;
      releases = x.1;
      among = subst (λ (rs : List ℕ). Member rs rank) (c.arriving-rank-items.ensures x.0 x.1) (Member-get ranks c.loop-rank.rank-index 0 c.loop-rank-test.true);
    } in
    c.loop-rank.invariant.1.departures (get_or c.args.ground.now.positions.now rank 0) (c.requires.there rank arrives)

pub loop-rank-preserved : goal.loop-rank-preserved
loop-rank-preserved g c =
    let is = c.in_ok-take_front.ensures in
    let so = c.loop-rank.invariant in
    let now = c.take_front.new.seen in
    let ranks = c.arriving-rank-items.result.now in (
      is.seen,
      stay-then c.args.seen.now c.loop-rank.seen now so.1 is.stays,
      one-step (λ (i : ℕ). IsThere now.fronts (get_or ranks i 0)) 0 c.loop-rank.rank-index (λ i a b. is.stays.fronts (get_or ranks i 0) (so.2 i a b)) is.there,
    )

pub returns-clause-fronts : goal.returns-clause-fronts
returns-clause-fronts g c other rank arrives =
    let ranks = c.arriving-rank-items.result.now in
    let is : ranks ≡ ranks_where (arrives_at arrives.arrival) c.args.ground.now.net.now.duties = c.arriving-rank-items.ensures arrives.arrival arrives.releases in
    let at = member-place ranks rank (subst (λ (rs : List ℕ). Member rs rank) (sym is) arrives.among) in
    let inside = get-within ranks at.0 rank at.1 in
    let test = c.loop-rank-test.false in
    subst (λ (r : ℕ). IsThere c.loop-rank.seen.fronts r) (get-at ranks at.0 rank 0 at.1) (c.loop-rank.invariant.2 at.0 (omega arith) (omega (arith, inside, test)))
