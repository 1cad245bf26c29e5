use Rattle.std.proofs.Common.{ℕ, List, [], get_or, refl, sym, subst}
use Rattle.crew_label.specs.declared.label.Label.{Label}
use Rattle.crew_labelling.specs.Held.{HaveArrived, trail_of}
use Rattle.crew_labelling.specs.Labellings.{labelling_of}
use Rattle.crew_labelling.proofs.One.{arrival-one}
use Rattle.crew_net.proofs.ArrivalPlaces.{rank-within}
use Rattle.crew_net.proofs.Slices.{stands}
use Rattle.crew_resource.specs.Members.{Member}
use Rattle.crew_resource.proofs.Members.{Member-get}
use Rattle.crew_pass.specs.Machinery.Passing.{ArrivesAt}
use Rattle.crew_pass.specs.Machinery.Shelves.{AreKnown}
use Rattle.crew_pass.specs.Machinery.Terms.{labels_table, terms}
use Rattle.crew_pass.proofs.Arriving.{none-gathered, one-gathered, so-gathered}
use Rattle.crew_pass.proofs.arrivals.boarded_pool.Goals as goal

pub loop-rank-init : goal.loop-rank-init
loop-rank-init g c =
    let w = (terms g.R.Value.Ord.cmp g.R.Lapses g.R.Staged g.R.Forgets g.R.Resource c.args.ground.now) in
    let none = c.clear.ensures in (
      none-gathered w (labels_table w) (labelling_of w).fronts c.arriving-rank-items.result.now c.clear.new.self none,
      subst (λ (ls : List (Label g.row.R-Value.Denot)). HaveArrived w (labels_table w) ls) (sym none) (λ l m. absurd m),
      subst (λ (ls : List (Label g.row.R-Value.Denot)). AreKnown w.leaves c.args.seen.now.departures ls) (sym none) (λ l m. absurd m),
    )

pub join_boarding-requires-clause-rank : goal.join_boarding-requires-clause-rank
join_boarding-requires-clause-rank g c =
    let net = c.args.ground.now.net.now in
    let ranks = c.arriving-rank-items.result.now in
    let rank = get_or ranks c.loop-rank.rank-index 0 in
    let x = stands net.arrivals c.args.place c.requires.place in
    rank-within x.0 net.duties rank (subst (λ (rs : List ℕ). Member rs rank) (c.arriving-rank-items.ensures x.0 x.1) (Member-get ranks c.loop-rank.rank-index 0 c.loop-rank-test.true))

pub join_boarding-requires-clause-there : goal.join_boarding-requires-clause-there
join_boarding-requires-clause-there g c =
    let net = c.args.ground.now.net.now in
    let ranks = c.arriving-rank-items.result.now in
    let rank = get_or ranks c.loop-rank.rank-index 0 in
    let x = stands net.arrivals c.args.place c.requires.place in
    let arrives : ArrivesAt net c.args.place rank = record {
      arrival = x.0;
      releases = x.1;
      among = subst (λ (rs : List ℕ). Member rs rank) (c.arriving-rank-items.ensures x.0 x.1) (Member-get ranks c.loop-rank.rank-index 0 c.loop-rank-test.true);
    } in
    c.requires.there rank arrives

pub join_boarding-requires-clause-held : goal.join_boarding-requires-clause-held
join_boarding-requires-clause-held g c = c.loop-rank.invariant.1

pub join_boarding-requires-clause-known : goal.join_boarding-requires-clause-known
join_boarding-requires-clause-known g c = c.loop-rank.invariant.2

pub loop-rank-preserved : goal.loop-rank-preserved
loop-rank-preserved g c =
    let w = (terms g.R.Value.Ord.cmp g.R.Lapses g.R.Staged g.R.Forgets g.R.Resource c.args.ground.now) in
    let y = labelling_of w in
    let ranks = c.arriving-rank-items.result.now in
    let i = c.loop-rank.rank-index in
    let is = c.in_ok-join_boarding.ensures in
    let one = one-gathered w (labels_table w) y.fronts ranks i c.loop-rank-test.true (get_or y.fronts (get_or ranks i 0) []) refl c.loop-rank.room c.join_boarding.new.room is.pool c.loop-rank.invariant.0 in
    (one, is.held, is.known)

pub returns : goal.returns
returns g c =
    let net = c.args.ground.now.net.now in
    let w = (terms g.R.Value.Ord.cmp g.R.Lapses g.R.Staged g.R.Forgets g.R.Resource c.args.ground.now) in
    let t = labels_table w in
    let y = labelling_of w in
    let ranks = c.arriving-rank-items.result.now in
    let pool = c.in_ok-pool.pool in
    let made = c.in_ok-pool.ensures in
    let x = stands net.arrivals c.args.place c.requires.place in
    let held : HaveArrived w t pool = λ l m. c.loop-rank.invariant.1 l (made.from l m) in
    let gathered = so-gathered w t y.fronts x.0 ranks (c.arriving-rank-items.ensures x.0 x.1) c.loop-rank.rank-index c.loop-rank-test.false c.loop-rank.room c.loop-rank.invariant.0 in
    arrival-one w c.requires.may.terms c.requires.may.lawful c.args.place x.0 x.1 pool c.rises.ensures held
    (record { listed = gathered.listed; pool = made.pool w.same (trail_of t) gathered.listed gathered.pool; among = gathered.among; every = gathered.every })
