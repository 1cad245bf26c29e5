use Rattle.std.proofs.Common.{◌∙◌, ℕ, List, [], ◌∷◌, Bor, map, get_or, sym, ap, subst}
use Rattle.std.proofs.lemmas.List.{map-append}
use Rattle.crew_label.specs.Pools.{ArePoolOf, ArePoolsOf}
use Rattle.crew_label.specs.Tables.{trail_in}
use Rattle.crew_label.specs.declared.label.Label.{Label}
use Rattle.crew_labelling.specs.Held.{AreHeld}
use Rattle.crew_labelling.specs.Labellings.{labelling_of}
use Rattle.crew_labelling.proofs.One.{arrival-one}
use Rattle.crew_labelling.proofs.Right.{fronts-held, fronts-themselves}
use Rattle.crew_net.proofs.Slices.{stands}
use Rattle.crew_resource.specs.Members.{Member}
use Rattle.crew_resource.proofs.Members.{Member-get}
use Rattle.crew_pass.specs.Machinery.Passing.{ArrivesAt}
use Rattle.crew_pass.specs.Machinery.Shelves.{AreKnown, Sighted}
use Rattle.crew_pass.specs.Machinery.Terms.{labels_table, terms}
use Rattle.crew_pass.proofs.Arriving.{all-gathered, none-collected, one-collected}
use Rattle.crew_pass.proofs.Collected.{one-list-more}
use Rattle.crew_pass.proofs.Known.{counted-seen, front-known}
use Rattle.crew_pass.proofs.arrivals.gathered_pool.Goals as goal

pub loop-rank-init : goal.loop-rank-init
loop-rank-init g c =
    let w = (terms g.R.Value.Ord.cmp g.R.Lapses g.R.Staged g.R.Forgets g.R.Resource c.args.ground.now) in
    let none = ap (map (λ (p : Bor (List (Label g.row.R-Value.Denot))). p.now)) c.new-pools.ensures.items in (
      none-collected w (labels_table w) (labelling_of w).fronts c.arriving-rank-items.result.now (map (λ (p : Bor (List (Label g.row.R-Value.Denot))). p.now) c.new-pools.result.items) none,
      λ labels m. absurd (subst (λ (lss : List (List (Label g.row.R-Value.Denot))). Member lss labels) none m),
    )

pub at-requires : goal.at-requires
at-requires g c =
    let net = c.args.ground.now.net.now in
    let ranks = c.arriving-rank-items.result.now in
    let i = c.loop-rank.rank-index in
    let rank = get_or ranks i 0 in
    let x = stands net.arrivals c.args.place c.requires.place in
    let arrives : ArrivesAt net c.args.place rank = record {
      arrival = x.0;
      releases = x.1;
      among = subst (λ (rs : List ℕ). Member rs rank) (c.arriving-rank-items.ensures x.0 x.1) (Member-get ranks i 0 c.loop-rank-test.true);
    } in
    c.requires.there rank arrives

pub loop-rank-preserved : goal.loop-rank-preserved
loop-rank-preserved g c =
    let net = c.args.ground.now.net.now in
    let w = (terms g.R.Value.Ord.cmp g.R.Lapses g.R.Staged g.R.Forgets g.R.Resource c.args.ground.now) in
    let y = labelling_of w in
    let seen = c.args.seen.now in
    let shared = λ (p : Bor (List (Label g.row.R-Value.Denot))). p.now in
    let ranks = c.arriving-rank-items.result.now in
    let i = c.loop-rank.rank-index in
    let rank = get_or ranks i 0 in
    let front = c.at.result.now in
    let x = stands net.arrivals c.args.place c.requires.place in
    let arrives : ArrivesAt net c.args.place rank = record {
      arrival = x.0;
      releases = x.1;
      among = subst (λ (rs : List ℕ). Member rs rank) (c.arriving-rank-items.ensures x.0 x.1) (Member-get ranks i 0 c.loop-rank-test.true);
    } in
    let own = c.requires.seen.fronts.same rank front c.at.ensures in
    let more = ap (map shared) c.in_ok-push.ensures.items ∙ map-append shared c.loop-rank.pools.items (c.at.result ∷ []) in
    let Known = AreKnown w.leaves seen.departures in
    let known : Known front = λ l m. front-known w c.requires.may seen c.requires.seen rank (c.requires.there rank arrives) l (subst (λ (ls : List (Label g.row.R-Value.Denot)). Member ls l) own m) in (
      one-collected w (labels_table w) y.fronts (fronts-held w c.requires.may.terms c.requires.may.lawful) (fronts-themselves w c.requires.may.terms c.requires.may.lawful)
          ranks i c.loop-rank-test.true (map shared c.loop-rank.pools.items) (map shared c.push.new.self.items) front more (sym own) c.loop-rank.invariant.0,
      λ labels m. one-list-more (λ (ls : List (Label g.row.R-Value.Denot)). Known ls) (map shared c.loop-rank.pools.items) front c.loop-rank.invariant.1 known labels (subst (λ (lss : List (List (Label g.row.R-Value.Denot))). Member lss labels) more m),
    )

pub of_pools-requires-clause-counts : goal.of_pools-requires-clause-counts
of_pools-requires-clause-counts g c labels m =
    let w = (terms g.R.Value.Ord.cmp g.R.Lapses g.R.Staged g.R.Forgets g.R.Resource c.args.ground.now) in
    let shared = λ (p : Bor (List (Label g.row.R-Value.Denot))). p.now in
    let among = subst (λ (ps : List (Bor (List (Label g.row.R-Value.Denot)))). Member (map shared ps) labels) c.deref.ensures.value m in
    counted-seen w c.requires.may c.args.seen.now c.requires.seen w.arrived labels (c.loop-rank.invariant.0.0 labels among) (c.loop-rank.invariant.1 labels among) c.over-sight.result c.over-sight.ensures

pub returns : goal.returns
returns g c =
    let net = c.args.ground.now.net.now in
    let w = (terms g.R.Value.Ord.cmp g.R.Lapses g.R.Staged g.R.Forgets g.R.Resource c.args.ground.now) in
    let t = labels_table w in
    let y = labelling_of w in
    let shared = λ (p : Bor (List (Label g.row.R-Value.Denot))). p.now in
    let pools = map shared c.loop-rank.pools.items in
    let pool = c.in_ok-pool.pool in
    let ranks = c.arriving-rank-items.result.now in
    let x = stands net.arrivals c.args.place c.requires.place in
    let held : AreHeld w w.arrived t pool = λ l m.
    let k = c.in_ok-pool.ensures.from l m in
    c.loop-rank.invariant.0.0 k.0 (subst (λ (ps : List (Bor (List (Label g.row.R-Value.Denot)))). Member (map shared ps) k.0) c.deref.ensures.value k.1) l k.2 in
    let joined = subst (λ (s : Sighted g.row.R-Value.Denot). (candidates : List (g.row.R-Value.Denot × List ℕ)) → ArePoolsOf w.below w.same (λ link. trail_in s.table.leaves s.table.pools link) candidates pools
    → ArePoolOf w.below w.same (λ link. trail_in s.table.leaves s.table.pools link) candidates pool) c.over-sight.ensures
    (subst (λ (ps : List (Bor (List (Label g.row.R-Value.Denot)))). (candidates : List (g.row.R-Value.Denot × List ℕ)) → ArePoolsOf w.below w.same (λ link. trail_in c.over-sight.result.table.leaves c.over-sight.result.table.pools link) candidates (map shared ps)
    → ArePoolOf w.below w.same (λ link. trail_in c.over-sight.result.table.leaves c.over-sight.result.table.pools link) candidates pool) c.deref.ensures.value c.in_ok-pool.ensures.pool) in
    let gathered = all-gathered w t y.fronts x.0 ranks (c.arriving-rank-items.ensures x.0 x.1) c.loop-rank.rank-index c.loop-rank-test.false pools pool joined c.loop-rank.invariant.0 in
    arrival-one w c.requires.may.terms c.requires.may.lawful c.args.place x.0 x.1 pool c.rises.ensures held gathered
