use Rattle.std.proofs.Common.{List, map, sym, ap, subst}
use Rattle.crew_label.specs.Boarding.{waited_label}
use Rattle.crew_label.specs.Pools.{ArePoolOf}
use Rattle.crew_label.specs.Tables.{trail_in}
use Rattle.crew_label.specs.Walks.{shown}
use Rattle.crew_label.specs.declared.label.Label.{Label}
use Rattle.crew_labelling.specs.Candidates.{IsRested, waited_entries}
use Rattle.crew_labelling.specs.Held.{HaveArrived}
use Rattle.crew_labelling.specs.Labellings.{labelling_of}
use Rattle.crew_labelling.proofs.One.{rested-one}
use Rattle.crew_labelling.proofs.Resting.{rest-held}
use Rattle.crew_labelling.proofs.Right.{arrivals-held}
use Rattle.crew_net.proofs.Slices.{stands}
use Rattle.crew_resource.specs.Members.{Member}
use Rattle.crew_resource.proofs.Members.{Member-map_out}
use Rattle.crew_pass.specs.Machinery.Shelves.{AreKnown, Sighted}
use Rattle.crew_pass.specs.Machinery.Terms.{labels_table, terms}
use Rattle.crew_pass.proofs.Known.{arrival-known, counted-seen}
use Rattle.crew_pass.proofs.arrivals.rested_pool.Goals as goal

pub rested-requires-clause-counts : goal.rested-requires-clause-counts
rested-requires-clause-counts g c =
    let w = (terms g.R.Value.Ord.cmp g.R.Lapses g.R.Staged g.R.Forgets g.R.Resource c.args.ground.now) in
    let net = c.args.ground.now.net.now in
    let seen = c.args.seen.now in
    let held = c.at-held.result.now in
    let same = c.requires.seen.arrivals.same c.args.place held c.at-held.ensures in
    let x = stands net.arrivals c.args.place c.requires.place in
    let known : AreKnown w.leaves seen.departures held = λ l m. arrival-known w c.requires.may seen c.requires.seen c.args.place x.0 x.1 c.requires.there l (subst (λ (ls : List (Label g.row.R-Value.Denot)). Member ls l) same m) in
    let have = subst (λ (ls : List (Label g.row.R-Value.Denot)). HaveArrived w (labels_table w) ls) (sym same) (arrivals-held w c.requires.may.terms c.requires.may.lawful c.args.place) in
    counted-seen w c.requires.may seen c.requires.seen w.arrived held have known c.over-sight.result c.over-sight.ensures

pub returns : goal.returns
returns g c =
    let w = (terms g.R.Value.Ord.cmp g.R.Lapses g.R.Staged g.R.Forgets g.R.Resource c.args.ground.now) in
    let t = labels_table w in
    let y = labelling_of w in
    let r = c.args.ground.now.resource.now in
    let held = c.at-held.result.now in
    let pool = c.in_ok-pool.pool in
    let rested = g.R.Lapses.rested_of r in
    let laws = g.met.R.Lapses.resting r in
    let same = c.requires.seen.arrivals.same c.args.place held c.at-held.ensures in
    let have = subst (λ (ls : List (Label g.row.R-Value.Denot)). HaveArrived w t ls) (sym same) (arrivals-held w c.requires.may.terms c.requires.may.lawful c.args.place) in
    let is : IsRested w t held pool = record {
      those = subst (λ (s : Sighted g.row.R-Value.Denot). ArePoolOf w.below w.same (λ link. trail_in s.table.leaves s.table.pools link)
          (waited_entries w.rest (map (shown (λ link. trail_in s.table.leaves s.table.pools link)) held)) pool) c.over-sight.ensures c.in_ok-pool.ensures.pool;
      held = rest-held w t laws.rested_counts laws.rested_arrived held pool have c.in_ok-pool.ensures.from;
      are = λ l m.
          let s = Member-map_out (waited_label rested) held l (c.in_ok-pool.ensures.from l m) in
          (s.0.value, sym (ap (λ (x : Label g.row.R-Value.Denot). x.value) s.2));
    } in
    let x = stands c.args.ground.now.net.now.arrivals c.args.place c.requires.place in
    rested-one w c.requires.may.terms c.requires.may.lawful c.args.place x.0 x.1 pool c.rises.ensures (subst (λ (ls : List (Label g.row.R-Value.Denot)). IsRested w t ls pool) same is)
