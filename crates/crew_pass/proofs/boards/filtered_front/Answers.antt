use Rattle.std.proofs.Common.{◌≤◌, ℕ, suc, List, get_or, length, map, arith, sym, subst}
use Rattle.crew_label.specs.Boarding.{LeadInto, boarded_from}
use Rattle.crew_label.specs.Pools.{ArePoolOf}
use Rattle.crew_label.specs.Tables.{leads_in, trail_in}
use Rattle.crew_label.specs.Walks.{ranks_at_most, shown}
use Rattle.crew_label.specs.declared.label.Label.{Label}
use Rattle.crew_label.proofs.Boarded.{boarded_counted, boarded_entries}
use Rattle.crew_labelling.specs.Candidates.{AreFront}
use Rattle.crew_labelling.specs.Held.{AreReady, HaveArrived, leads_of, trail_of}
use Rattle.crew_labelling.specs.Labellings.{labelling_of}
use Rattle.crew_labelling.specs.Terms.{number_of}
use Rattle.crew_labelling.proofs.Labels.{boarded-held, counted}
use Rattle.crew_labelling.proofs.One.{front-one}
use Rattle.crew_labelling.proofs.Right.{departures-gathered, departures-into, departures-ready}
use Rattle.crew_net.proofs.Numbers.{get-within}
use Rattle.crew_net.proofs.Slices.{member-got}
use Rattle.crew_pairing.specs.Events.{departure_of}
use Rattle.crew_resource.specs.Labels.{IsLocal}
use Rattle.crew_resource.specs.Members.{Member}
use Rattle.crew_pass.specs.Machinery.Shelves.{Sighted}
use Rattle.crew_pass.specs.Machinery.Terms.{labels_table, terms}
use Rattle.crew_pass.proofs.Known.{counted-seen, departure-known, into-seen}
use Rattle.crew_pass.proofs.boards.filtered_front.Goals as goal

pub front_aboard-requires-clause-sound : goal.front_aboard-requires-clause-sound
front_aboard-requires-clause-sound g c =
    let duties = c.args.ground.now.net.now.duties in
    c.requires.may.terms.passable.sound c.duty-duty.result.now (member-got duties c.args.rank c.duty-duty.result.now c.duty-duty.ensures)

pub front_aboard-requires-clause-boards : goal.front_aboard-requires-clause-boards
front_aboard-requires-clause-boards g c l m =
    let w = (terms g.R.Value.Ord.cmp g.R.Lapses g.R.Staged g.R.Forgets g.R.Resource c.args.ground.now) in
    let t = labels_table w in
    let y = labelling_of w in
    let may = c.requires.may in
    let rank = c.args.rank in
    let net = c.args.ground.now.net.now in
    let position = get_or w.leaves.positions rank 0 in
    let d = c.duty-duty.result.now in
    let known = c.duty-duty.ensures in
    let pool = c.at-pool.result.now in
    let own = c.requires.seen.departures.same position pool c.at-pool.ensures in
    let r = c.args.ground.now.resource.now in
    let k = (departures-ready w may.terms may.lawful position l (subst (λ (ls : List (Label g.row.R-Value.Denot)). Member ls l) own m)).entry in
    let n = length (shown (trail_of t) l).1 in
    let few : n ≤ may.terms.counts.limit = k.few may.terms.counts.limit may.terms.counts.has_most in
    (g.met.R.Staged.bounds r).boards n l.value d (may.terms.passable.sound d (member-got net.duties rank d known)) (may.terms.counts.fit (suc n) (omega (arith, few))) k.bound

pub front_aboard-requires-clause-into : goal.front_aboard-requires-clause-into
front_aboard-requires-clause-into g c =
    let w = (terms g.R.Value.Ord.cmp g.R.Lapses g.R.Staged g.R.Forgets g.R.Resource c.args.ground.now) in
    let t = labels_table w in
    let y = labelling_of w in
    let may = c.requires.may in
    let rank = c.args.rank in
    let net = c.args.ground.now.net.now in
    let position = get_or w.leaves.positions rank 0 in
    let d = c.duty-duty.result.now in
    let known = c.duty-duty.ensures in
    let pool = c.at-pool.result.now in
    let own = c.requires.seen.departures.same position pool c.at-pool.ensures in
    let s = c.over-sight.result in (
      rank,
      subst (λ (ls : List (Label g.row.R-Value.Denot)). LeadInto (λ link. leads_in s.table.leaves s.seen link) (λ link. trail_in s.table.leaves s.table.pools link) (number_of w rank) rank ls) (sym own)
          (into-seen w may c.args.seen.now c.requires.seen rank d known c.requires.there s c.over-sight.ensures),
    )

pub front_aboard-requires-clause-counts : goal.front_aboard-requires-clause-counts
front_aboard-requires-clause-counts g c =
    let w = (terms g.R.Value.Ord.cmp g.R.Lapses g.R.Staged g.R.Forgets g.R.Resource c.args.ground.now) in
    let t = labels_table w in
    let y = labelling_of w in
    let may = c.requires.may in
    let rank = c.args.rank in
    let net = c.args.ground.now.net.now in
    let position = get_or w.leaves.positions rank 0 in
    let d = c.duty-duty.result.now in
    let known = c.duty-duty.ensures in
    let pool = c.at-pool.result.now in
    let own = c.requires.seen.departures.same position pool c.at-pool.ensures in
    let ready = subst (λ (ls : List (Label g.row.R-Value.Denot)). AreReady w t ls) (sym own) (departures-ready w may.terms may.lawful position) in
    counted-seen w may c.args.seen.now c.requires.seen w.ready pool ready
    (λ l m. departure-known w may c.args.seen.now c.requires.seen position c.requires.there l (subst (λ (ls : List (Label g.row.R-Value.Denot)). Member ls l) own m))
    c.over-sight.result c.over-sight.ensures

pub front_aboard-requires-clause-clean : goal.front_aboard-requires-clause-clean
front_aboard-requires-clause-clean g c =
    let w = (terms g.R.Value.Ord.cmp g.R.Lapses g.R.Staged g.R.Forgets g.R.Resource c.args.ground.now) in
    let t = labels_table w in
    let y = labelling_of w in
    let may = c.requires.may in
    let rank = c.args.rank in
    let net = c.args.ground.now.net.now in
    let position = get_or w.leaves.positions rank 0 in
    let d = c.duty-duty.result.now in
    let known = c.duty-duty.ensures in
    let pool = c.at-pool.result.now in
    let own = c.requires.seen.departures.same position pool c.at-pool.ensures in
    let all = departures-gathered w may.terms may.lawful position (departure_of d) (may.terms.passable.are_positions.exact rank d known) in
    let clean = subst (λ (ls : List (Label g.row.R-Value.Denot)). ArePoolOf w.below w.same (trail_of t) all.listed ls) (sym own) all.pool in
    (all.listed, subst (λ (s : Sighted g.row.R-Value.Denot). ArePoolOf w.below w.same (λ link. trail_in s.table.leaves s.table.pools link) all.listed pool) (sym c.over-sight.ensures) clean)

pub returns : goal.returns
returns g c =
    let w = (terms g.R.Value.Ord.cmp g.R.Lapses g.R.Staged g.R.Forgets g.R.Resource c.args.ground.now) in
    let t = labels_table w in
    let y = labelling_of w in
    let may = c.requires.may in
    let rank = c.args.rank in
    let net = c.args.ground.now.net.now in
    let position = get_or w.leaves.positions rank 0 in
    let d = c.duty-duty.result.now in
    let known = c.duty-duty.ensures in
    let pool = c.at-pool.result.now in
    let own = c.requires.seen.departures.same position pool c.at-pool.ensures in
    let r = c.args.ground.now.resource.now in
    let front = c.in_ok-front.front in
    let made = c.in_ok-front.ensures in
    let trail = trail_of t in
    let ready = subst (λ (ls : List (Label g.row.R-Value.Denot)). AreReady w t ls) (sym own) (departures-ready w may.terms may.lawful position) in
    let into = subst (λ (ls : List (Label g.row.R-Value.Denot)). LeadInto (leads_of t) trail (number_of w rank) rank ls) (sym own) (departures-into w may.terms may.lawful rank d known) in
    let sound = may.terms.passable.sound d (member-got net.duties rank d known) in
    let board = λ (v : g.row.R-Value.Denot). g.R.Staged.boards r v d in
    let within = get-within net.duties rank d known in
    let counting = g.met.R.Staged.counting r may.terms.counts.limit may.terms.counts.has_most in
    let counts = counted w t w.ready pool ready in
    let shows = boarded_entries board (number_of w rank) (leads_of t) trail rank pool into in
    let view = boarded-held w t board rank may.terms.counts.limit within may.terms.counts.has_most (λ v z e. counting.ends v z d e)
    (λ m v z h e. (g.met.R.Staged.bounds r).board_arrived m v z d sound h e) pool (boarded_from board (number_of w rank) 0 pool) ready shows
    (boarded_counted board (number_of w rank) (leads_of t) trail rank w.count (λ v z e. counting.one_more v z d e) pool into counts) in
    let held : HaveArrived w t front = λ l m. view l (made.from l m) in
    let seen = subst (λ (s : Sighted g.row.R-Value.Denot). IsLocal w.below ranks_at_most
    (λ v k. Member (map (shown (λ link. trail_in s.table.leaves s.table.pools link)) (boarded_from board (number_of w rank) 0 pool)) (v, k)) (map (shown (λ link. trail_in s.table.leaves s.table.pools link)) front))
    c.over-sight.ensures made.front in
    let local : AreFront w trail d rank pool front =
    subst (λ (es : List (g.row.R-Value.Denot × List ℕ)). IsLocal w.below ranks_at_most (λ v k. Member es (v, k)) (map (shown trail) front)) shows seen in
    front-one w may.terms may.lawful rank d known front c.rises.ensures held (subst (λ (ls : List (Label g.row.R-Value.Denot)). AreFront w trail d rank ls front) own local)
