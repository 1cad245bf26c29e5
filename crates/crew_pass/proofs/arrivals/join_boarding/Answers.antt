use Rattle.std.proofs.lemmas.Result.{on_ok_weaker}
use Rattle.std.proofs.Common.{◌≤◌, ◌++◌, suc, List, get_or, length, map, arith, sym, subst, ⊎_elim}
use Rattle.crew_label.specs.Boarding.{LeadInto, boarded_from}
use Rattle.crew_label.specs.Pools.{AreCounted, ArePoolOf}
use Rattle.crew_label.specs.Tables.{leads_in, trail_in}
use Rattle.crew_label.specs.Walks.{shown}
use Rattle.crew_label.specs.declared.label.Label.{Label}
use Rattle.crew_label.proofs.Boarded.{boarded_counted, boarded_entries}
use Rattle.crew_labelling.specs.Held.{AreReady, IsHeld, leads_of, trail_of}
use Rattle.crew_labelling.specs.Labellings.{labelling_of}
use Rattle.crew_labelling.specs.Terms.{number_of}
use Rattle.crew_labelling.proofs.Labels.{boarded-held, counted}
use Rattle.crew_labelling.proofs.Right.{departures-gathered, departures-into, departures-ready}
use Rattle.crew_net.proofs.Numbers.{get-within}
use Rattle.crew_net.proofs.Slices.{member-got}
use Rattle.crew_pairing.specs.Events.{departure_of}
use Rattle.crew_resource.specs.Members.{Member}
use Rattle.crew_pass.specs.Machinery.Shelves.{Sighted}
use Rattle.crew_pass.specs.Machinery.Terms.{labels_table, terms}
use Rattle.crew_pass.proofs.Boardings.{with-front}
use Rattle.crew_pass.proofs.Known.{counted-seen, departure-known, into-seen}
use Rattle.crew_pass.proofs.arrivals.join_boarding.Goals as goal

pub board-requires-clause-boards : goal.board-requires-clause-boards
board-requires-clause-boards g c l m =
    let w = (terms g.R.Value.Ord.cmp g.R.Lapses g.R.Staged g.R.Forgets g.R.Resource c.args.ground.now) in
    let t = labels_table w in
    let y = labelling_of w in
    let may = c.requires.may in
    let rank = c.args.rank in
    let net = c.args.ground.now.net.now in
    let position = get_or w.leaves.positions rank 0 in
    let d = c.duty-duty.result.now in
    let known = c.duty-duty.ensures in
    let pool = c.at-pool.result.now in
    let own = c.requires.seen.departures.same position pool c.at-pool.ensures in
    let r = c.args.ground.now.resource.now in
    let k = (departures-ready w may.terms may.lawful position l (subst (λ (ls : List (Label g.row.R-Value.Denot)). Member ls l) own m)).entry in
    let n = length (shown (trail_of t) l).1 in
    let few : n ≤ may.terms.counts.limit = k.few may.terms.counts.limit may.terms.counts.has_most in
    (g.met.R.Staged.bounds r).boards n l.value d (may.terms.passable.sound d (member-got net.duties rank d known)) (may.terms.counts.fit (suc n) (omega (arith, few))) k.bound

pub board-requires-clause-into : goal.board-requires-clause-into
board-requires-clause-into g c =
    let w = (terms g.R.Value.Ord.cmp g.R.Lapses g.R.Staged g.R.Forgets g.R.Resource c.args.ground.now) in
    let t = labels_table w in
    let y = labelling_of w in
    let may = c.requires.may in
    let rank = c.args.rank in
    let net = c.args.ground.now.net.now in
    let position = get_or w.leaves.positions rank 0 in
    let d = c.duty-duty.result.now in
    let known = c.duty-duty.ensures in
    let pool = c.at-pool.result.now in
    let own = c.requires.seen.departures.same position pool c.at-pool.ensures in
    let s = c.over-sight.result in (
      rank,
      subst (λ (ls : List (Label g.row.R-Value.Denot)). LeadInto (λ link. leads_in s.table.leaves s.seen link) (λ link. trail_in s.table.leaves s.table.pools link) (number_of w rank) rank ls) (sym own)
          (into-seen w may c.args.seen.now c.requires.seen rank d known c.requires.there s c.over-sight.ensures),
    )

pub board-requires-clause-others : goal.board-requires-clause-others
board-requires-clause-others g c =
    let w = (terms g.R.Value.Ord.cmp g.R.Lapses g.R.Staged g.R.Forgets g.R.Resource c.args.ground.now) in
    let t = labels_table w in
    let y = labelling_of w in
    let may = c.requires.may in
    let rank = c.args.rank in
    let net = c.args.ground.now.net.now in
    let position = get_or w.leaves.positions rank 0 in
    let d = c.duty-duty.result.now in
    let known = c.duty-duty.ensures in
    let pool = c.at-pool.result.now in
    let own = c.requires.seen.departures.same position pool c.at-pool.ensures in
    let ready = subst (λ (ls : List (Label g.row.R-Value.Denot)). AreReady w t ls) (sym own) (departures-ready w may.terms may.lawful position) in
    counted-seen w may c.args.seen.now c.requires.seen w.ready pool ready
    (λ l m. departure-known w may c.args.seen.now c.requires.seen position c.requires.there l (subst (λ (ls : List (Label g.row.R-Value.Denot)). Member ls l) own m))
    c.over-sight.result c.over-sight.ensures

pub board-requires-clause-clean : goal.board-requires-clause-clean
board-requires-clause-clean g c =
    let w = (terms g.R.Value.Ord.cmp g.R.Lapses g.R.Staged g.R.Forgets g.R.Resource c.args.ground.now) in
    let t = labels_table w in
    let y = labelling_of w in
    let may = c.requires.may in
    let rank = c.args.rank in
    let net = c.args.ground.now.net.now in
    let position = get_or w.leaves.positions rank 0 in
    let d = c.duty-duty.result.now in
    let known = c.duty-duty.ensures in
    let pool = c.at-pool.result.now in
    let own = c.requires.seen.departures.same position pool c.at-pool.ensures in
    let all = departures-gathered w may.terms may.lawful position (departure_of d) (may.terms.passable.are_positions.exact rank d known) in
    let clean = subst (λ (ls : List (Label g.row.R-Value.Denot)). ArePoolOf w.below w.same (trail_of t) all.listed ls) (sym own) all.pool in
    (all.listed, subst (λ (s : Sighted g.row.R-Value.Denot). ArePoolOf w.below w.same (λ link. trail_in s.table.leaves s.table.pools link) all.listed pool) (sym c.over-sight.ensures) clean)

pub board-requires-clause-stays : goal.board-requires-clause-stays
board-requires-clause-stays g c l m = (g.met.R.Pooled.plainly c.args.ground.now.resource.now c.requires.plain).stays l.value c.duty-duty.result.now

pub board-requires-clause-counts : goal.board-requires-clause-counts
board-requires-clause-counts g c =
    let w = (terms g.R.Value.Ord.cmp g.R.Lapses g.R.Staged g.R.Forgets g.R.Resource c.args.ground.now) in
    counted-seen w c.requires.may c.args.seen.now c.requires.seen w.arrived c.args.room.now c.requires.held c.requires.known c.over-sight.result c.over-sight.ensures

pub returns-clause-pool : goal.returns-clause-pool
returns-clause-pool g c =
    let w = (terms g.R.Value.Ord.cmp g.R.Lapses g.R.Staged g.R.Forgets g.R.Resource c.args.ground.now) in
    let trail = trail_of (labels_table w) in
    let may = c.requires.may in
    let r = c.args.ground.now.resource.now in
    let plain = g.met.R.Pooled.plainly r c.requires.plain in
    let rank = c.args.rank in
    let position = get_or w.leaves.positions rank 0 in
    let d = c.duty-duty.result.now in
    let pool = c.at-pool.result.now in
    let own = c.requires.seen.departures.same position pool c.at-pool.ensures in
    let board = λ (v : g.row.R-Value.Denot). g.R.Staged.boards r v d in
    let room = c.args.room.now in
    let more = c.board.new.self in
    on_ok_weaker c.board.result
    (λ joins candidates are.
    let at = subst (λ (s : Sighted g.row.R-Value.Denot). ArePoolOf w.below w.same (λ link. trail_in s.table.leaves s.table.pools link) candidates room) (sym c.over-sight.ensures) are in
    let made = subst (λ (s : Sighted g.row.R-Value.Denot). ArePoolOf w.below w.same (λ link. trail_in s.table.leaves s.table.pools link)
    (candidates ++ map (shown (λ link. trail_in s.table.leaves s.table.pools link)) (boarded_from board (number_of w rank) 0 pool)) more) c.over-sight.ensures (joins candidates at) in
    let owned = subst (λ (ls : List (Label g.row.R-Value.Denot)). ArePoolOf w.below w.same trail (candidates ++ map (shown trail) (boarded_from board (number_of w rank) 0 ls)) more) own made in
    with-front w may plain.sums_alone rank d c.duty-duty.ensures (λ a b y z. (g.met.R.Staged.shifting r plain.shifts).board_reflects a b y z d) candidates more owned)
    c.board.ensures.pool

pub returns-clause-held : goal.returns-clause-held
returns-clause-held g c =
    let w = (terms g.R.Value.Ord.cmp g.R.Lapses g.R.Staged g.R.Forgets g.R.Resource c.args.ground.now) in
    let t = labels_table w in
    let may = c.requires.may in
    let r = c.args.ground.now.resource.now in
    let rank = c.args.rank in
    let net = c.args.ground.now.net.now in
    let position = get_or w.leaves.positions rank 0 in
    let d = c.duty-duty.result.now in
    let known = c.duty-duty.ensures in
    let pool = c.at-pool.result.now in
    let own = c.requires.seen.departures.same position pool c.at-pool.ensures in
    let board = λ (v : g.row.R-Value.Denot). g.R.Staged.boards r v d in
    let ready = subst (λ (ls : List (Label g.row.R-Value.Denot)). AreReady w t ls) (sym own) (departures-ready w may.terms may.lawful position) in
    let into = subst (λ (ls : List (Label g.row.R-Value.Denot)). LeadInto (leads_of t) (trail_of t) (number_of w rank) rank ls) (sym own) (departures-into w may.terms may.lawful rank d known) in
    let sound = may.terms.passable.sound d (member-got net.duties rank d known) in
    let counting = g.met.R.Staged.counting r may.terms.counts.limit may.terms.counts.has_most in
    let shows = boarded_entries board (number_of w rank) (leads_of t) (trail_of t) rank pool into in
    let view = boarded-held w t board rank may.terms.counts.limit (get-within net.duties rank d known) may.terms.counts.has_most (λ v z e. counting.ends v z d e)
    (λ m v z h e. (g.met.R.Staged.bounds r).board_arrived m v z d sound h e) pool (boarded_from board (number_of w rank) 0 pool) ready shows
    (boarded_counted board (number_of w rank) (leads_of t) (trail_of t) rank w.count (λ v z e. counting.one_more v z d e) pool into (counted w t w.ready pool ready)) in
    on_ok_weaker c.board.result
    (λ joins l m. ⊎_elim {C = IsHeld w w.arrived t l} (λ a. c.requires.held l a) (λ b. view l b) (c.board.ensures.from l m))
    c.board.ensures.pool

pub returns-clause-known : goal.returns-clause-known
returns-clause-known g c =
    let w = (terms g.R.Value.Ord.cmp g.R.Lapses g.R.Staged g.R.Forgets g.R.Resource c.args.ground.now) in
    on_ok_weaker c.board.result
    (λ joins.
    let counts = subst (λ (s : Sighted g.row.R-Value.Denot). AreCounted w.count (λ link. leads_in s.table.leaves s.seen link) (λ link. trail_in s.table.leaves s.table.pools link) c.board.new.self) c.over-sight.ensures c.board.ensures.counts in
    λ l m. (counts l m).leading)
    c.board.ensures.pool
