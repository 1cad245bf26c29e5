use Rattle.std.proofs.Common.{◌≡◌, ◌∙◌, ap, refl, sym, subst, Some, List, [], length, get_or, take, to_z, of_z, w64, arith}
use Rattle.std.specs.Int.{int_min}
use Rattle.std.proofs.lemmas.Int.{ints}
use Rattle.std.specs.Prelude.{slice_get}
use Rattle.std.specs.List.{flat_map}
use Rattle.std.proofs.lemmas.List.{take_all}
use Rattle.crew_net.specs.Events.{leaves_at}
use Rattle.crew_net.specs.Nets.{AreByReport, Net}
use Rattle.crew_net.specs.Ranks.{ranks_where}
use Rattle.crew_pairing.specs.Events.{departure_of}
use Rattle.crew_resource.proofs.Members.{Member-get}
use Rattle.crew_resource.specs.Members.{Member}
use Rattle.crew_net.proofs.Numbers.{get-within}
use Rattle.crew_solve.specs.Machinery.Floors.{AreMarks, CostFrom, IsFloor}
use Rattle.crew_solve.specs.Machinery.Homes.{home_at, leaving}
use Rattle.crew_solve.proofs.Flooring.{from-more, from-none}
use Rattle.crew_solve.proofs.Departing.{departs, leaves-own, rank-out}
use Rattle.crew_solve.specs.Machinery.Keeps.{CheapestSoFar, keep_all}
use Rattle.crew_solve.proofs.Listed.{flat-more}
use Rattle.crew_solve.proofs.Keeping.{keep-append, still-beside}
use Rattle.crew_solve.proofs.best.keep_of_departure.Goals as goal

pub leaving-ranks-requires : goal.leaving-ranks-requires
leaving-ranks-requires c =
    let net = c.args.sweep.now.net in
    let order = subst (λ (n : Net). AreByReport n.departures n.by_report) c.net.ensures.net c.by_report.ensures.exact in
    let d = departs net c.args.index order c.requires.index in
    let place = ap (λ l. get_or l c.args.index 0) (c.by_report.ensures.places ∙ ap (λ (n : Net). n.by_report) c.net.ensures.net) in
    let long = ap (λ (n : Net). length n.departures) c.net-2.ensures.net in
    omega (arith, d.within, place, long)

pub keep_of_rank-requires-clause-rank : goal.keep_of_rank-requires-clause-rank
keep_of_rank-requires-clause-rank c =
    let net = c.args.sweep.now.net in
    let order = subst (λ (n : Net). AreByReport n.departures n.by_report) c.net.ensures.net c.by_report.ensures.exact in
    let d = departs net c.args.index order c.requires.index in
    let place = ap (λ l. get_or l c.args.index 0) (c.by_report.ensures.places ∙ ap (λ (n : Net). n.by_report) c.net.ensures.net) in
    let at = (λ i. slice_get (c.net-2.ensures.net i).departures (place i)) ∙ d.own in
    let ranks = c.leaving-ranks.ensures d.departure at ∙ ap (λ (n : Net). ranks_where (leaves_at d.departure) n.duties) c.net-2.ensures.net in
    let rank = get_or c.leaving-ranks.result.now c.loop-rank.rank-index 0 in
    let m = Member-get c.leaving-ranks.result.now c.loop-rank.rank-index 0 c.loop-rank-test.true in
    let r = rank-out (leaves_at d.departure) net.duties rank (subst (λ (l : List _). Member l rank) ranks m) in
    get-within net.duties rank r.0 r.1

pub keep_of_rank-requires-clause-own : goal.keep_of_rank-requires-clause-own
keep_of_rank-requires-clause-own c = λ e known.
    let net = c.args.sweep.now.net in
    let order = subst (λ (n : Net). AreByReport n.departures n.by_report) c.net.ensures.net c.by_report.ensures.exact in
    let d = departs net c.args.index order c.requires.index in
    let place = ap (λ l. get_or l c.args.index 0) (c.by_report.ensures.places ∙ ap (λ (n : Net). n.by_report) c.net.ensures.net) in
    let at = (λ i. slice_get (c.net-2.ensures.net i).departures (place i)) ∙ d.own in
    let ranks = c.leaving-ranks.ensures d.departure at ∙ ap (λ (n : Net). ranks_where (leaves_at d.departure) n.duties) c.net-2.ensures.net in
    let rank = get_or c.leaving-ranks.result.now c.loop-rank.rank-index 0 in
    let m = Member-get c.leaving-ranks.result.now c.loop-rank.rank-index 0 c.loop-rank-test.true in
    let r = rank-out (leaves_at d.departure) net.duties rank (subst (λ (l : List _). Member l rank) ranks m) in
    let same : r.0 ≡ e = (let both : Some r.0 ≡ Some e = sym r.1 ∙ known in (cc)) in
    d.stands ∙ ap Some (leaves-own d.departure r.0 r.2 ∙ ap departure_of same)

pub keep_of_rank-requires-clause-floor : goal.keep_of_rank-requires-clause-floor
keep_of_rank-requires-clause-floor c =
    let b = c.args.sweep.now in
    let first = c.args.kept.now in
    let done = flat_map (home_at b c.args.index) (take c.loop-rank.rank-index c.leaving-ranks.result.now) in
    let same : c.loop-rank.kept.beside ≡ first.beside = ap (λ (k : CheapestSoFar). k.beside) c.loop-rank.invariant.kept ∙ still-beside first done in
    let pool = get_or b.pools c.args.index [] in
    let floor = to_z w64 (of_z w64 c.floor_at-floor.result) in
    let whole : floor ≡ c.floor_at-floor.result = omega (arith, ints) in
    subst (λ o. IsFloor o b floor pool) (sym same) (subst (λ z. IsFloor first.beside b z pool) (sym whole) c.floor_at-floor.ensures.floor)

pub keep_of_rank-requires-clause-marks : goal.keep_of_rank-requires-clause-marks
keep_of_rank-requires-clause-marks c =
    let b = c.args.sweep.now in
    let first = c.args.kept.now in
    let done = flat_map (home_at b c.args.index) (take c.loop-rank.rank-index c.leaving-ranks.result.now) in
    let same : c.loop-rank.kept.beside ≡ first.beside = ap (λ (k : CheapestSoFar). k.beside) c.loop-rank.invariant.kept ∙ still-beside first done in
    subst (λ o. AreMarks o b c.floor_at-floor.new.marks) (sym same) c.floor_at-floor.ensures.marks

pub loop-rank-init : goal.loop-rank-init
loop-rank-init c = record {
  kept = refl;
  floor = from-none c.args.kept.now.beside _;
}

pub loop-rank-preserved : goal.loop-rank-preserved
loop-rank-preserved c =
    let b = c.args.sweep.now in
    let ranks = c.leaving-ranks.result.now in
    let i = c.loop-rank.rank-index in
    let f = home_at b c.args.index in
    let first = c.args.kept.now in
    let done = flat_map f (take i ranks) in
    let more = sym (flat-more f ranks i 0 c.loop-rank-test.true) in
    let own = c.in_ok-cost.cost in
    let low = to_z w64 c.loop-rank.least-bits in
    let least : to_z w64 (of_z w64 c.min-least.result) ≡ c.min-least.result = omega (arith, ints) in
    let same : to_z w64 (of_z w64 own) ≡ own = omega (arith, ints) in
    record {
      kept = c.in_ok-cost.ensures.kept
          ∙ (ap (λ (k : CheapestSoFar). keep_all k (f (get_or ranks i 0))) c.loop-rank.invariant.kept
          ∙ (sym (keep-append first done (f (get_or ranks i 0))) ∙ ap (keep_all first) more));
      floor = subst (CostFrom first.beside _) more (from-more first c.loop-rank.kept done (f (get_or ranks i 0)) low own _ c.loop-rank.invariant.kept c.loop-rank.invariant.floor c.in_ok-cost.ensures.floor (least ∙ (c.min-least.ensures.value ∙ ap (int_min low) same)));
    }

pub returns-clause-kept : goal.returns-clause-kept
returns-clause-kept c =
    let b = c.args.sweep.now in
    let net = b.net in
    let order = subst (λ (n : Net). AreByReport n.departures n.by_report) c.net.ensures.net c.by_report.ensures.exact in
    let d = departs net c.args.index order c.requires.index in
    let place = ap (λ l. get_or l c.args.index 0) (c.by_report.ensures.places ∙ ap (λ (n : Net). n.by_report) c.net.ensures.net) in
    let at = (λ i. slice_get (c.net-2.ensures.net i).departures (place i)) ∙ d.own in
    let ranks = c.leaving-ranks.ensures d.departure at ∙ ap (λ (n : Net). ranks_where (leaves_at d.departure) n.duties) c.net-2.ensures.net in
    let all = take_all c.loop-rank.rank-index c.leaving-ranks.result.now c.loop-rank-test.false in
    let whole : leaving net (slice_get net.departures (get_or net.by_report c.args.index 0)) ≡ ranks_where (leaves_at d.departure) net.duties = ap (leaving net) d.own in
    c.loop-rank.invariant.kept ∙ ap (λ l. keep_all c.args.kept.now (flat_map (home_at b c.args.index) l)) (all ∙ (ranks ∙ sym whole))

pub returns-clause-floor : goal.returns-clause-floor
returns-clause-floor c =
    let b = c.args.sweep.now in
    let net = b.net in
    let order = subst (λ (n : Net). AreByReport n.departures n.by_report) c.net.ensures.net c.by_report.ensures.exact in
    let d = departs net c.args.index order c.requires.index in
    let place = ap (λ l. get_or l c.args.index 0) (c.by_report.ensures.places ∙ ap (λ (n : Net). n.by_report) c.net.ensures.net) in
    let at = (λ i. slice_get (c.net-2.ensures.net i).departures (place i)) ∙ d.own in
    let ranks = c.leaving-ranks.ensures d.departure at ∙ ap (λ (n : Net). ranks_where (leaves_at d.departure) n.duties) c.net-2.ensures.net in
    let all = take_all c.loop-rank.rank-index c.leaving-ranks.result.now c.loop-rank-test.false in
    let whole : leaving net (slice_get net.departures (get_or net.by_report c.args.index 0)) ≡ ranks_where (leaves_at d.departure) net.duties = ap (leaving net) d.own in
    subst (CostFrom c.args.kept.now.beside _) (ap (flat_map (home_at b c.args.index)) (all ∙ (ranks ∙ sym whole))) c.loop-rank.invariant.floor
