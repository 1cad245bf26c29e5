use Rattle.std.proofs.Common.{◌≡◌, ◌+◌, ◌++◌, ◌⊎◌, ◌∙◌, Bool, List, ℕ, true, false, ap, arith, drop, get_or, length, subst, sym, take}
use Rattle.std.specs.Prelude.{◌↔◌}
use Rattle.std.proofs.Math.Seq.{take-append_seam}
use Rattle.crew_dirty.specs.Carried.{AreFlags}
use Rattle.crew_dirty.specs.Dirty.{IsSameDuty}
use Rattle.crew_dirty.specs.Machinery.Marks.{IsClear, IsMarkedBy}
use Rattle.crew_net.proofs.InTime.{item-at, leaver-within, order-at, place-within, reach-within}
use Rattle.crew_net.proofs.Laid.{IsInTime}
use Rattle.crew_net.specs.Nets.{Net}
use Rattle.crew_dirty.proofs.Passed.{IsPassed, all-passed, passed-more}
use Rattle.crew_dirty.proofs.reach.unreached_duties.Goals as goal

whole : (now was : List Bool) (len : ℕ) → length now ≡ len → take len (now ++ drop (length now) was) ≡ now
whole now was len e = ap (λ (n : ℕ). take n (now ++ drop (length now) was)) (sym e) ∙ take-append_seam now (drop (length now) was)

pub window-requires : goal.window-requires
window-requires c = place-within c.args.net.now c.by_report-departure-items.result.now c.by_report-departure-items.ensures.places c.loop-departure.departure-index c.loop-departure-test.true c.by_report-departure-items.ensures.exact

pub is_clear-clear-requires-clause-ordered : goal.is_clear-clear-requires-clause-ordered
is_clear-clear-requires-clause-ordered c =
    let net = c.args.net.now in
    let p = get_or c.by_report-departure-items.result.now c.loop-departure.departure-index 0 in
    let within = place-within net c.by_report-departure-items.result.now c.by_report-departure-items.ensures.places c.loop-departure.departure-index c.loop-departure-test.true c.by_report-departure-items.ensures.exact in
    let g = item-at net.departures p within in
    (c.window.ensures g.0 g.1).ordered

pub is_clear-clear-requires-clause-within : goal.is_clear-clear-requires-clause-within
is_clear-clear-requires-clause-within c =
    let net = c.args.net.now in
    let p = get_or c.by_report-departure-items.result.now c.loop-departure.departure-index 0 in
    let within = place-within net c.by_report-departure-items.result.now c.by_report-departure-items.ensures.places c.loop-departure.departure-index c.loop-departure-test.true c.by_report-departure-items.ensures.exact in
    let g = item-at net.departures p within in
    let end = (c.window.ensures g.0 g.1).within in
    let long = c.loop-departure.invariant.1 in
    let same = ap length c.deref.ensures.value in
    omega (arith, end, long, same)

pub leaving-requires : goal.leaving-requires
leaving-requires c = place-within c.args.net.now c.by_report-departure-items.result.now c.by_report-departure-items.ensures.places c.loop-departure.departure-index c.loop-departure-test.true c.by_report-departure-items.ensures.exact

pub leaving-requires-in-loop-departure : goal.leaving-requires-in-loop-departure
leaving-requires-in-loop-departure c = place-within c.args.net.now c.by_report-departure-items.result.now c.by_report-departure-items.ensures.places c.loop-departure.departure-index c.loop-departure-test.true c.by_report-departure-items.ensures.exact

pub put_flags-requires-clause-ranks : goal.put_flags-requires-clause-ranks
put_flags-requires-clause-ranks c rank m =
    let net = c.args.net.now in
    let p = get_or c.by_report-departure-items.result.now c.loop-departure.departure-index 0 in
    let within = place-within net c.by_report-departure-items.result.now c.by_report-departure-items.ensures.places c.loop-departure.departure-index c.loop-departure-test.true c.by_report-departure-items.ensures.exact in
    let g = item-at net.departures p within in
    let bound = leaver-within net g.0 c.leaving.result.now (c.leaving.ensures g.0 g.1) rank m in
    let long = c.loop-departure.invariant.0 in
    let same = ap length c.deref_mut.ensures.value in
    omega (arith, bound, long, same)

pub put_flags-requires-clause-others : goal.put_flags-requires-clause-others
put_flags-requires-clause-others c rank m =
    let net = c.args.net.now in
    let p = get_or c.by_report-departure-items.result.now c.loop-departure.departure-index 0 in
    let within = place-within net c.by_report-departure-items.result.now c.by_report-departure-items.ensures.places c.loop-departure.departure-index c.loop-departure-test.true c.by_report-departure-items.ensures.exact in
    let g = item-at net.departures p within in
    let bound = leaver-within net g.0 c.leaving.result.now (c.leaving.ensures g.0 g.1) rank m in
    let long = c.requires.long in
    omega (arith, bound, long)

pub mark-requires-clause-ranks : goal.mark-requires-clause-ranks
mark-requires-clause-ranks c rank m =
    let net = c.args.net.now in
    let p = get_or c.by_report-departure-items.result.now c.loop-departure.departure-index 0 in
    let within = place-within net c.by_report-departure-items.result.now c.by_report-departure-items.ensures.places c.loop-departure.departure-index c.loop-departure-test.true c.by_report-departure-items.ensures.exact in
    let g = item-at net.departures p within in
    let bound = leaver-within net g.0 c.leaving-in-loop-departure.result.now (c.leaving-in-loop-departure.ensures g.0 g.1) rank m in
    let long = c.in_ok-places.ensures.long in
    let same = ap length c.deref-in-loop-departure.ensures.value in
    omega (arith, bound, long, same)

pub mark-requires-clause-places : goal.mark-requires-clause-places
mark-requires-clause-places c rank m =
    let net = c.args.net.now in
    let p = get_or c.by_report-departure-items.result.now c.loop-departure.departure-index 0 in
    let within = place-within net c.by_report-departure-items.result.now c.by_report-departure-items.ensures.places c.loop-departure.departure-index c.loop-departure-test.true c.by_report-departure-items.ensures.exact in
    let g = item-at net.departures p within in
    let bound = reach-within net g.0 c.leaving-in-loop-departure.result.now (c.leaving-in-loop-departure.ensures g.0 g.1) rank m c.in_ok-places.places.items c.in_ok-places.ensures in
    let place = ap (λ (ps : List ℕ). get_or ps rank 0) c.deref-in-loop-departure.ensures.value in
    let long = c.loop-departure.invariant.1 in
    let same = ap length c.deref_mut-in-loop-departure.ensures.value in
    omega (arith, bound, place, long, same)

-- marks are put at the places of the ranks without a flag
abbrev Marked : List ℕ → List ℕ → List Bool → List Bool → List Bool → Type 0
Marked ranks places flags marks marks' =
    ((k : ℕ) → get_or marks k false ≡ true → get_or marks' k false ≡ true)
    × ((k : ℕ) → IsMarkedBy ranks places flags k → get_or marks' k false ≡ true)
    × ((k : ℕ) → get_or marks' k false ≡ true → (get_or marks k false ≡ true) ⊎ IsMarkedBy ranks places flags k)

pub loop-departure-preserved : goal.loop-departure-preserved
loop-departure-preserved c =
    let net = c.args.net.now in
    let order = c.by_report-departure-items.result.now in
    let i = c.loop-departure.departure-index in
    let p = get_or order i 0 in
    let same = c.by_report-departure-items.ensures.places in
    let at = order-at net order same i c.loop-departure-test.true in
    let within = place-within net order same i c.loop-departure-test.true c.by_report-departure-items.ensures.exact in
    let g = item-at net.departures p within in
    let w = c.window.result in
    let unreached = c.loop-departure.unreached.items in
    let marks = c.loop-departure.marks.items in
    let unreached' = c.put_flags.new.flags in
    let marks' = c.mark.new.marks in
    let flags = c.args.flags.now in
    let places = c.in_ok-places.places.items in
    let ranks = c.leaving.result.now in
    let ranks-are = c.leaving.ensures g.0 g.1 in
    let again : c.leaving-in-loop-departure.result.now ≡ ranks = c.leaving-in-loop-departure.ensures g.0 g.1 ∙ sym ranks-are in
    let was = c.deref_mut.ensures.value in
    let marks-was = c.deref_mut-in-loop-departure.ensures.value in
    let long : length unreached' ≡ length unreached = c.put_flags.ensures.long ∙ ap length was in
    let marks-long : length marks' ≡ length marks = c.mark.ensures.long ∙ ap length marks-was in
    let timed : IsInTime net = record { departs = c.departures-departures.ensures.exact; arrives = c.arrivals.ensures.exact; ordered = c.by_report-departure-items.ensures.exact; forward = c.requires.forward } in
    let told : (c.is_clear-clear.result ≡ true) ↔ IsClear marks w = subst (λ (ms : List Bool). (c.is_clear-clear.result ≡ true) ↔ IsClear ms w) c.deref.ensures.value c.is_clear-clear.ensures in
    let marked : Marked ranks places unreached' marks marks' =
    subst (λ (rs : List ℕ). Marked rs places unreached' marks marks') again
    (subst (λ (ps : List ℕ). Marked c.leaving-in-loop-departure.result.now ps unreached' marks marks') c.deref-in-loop-departure.ensures.value
    (subst (λ (fs : List Bool). Marked c.leaving-in-loop-departure.result.now c.deref-in-loop-departure.result.now fs marks marks') (c.deref-in-loop-departure-2.ensures.value ∙ whole unreached' unreached c.loop-departure.unreached.len (c.put_flags.ensures.long ∙ c.deref_mut.ensures.len))
    (subst (λ (ms : List Bool). Marked c.leaving-in-loop-departure.result.now c.deref-in-loop-departure.result.now c.deref-in-loop-departure-2.result.now ms marks') marks-was
    (c.mark.ensures.kept, c.mark.ensures.there, c.mark.ensures.from)))) in
    let whole-unreached = whole unreached' unreached c.loop-departure.unreached.len (c.put_flags.ensures.long ∙ c.deref_mut.ensures.len) in
    let whole-marks = whole marks' marks c.loop-departure.marks.len (c.mark.ensures.long ∙ c.deref_mut-in-loop-departure.ensures.len) in
    let Passing : List Bool → List Bool → Type 0 = λ us ms. (length us ≡ length net.duties) × (length ms ≡ length net.arrivals) × ((old : Net) → AreFlags (IsSameDuty old net) net.duties flags → IsPassed old net (i + 1) us ms) in
    let next : Passing unreached' marks' = (
      long ∙ c.loop-departure.invariant.0,
      marks-long ∙ c.loop-departure.invariant.1,
      λ old are-flags.
          passed-more net timed i p g.0 at g.1 w (c.window.ensures g.0 g.1) places c.in_ok-places.ensures ranks ranks-are flags unreached marks unreached' marks' c.is_clear-clear.result told c.put_flags.ensures.there
          (λ rank out. c.put_flags.ensures.elsewhere rank out ∙ ap (λ (fs : List Bool). get_or fs rank false) was) marked.0 marked.1 marked.2 old are-flags (c.loop-departure.invariant.2 old are-flags),
    ) in
    subst (λ (us : List Bool). Passing us (take c.loop-departure.marks.len (marks' ++ drop (length marks') marks))) (sym whole-unreached) (subst (λ (ms : List Bool). Passing unreached' ms) (sym whole-marks) next)

pub returns : goal.returns
returns c =
    let net = c.args.net.now in
    let all = c.loop-departure-test.false in
    let long = ap length c.by_report-departure-items.ensures.places in
    let timed : IsInTime net = record { departs = c.departures-departures.ensures.exact; arrives = c.arrivals.ensures.exact; ordered = c.by_report-departure-items.ensures.exact; forward = c.requires.forward } in
    λ old are-flags. all-passed net timed old c.loop-departure.departure-index c.loop-departure.unreached.items c.loop-departure.marks.items (omega (arith, all, long)) (c.loop-departure.invariant.2 old are-flags)
