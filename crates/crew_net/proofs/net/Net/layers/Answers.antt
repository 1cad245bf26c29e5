use Rattle.std.proofs.Common.{◌≡◌, ◌≤◌, ◌<◌, ◌∙◌, ◌+◌, ◌++◌, ◌⊎◌, inl, inr, replicate, Fits, List, ap, arith, drop, get_or, length, rules, subst, sym, take, w32, ℕ}
use Rattle.std.proofs.Math.Seq.{take-append_seam}
use Rattle.std.proofs.lemmas.List.{get_or-replicate, get_or_past, length-replicate}
use Rattle.crew_net.proofs.Segments.{le-or-lt}
use Rattle.crew_net.specs.Machinery.Raised.{IsRaised, StandsIn}
use Rattle.crew_net.specs.Nets.{Net}
use Rattle.crew_net.proofs.InTime.{IsTimed, is-timed, item-at, leaver-within, order-at, place-within, reach-within}
use Rattle.crew_net.proofs.Laid.{AreLaid, all-laid, laid-more, layer-few, none-laid}
use Rattle.crew_resource.specs.Members.{Member}
use Rattle.crew_net.proofs.net.Net.layers.Goals as goal

zeros : (numbers : List ℕ) (n : ℕ) → numbers ≡ replicate n 0 → (k : ℕ) → get_or numbers k 0 ≡ 0
zeros numbers n e k = ap (λ (ns : List ℕ). get_or ns k 0) e ∙ elim (le-or-lt n k) [
  | inl l ↦ get_or_past (replicate n 0) k 0 (let h = length-replicate {A = ℕ} n 0 in omega (arith, l, h))
  | inr l ↦ get_or-replicate n k 0 0 l
]

small : (n i : ℕ) → n ≤ i → i < 200_000 → Fits w32 (n + 1)
small n i a b = let c : n < 200_000 = omega (arith, a, b) in search (rules, c)

whole : (now was : List ℕ) (len : ℕ) → length now ≡ len → take len (now ++ drop (length now) was) ≡ now
whole now was len e = ap (λ (n : ℕ). take n (now ++ drop (length now) was)) (sym e) ∙ take-append_seam now (drop (length now) was)

-- what is raised to a number at the places of some ranks
abbrev Raised : List ℕ → List ℕ → ℕ → List ℕ → List ℕ → Type 0
Raised ranks places layer next next' =
    ((k : ℕ) → get_or next k 0 ≤ get_or next' k 0)
    × ((rank : ℕ) → Member ranks rank → layer ≤ get_or next' (get_or places rank 0) 0)
    × ((k : ℕ) → (get_or next' k 0 ≡ get_or next k 0) ⊎ IsRaised ranks places layer k (get_or next' k 0))

pub loop-departure-init : goal.loop-departure-init
loop-departure-init c =
    let net = c.args.self.now in
    let layers = c.in_ok-layers.layers.items in
    let next = c.in_ok-next.next.items in
    let long : length layers ≡ length c.self.inside.duties.value = search rules in
    let next-long : length next ≡ length net.arrivals = search rules in
    none-laid net layers next (long ∙ ap (λ (n : Net). length n.duties) c.self.view_is) next-long (zeros next (length c.arrivals.result.now) (c.in_ok-next.ensures.items_if_clones_equal (λ y e. e)))

pub window-requires : goal.window-requires
window-requires c =
    let net = c.args.self.now in
    let n = c.self.inside in
    let t = subst IsTimed c.self.view_is (is-timed n.settings n.bases.items n.duties.value n.events.value.leave n.events.value.arrive n.events.value.departures.items n.events.value.arrivals.items n.events.value.by_report.items c.self.invariant) in
    place-within net c.by_report-departure-items.result.now c.by_report-departure-items.ensures.places c.loop-departure.departure-index c.loop-departure-test.true t.timed.ordered

pub greatest-layer-requires : goal.greatest-layer-requires
greatest-layer-requires c =
    let net = c.args.self.now in
    let n = c.self.inside in
    let t = subst IsTimed c.self.view_is (is-timed n.settings n.bases.items n.duties.value n.events.value.leave n.events.value.arrive n.events.value.departures.items n.events.value.arrivals.items n.events.value.by_report.items c.self.invariant) in
    let p = get_or c.by_report-departure-items.result.now c.loop-departure.departure-index 0 in
    let within = place-within net c.by_report-departure-items.result.now c.by_report-departure-items.ensures.places c.loop-departure.departure-index c.loop-departure-test.true t.timed.ordered in
    let g = item-at net.departures p within in
    let window = c.window.ensures g.0 g.1 in
    let long = c.loop-departure.invariant.next_long in
    let same = ap length c.deref-in-loop-departure.ensures.value in
    let end = window.within in
    record { ordered = window.ordered; within = omega (arith, end, long, same) }

pub leaving-requires : goal.leaving-requires
leaving-requires c =
    let net = c.args.self.now in
    let n = c.self.inside in
    let t = subst IsTimed c.self.view_is (is-timed n.settings n.bases.items n.duties.value n.events.value.leave n.events.value.arrive n.events.value.departures.items n.events.value.arrivals.items n.events.value.by_report.items c.self.invariant) in
    place-within net c.by_report-departure-items.result.now c.by_report-departure-items.ensures.places c.loop-departure.departure-index c.loop-departure-test.true t.timed.ordered

pub leaving-requires-in-loop-departure : goal.leaving-requires-in-loop-departure
leaving-requires-in-loop-departure c =
    let net = c.args.self.now in
    let n = c.self.inside in
    let t = subst IsTimed c.self.view_is (is-timed n.settings n.bases.items n.duties.value n.events.value.leave n.events.value.arrive n.events.value.departures.items n.events.value.arrivals.items n.events.value.by_report.items c.self.invariant) in
    place-within net c.by_report-departure-items.result.now c.by_report-departure-items.ensures.places c.loop-departure.departure-index c.loop-departure-test.true t.timed.ordered

pub write_at-requires : goal.write_at-requires
write_at-requires c = λ rank m.
    let net = c.args.self.now in
    let n = c.self.inside in
    let t = subst IsTimed c.self.view_is (is-timed n.settings n.bases.items n.duties.value n.events.value.leave n.events.value.arrive n.events.value.departures.items n.events.value.arrivals.items n.events.value.by_report.items c.self.invariant) in
    let p = get_or c.by_report-departure-items.result.now c.loop-departure.departure-index 0 in
    let within = place-within net c.by_report-departure-items.result.now c.by_report-departure-items.ensures.places c.loop-departure.departure-index c.loop-departure-test.true t.timed.ordered in
    let g = item-at net.departures p within in
    let bound = leaver-within net g.0 c.leaving.result.now (c.leaving.ensures g.0 g.1) rank m in
    let long = c.loop-departure.invariant.long in
    let same = ap length c.deref_mut.ensures.value in
    omega (arith, bound, long, same)

pub overflow_add-layer : goal.overflow_add-layer
overflow_add-layer c =
    let net = c.args.self.now in
    let n = c.self.inside in
    let t = subst IsTimed c.self.view_is (is-timed n.settings n.bases.items n.duties.value n.events.value.leave n.events.value.arrive n.events.value.departures.items n.events.value.arrivals.items n.events.value.by_report.items c.self.invariant) in
    let order = c.by_report-departure-items.result.now in
    let i = c.loop-departure.departure-index in
    let p = get_or order i 0 in
    let same = c.by_report-departure-items.ensures.places in
    let at = order-at net order same i c.loop-departure-test.true in
    let within = place-within net order same i c.loop-departure-test.true t.timed.ordered in
    let g = item-at net.departures p within in
    let w = c.window.result in
    let next = c.loop-departure.next.items in
    let value = c.deref-in-loop-departure.ensures.value in
    let layer = c.greatest-layer.result in
    let most : (k : ℕ) → w.from ≤ k → k < w.end → get_or next k 0 ≤ layer = subst (λ (ns : List ℕ). (k : ℕ) → w.from ≤ k → k < w.end → get_or ns k 0 ≤ layer) value c.greatest-layer.ensures.most in
    let tied : (layer ≡ 0) ⊎ StandsIn next w layer = subst (λ (ns : List ℕ). (layer ≡ 0) ⊎ StandsIn ns w layer) value c.greatest-layer.ensures.tied in
    let few = layer-few net t.timed i p g.0 at g.1 w (c.window.ensures g.0 g.1) c.loop-departure.layers.items next c.loop-departure.invariant layer most tied in
    let all = t.few in
    let long = ap length same in
    let test = c.loop-departure-test.true in
    small layer i few (omega (arith, all, long, test))

pub raise-requires-clause-ranks : goal.raise-requires-clause-ranks
raise-requires-clause-ranks c = λ rank m.
    let net = c.args.self.now in
    let n = c.self.inside in
    let t = subst IsTimed c.self.view_is (is-timed n.settings n.bases.items n.duties.value n.events.value.leave n.events.value.arrive n.events.value.departures.items n.events.value.arrivals.items n.events.value.by_report.items c.self.invariant) in
    let p = get_or c.by_report-departure-items.result.now c.loop-departure.departure-index 0 in
    let within = place-within net c.by_report-departure-items.result.now c.by_report-departure-items.ensures.places c.loop-departure.departure-index c.loop-departure-test.true t.timed.ordered in
    let g = item-at net.departures p within in
    let bound = leaver-within net g.0 c.leaving-in-loop-departure.result.now (c.leaving-in-loop-departure.ensures g.0 g.1) rank m in
    let long = c.in_ok-places.ensures.long in
    let same = ap length c.deref-in-loop-departure-2.ensures.value in
    omega (arith, bound, long, same)

pub raise-requires-clause-places : goal.raise-requires-clause-places
raise-requires-clause-places c = λ rank m.
    let net = c.args.self.now in
    let n = c.self.inside in
    let t = subst IsTimed c.self.view_is (is-timed n.settings n.bases.items n.duties.value n.events.value.leave n.events.value.arrive n.events.value.departures.items n.events.value.arrivals.items n.events.value.by_report.items c.self.invariant) in
    let p = get_or c.by_report-departure-items.result.now c.loop-departure.departure-index 0 in
    let within = place-within net c.by_report-departure-items.result.now c.by_report-departure-items.ensures.places c.loop-departure.departure-index c.loop-departure-test.true t.timed.ordered in
    let g = item-at net.departures p within in
    let bound = reach-within net g.0 c.leaving-in-loop-departure.result.now (c.leaving-in-loop-departure.ensures g.0 g.1) rank m c.in_ok-places.places.items c.in_ok-places.ensures in
    let place = ap (λ (ps : List ℕ). get_or ps rank 0) c.deref-in-loop-departure-2.ensures.value in
    let long = c.loop-departure.invariant.next_long in
    let same = ap length c.deref_mut-in-loop-departure.ensures.value in
    omega (arith, bound, place, long, same)

pub loop-departure-preserved : goal.loop-departure-preserved
loop-departure-preserved c =
    let net = c.args.self.now in
    let n = c.self.inside in
    let t = subst IsTimed c.self.view_is (is-timed n.settings n.bases.items n.duties.value n.events.value.leave n.events.value.arrive n.events.value.departures.items n.events.value.arrivals.items n.events.value.by_report.items c.self.invariant) in
    let order = c.by_report-departure-items.result.now in
    let i = c.loop-departure.departure-index in
    let p = get_or order i 0 in
    let same = c.by_report-departure-items.ensures.places in
    let at = order-at net order same i c.loop-departure-test.true in
    let within = place-within net order same i c.loop-departure-test.true t.timed.ordered in
    let g = item-at net.departures p within in
    let w = c.window.result in
    let layers = c.loop-departure.layers.items in
    let next = c.loop-departure.next.items in
    let value = c.deref-in-loop-departure.ensures.value in
    let layer = c.greatest-layer.result in
    let most : (k : ℕ) → w.from ≤ k → k < w.end → get_or next k 0 ≤ layer = subst (λ (ns : List ℕ). (k : ℕ) → w.from ≤ k → k < w.end → get_or ns k 0 ≤ layer) value c.greatest-layer.ensures.most in
    let tied : (layer ≡ 0) ⊎ StandsIn next w layer = subst (λ (ns : List ℕ). (layer ≡ 0) ⊎ StandsIn ns w layer) value c.greatest-layer.ensures.tied in
    let places = c.in_ok-places.places.items in
    let ranks = c.leaving.result.now in
    let ranks-are = c.leaving.ensures g.0 g.1 in
    let again : c.leaving-in-loop-departure.result.now ≡ ranks = c.leaving-in-loop-departure.ensures g.0 g.1 ∙ sym ranks-are in
    let layers' = c.write_at.new.places in
    let next' = c.raise.new.next in
    let was = c.deref_mut.ensures.value in
    let next-was = c.deref_mut-in-loop-departure.ensures.value in
    let long : length layers' ≡ length layers = c.write_at.ensures.long ∙ ap length was in
    let next-long : length next' ≡ length next = c.raise.ensures.long ∙ ap length next-was in
    let raised : Raised ranks places (layer + 1) next next' =
    subst (λ (rs : List ℕ). Raised rs places (layer + 1) next next') again
    (subst (λ (ps : List ℕ). Raised c.leaving-in-loop-departure.result.now ps (layer + 1) next next') c.deref-in-loop-departure-2.ensures.value
    (subst (λ (ns : List ℕ). Raised c.leaving-in-loop-departure.result.now c.deref-in-loop-departure-2.result.now (layer + 1) ns next') next-was
    (c.raise.ensures.kept, c.raise.ensures.there, c.raise.ensures.from))) in
    let more = laid-more net t.timed i p g.0 at g.1 w (c.window.ensures g.0 g.1) layers next c.loop-departure.invariant layer most tied
    places c.in_ok-places.ensures ranks ranks-are layers' next' long c.write_at.ensures.there
    (λ rank out. c.write_at.ensures.elsewhere rank out ∙ ap (λ (ns : List ℕ). get_or ns rank 0) was)
    next-long raised.0 raised.1 raised.2 in
    subst (λ (ns : List ℕ). AreLaid net (i + 1) ns (take c.loop-departure.next.len (next' ++ drop (length next') next))) (sym (whole layers' layers c.loop-departure.layers.len (c.write_at.ensures.long ∙ c.deref_mut.ensures.len)))
    (subst (λ (ns : List ℕ). AreLaid net (i + 1) layers' ns) (sym (whole next' next c.loop-departure.next.len (c.raise.ensures.long ∙ c.deref_mut-in-loop-departure.ensures.len))) more)

pub returns : goal.returns
returns c =
    let net = c.args.self.now in
    let n = c.self.inside in
    let t = subst IsTimed c.self.view_is (is-timed n.settings n.bases.items n.duties.value n.events.value.leave n.events.value.arrive n.events.value.departures.items n.events.value.arrivals.items n.events.value.by_report.items c.self.invariant) in
    let all = c.loop-departure-test.false in
    let long = ap length c.by_report-departure-items.ensures.places in
    all-laid net t.timed c.loop-departure.departure-index c.loop-departure.layers.items c.loop-departure.next.items (omega (arith, all, long)) c.loop-departure.invariant
