use Rattle.std.proofs.Common.{◌≡◌, ◌≤◌, ◌<◌, ◌+◌, ◌-◌, ◌*◌, ℕ, Fits, w64, ◌++◌, ◌∷◌, [], ◌∙◌, ◌<ℤ◌, true, sym, ap, arith, append-nil, get_or, length, length-append, take, refl, List, subst}
use Rattle.std.specs.List.{flat_map}
use Rattle.std.proofs.lemmas.List.{take_all}
use Rattle.std.proofs.lemmas.Option.{get_or_from_slice_get, slice_get-get_or}
use Rattle.std.proofs.lemmas.Int.{ints}
use Rattle.crew_flights.specs.Timetable.{IsFlight}
use Rattle.crew_flights.specs.declared.flight.Flight.{Flight}
use Rattle.crew_duty.specs.Machinery.Held.{held}
use Rattle.crew_duty.specs.Machinery.Filling.{Goes}
use Rattle.crew_pairing.specs.Legality.{last_of, leg_of}
use Rattle.crew_pairing.specs.Machinery.Listing.{is_hopeless, listing, own, timed}
use Rattle.crew_duty.specs.Machinery.Paths.{GoesOn, onward}
use Rattle.crew_duty.specs.Machinery.Plans.{below_place}
use Rattle.crew_pairing.specs.declared.duty.Duty.{Duty}
use Rattle.crew_pairing.specs.declared.leg.TimedLeg.{TimedLeg}
use Rattle.crew_duty.proofs.Filling.{goes-more, goes-none}
use Rattle.crew_duty.proofs.Leads.{leads-at, leads-nowhere, ridden-closed}
use Rattle.crew_duty.proofs.Paths.{ends-longer, path-length, path-longer, path-sound}
use Rattle.crew_duty.proofs.Places.{AreNext-at, AreNext-length}
use Rattle.crew_duty.proofs.Running.{bounded}
use Rattle.rayon.proofs.ListFacts.{IfOk-then}
use Rattle.crew_duty.proofs.Steps.{goes-on}
use Rattle.crew_pairing.proofs.Sums.{last_of-push}
use Rattle.crew_pairing.proofs.Tree.{Each-member, listing-at, listing-closed, listing-last, pop-back, slice_get-Member, slice_get-within}
use Rattle.crew_duty.proofs.search.+tree.Goals as goal

pub step-returns-then-totals-limits-clause-goes : goal.step-returns-then-totals-limits-clause-goes
step-returns-then-totals-limits-clause-goes t c = λ others g path goes.
    let s = c.args.plan.now.settings.now in
    let flights = held c.args.plan.now in
    let first = c.args.first.now in
    let longer = others ++ timed true g ∷ [] in
    let closed = ridden-closed s first others g (omega (arith, c.if-totals-limits.true, path.are_totals.deadheads, c.requires.limits.deadheads)) in
    let none : listing (7 - length others) s flights first longer ≡ [] = listing-closed (7 - length others) s flights first longer closed in
    rw (c.if-deadhead.true, none) (goes-none c.args.so_far c.args.found.now c.requires.so_far)

-- the place of a flight, or of what comes next, in memory
offset-flight : (place n : ℕ) → place < n → n ≤ 5_000 → Fits w64 (place * 32)
offset-flight place n h k = omega arith

offset-next : (place n : ℕ) → place < n → n ≤ 5_000 → Fits w64 (place * 40)
offset-next place n h k = omega arith

pub step-offset_bounds-plan-place : goal.step-offset_bounds-plan-place
step-offset_bounds-plan-place t c =
    let p = c.requires.path in
    let flights = held c.args.plan.now in
    offset-flight c.args.place (length flights.list) (slice_get-within flights.list c.args.place p.1 p.3.flight) c.requires.plan.few

pub step-bounds-plan-place : goal.step-bounds-plan-place
step-bounds-plan-place t c = let p = c.requires.path in slice_get-within c.args.plan.now.flights.now c.args.place p.1 p.3.flight

pub step-after-longer-requires-clause-sound : goal.step-after-longer-requires-clause-sound
step-after-longer-requires-clause-sound t c =
    let p = c.requires.path in
    let flights = held c.args.plan.now in
    let flight = get_or_from_slice_get flights.list c.args.place p.1 c.index-plan-place.result p.3.flight in
    rw flight (Each-member (λ (f : Flight). IsFlight f.id f) flights.list p.1 c.requires.plan.are_flights.each (slice_get-Member flights.list c.args.place p.1 p.3.flight))

pub step-after-longer-requires-clause-bounded : goal.step-after-longer-requires-clause-bounded
step-after-longer-requires-clause-bounded t c =
    let p = c.requires.path in
    bounded (c.args.first.now ∷ p.0) c.args.totals p.2.are_totals (omega (arith, p.2.few)) (path-sound c.requires.plan.are_flights p.2)

pub step-returns-then-forbid-clause-goes : goal.step-returns-then-forbid-clause-goes
step-returns-then-forbid-clause-goes t c = λ others g path goes.
    let s = c.args.plan.now.settings.now in
    let flights = held c.args.plan.now in
    let first = c.args.first.now in
    let d = c.args.deadhead in
    let flight = get_or_from_slice_get flights.list c.args.place g c.index-plan-place.result goes.flight in
    let longer = others ++ timed d g ∷ [] in
    let come = rw flight at (c.after-longer.ensures (first ∷ others) path.are_totals) in
    let last : (last_of first longer).flight ≡ g = ap (λ (l : TimedLeg). l.flight) (last_of-push first others (timed d g)) in
    let tested : c.forbid.result ≡ is_hopeless s first longer = c.forbid.ensures s first longer c.requires.limits come (last ∙ sym flight) in
    let none : listing (7 - length others) s flights first longer ≡ [] = listing-closed (7 - length others) s flights first longer (sym tested ∙ c.if-forbid.true) in
    rw none (goes-none c.args.so_far c.args.found.now c.requires.so_far)

pub step-enter-requires : goal.step-enter-requires
step-enter-requires t c =
    let s = c.args.plan.now.settings.now in
    let flights = held c.args.plan.now in
    let first = c.args.first.now in
    let p = c.requires.path in
    let others = p.0 in
    let g = p.1 in
    let path = p.2 in
    let goes = p.3 in
    let d = c.args.deadhead in
    let flight = get_or_from_slice_get flights.list c.args.place g c.index-plan-place.result goes.flight in
    let longer = others ++ timed d g ∷ [] in
    let come = rw flight at (c.after-longer.ensures (first ∷ others) path.are_totals) in
    let last : (last_of first longer).flight ≡ g = ap (λ (l : TimedLeg). l.flight) (last_of-push first others (timed d g)) in
    let tested : c.forbid.result ≡ is_hopeless s first longer = c.forbid.ensures s first longer c.requires.limits come (last ∙ sym flight) in
    let leg : c.new.result ≡ leg_of (timed d g) = c.new.ensures ∙ ap (λ (f : Flight). leg_of (timed d f)) flight in
    let pushed : c.push.new.self ≡ c.args.key.now ++ leg_of (timed d g) ∷ [] = c.push.ensures ∙ (λ j. c.args.key.now ++ leg j ∷ []) in
    let few : length others < 7 = omega (arith, c.requires.few, path-length path) in
    let more = path-longer s flights first others c.args.key.now c.args.totals c.args.place g d c.push.new.self c.after-longer.result path goes few (sym tested ∙ c.if-forbid.false) pushed come in
    let long : length c.push.new.self ≡ length c.args.key.now + 1 = ap length pushed ∙ length-append c.args.key.now (leg_of (timed d g) ∷ []) in
    (omega (arith, long, c.requires.few), (c.requires.plan, (c.requires.limits, ((longer, more, ends-longer flights.list first others c.args.place g d goes.flight), (c.requires.so_far, c.requires.room)))))

pub step-pop-requires : goal.step-pop-requires
step-pop-requires t c =
    let p = c.requires.path in
    let long : length c.push.new.self ≡ length c.args.key.now + 1 = ap length c.push.ensures ∙ length-append c.args.key.now (c.new.result ∷ []) in
    omega (arith, long, ap length c.in_ok-counted.ensures.kept, path-length p.2)

pub step-returns-clause-goes : goal.step-returns-clause-goes
step-returns-clause-goes t c = λ others g path goes.
    let s = c.args.plan.now.settings.now in
    let flights = held c.args.plan.now in
    let first = c.args.first.now in
    let d = c.args.deadhead in
    let flight = get_or_from_slice_get flights.list c.args.place g c.index-plan-place.result goes.flight in
    let longer = others ++ timed d g ∷ [] in
    let come = rw flight at (c.after-longer.ensures (first ∷ others) path.are_totals) in
    let last : (last_of first longer).flight ≡ g = ap (λ (l : TimedLeg). l.flight) (last_of-push first others (timed d g)) in
    let tested : c.forbid.result ≡ is_hopeless s first longer = c.forbid.ensures s first longer c.requires.limits come (last ∙ sym flight) in
    let leg : c.new.result ≡ leg_of (timed d g) = c.new.ensures ∙ ap (λ (f : Flight). leg_of (timed d f)) flight in
    let pushed : c.push.new.self ≡ c.args.key.now ++ leg_of (timed d g) ∷ [] = c.push.ensures ∙ (λ j. c.args.key.now ++ leg j ∷ []) in
    let few : length others < 7 = omega (arith, c.requires.few, path-length path) in
    let more = path-longer s flights first others c.args.key.now c.args.totals c.args.place g d c.push.new.self c.after-longer.result path goes few (sym tested ∙ c.if-forbid.false) pushed come in
    let listed = c.in_ok-counted.ensures.goes longer more (ends-longer flights.list first others c.args.place g d goes.flight) in
    let room : 8 - length longer ≡ 7 - length others = omega (arith, length-append others (timed d g ∷ [])) in
    rw room at listed

pub step-returns-clause-kept : goal.step-returns-clause-kept
step-returns-clause-kept t c = pop-back c.args.key.now c.enter.new.key c.pop.new.self c.new.result (length c.enter.new.key) refl (c.in_ok-counted.ensures.kept ∙ c.push.ensures) c.pop.ensures

pub enter-returns-then-legs-ge-LEGS-clause-goes : goal.enter-returns-then-legs-ge-LEGS-clause-goes
enter-returns-then-legs-ge-LEGS-clause-goes t c = λ others path ends.
    let s = c.args.plan.now.settings.now in
    let flights = held c.args.plan.now in
    let first = c.args.first.now in
    let full : length others ≡ 7 = omega (arith, c.if-legs-ge-LEGS.true, ap length c.legs.ensures, path-length path, path.few) in
    rw (listing-last s flights first others full path.hope) (c.put_own-counted.ensures others path ends)

pub enter-offset_bounds-plan-last : goal.enter-offset_bounds-plan-last
enter-offset_bounds-plan-last t c =
    let flights = held c.args.plan.now in
    offset-next c.args.last (length flights.list) (slice_get-within flights.list c.args.last _ c.requires.path.2.flight) c.requires.plan.few

pub enter-bounds-plan-last : goal.enter-bounds-plan-last
enter-bounds-plan-last t c =
    let s = c.args.plan.now.settings.now in
    let flights = held c.args.plan.now in
    let inside = slice_get-within flights.list c.args.last _ c.requires.path.2.flight in
    omega (arith, inside, AreNext-length s flights flights.list c.args.plan.now.next.now c.requires.plan.are_next)

pub enter-returns-then-latest-plan-clause-goes : goal.enter-returns-then-latest-plan-clause-goes
enter-returns-then-latest-plan-clause-goes t c = λ others path ends.
    let s = c.args.plan.now.settings.now in
    let flights = held c.args.plan.now in
    let next = c.args.plan.now.next.now in
    let first = c.args.first.now in
    let inside : c.args.last < length next = omega (arith, slice_get-within flights.list c.args.last _ ends.flight, AreNext-length s flights flights.list next c.requires.plan.are_next) in
    let here = get_or next c.args.last c.index-plan-last.result in
    let is = AreNext-at s flights flights.list next c.args.last (last_of first others).flight here c.requires.plan.are_next ends.flight (slice_get-get_or next c.args.last c.index-plan-last.result inside) in
    let latest = c.latest.ensures.value s first (first ∷ others) c.requires.limits path.are_totals in
    let soon : c.latest.result <ℤ here.soonest = omega (arith, ints, c.if-latest-plan.true, c.latest.ensures.least, c.latest.ensures.most, is.least, is.most) in
    let none = leads-nowhere s flights first others (7 - length others) here c.latest.result is latest c.latest.ensures.least soon in
    let mine : listing (8 - length others) s flights first others ≡ own s first others =
    listing-at s flights first others (omega (arith, path.few)) path.hope ∙ ap (λ (l : List Duty). own s first others ++ l) none ∙ append-nil (own s first others) in
    rw mine (c.put_own-counted.ensures others path ends)

pub enter-walk-requires : goal.enter-walk-requires
enter-walk-requires t c =
    let first = c.args.first.now in
    let p = c.requires.path in
    let goes = c.put_own-counted.ensures p.0 p.1 p.2 in
    let few : length c.args.key.now ≤ 7 = omega (arith, c.if-legs-ge-LEGS.false, ap length c.legs.ensures) in
    (omega (arith, few), (c.requires.plan, (c.requires.limits, (few, ((p.0, p.1, p.2.flight), (omega (arith, goes.0), omega (arith, goes.1.0, c.requires.room)))))))

pub enter-returns-clause-goes : goal.enter-returns-clause-goes
enter-returns-clause-goes t c = IfOk-then c.walk.result _ _ c.walk.ensures.goes
    (λ n on others path ends.
    let s = c.args.plan.now.settings.now in
    let flights = held c.args.plan.now in
    let first = c.args.first.now in
    let mine = own s first others in
    let more = onward (7 - length others) s flights first others in
    rw (listing-at s flights first others (omega (arith, path.few)) path.hope)
    (goes-more c.args.so_far mine more c.args.found.now c.put_own-counted.result c.put_own-counted.new.found n c.walk.new.found c.requires.room (c.put_own-counted.ensures others path ends) (on others path ends.flight)))

pub walk-follow_on-requires-clause-last : goal.walk-follow_on-requires-clause-last
walk-follow_on-requires-clause-last t c = slice_get-within c.args.plan.now.flights.now c.args.last _ c.requires.path.2

pub walk-loop-place-init : goal.walk-loop-place-init
walk-loop-place-init t c = record {
  goes = λ others path ends. goes-none c.args.so_far c.args.found.now c.requires.so_far;
  kept = refl;
}

pub walk-step-requires : goal.walk-step-requires
walk-step-requires t c =
    let first = c.args.first.now in
    let p = c.requires.path in
    let others = p.0 in
    let path = p.1 in
    let i = c.loop-place.place-index in
    let items = c.as_slice-place-items.result.now in
    let kept = c.loop-place.invariant.kept in
    let lead = c.in_ok-next.ensures first others c.requires.limits p.2 path.are_totals in
    let at = leads-at _ items i (get_or items i 0) (rw (sym c.as_slice-place-items.ensures) at lead.follow) (slice_get-get_or items i 0 c.loop-place-test.true) in
    let goes = c.loop-place.invariant.goes others path p.2 in
    let long = ap length kept in
    (omega (arith, long, c.requires.few), (c.requires.plan, (c.requires.limits, (omega (arith, long, c.requires.few), ((others, at.0, rw kept path, record { flight = at.1; follows = at.2 }), (omega (arith, goes.0), omega (arith, goes.1.0, c.requires.room)))))))

pub walk-step-requires-in-loop-place : goal.walk-step-requires-in-loop-place
walk-step-requires-in-loop-place t c =
    let s = c.args.plan.now.settings.now in
    let flights = held c.args.plan.now in
    let first = c.args.first.now in
    let p = c.requires.path in
    let others = p.0 in
    let path = p.1 in
    let i = c.loop-place.place-index in
    let items = c.as_slice-place-items.result.now in
    let before = c.loop-place.invariant.kept in
    let kept : c.step.new.key ≡ c.args.key.now = c.in_ok-counted.ensures.kept ∙ before in
    let lead = c.in_ok-next.ensures first others c.requires.limits p.2 path.are_totals in
    let at = leads-at _ items i (get_or items i 0) (rw (sym c.as_slice-place-items.ensures) at lead.follow) (slice_get-get_or items i 0 c.loop-place-test.true) in
    let on : GoesOn s flights first others (get_or items i 0) at.0 = record { flight = at.1; follows = at.2 } in
    let goes = c.in_ok-counted.ensures.goes others at.0 (rw before path) on in
    let long = ap length kept in
    (omega (arith, long, c.requires.few), (c.requires.plan, (c.requires.limits, (omega (arith, long, c.requires.few), ((others, at.0, rw kept path, on), (omega (arith, goes.0), omega (arith, goes.1.0, (c.loop-place.invariant.goes others path p.2).1.0, c.requires.room)))))))

pub walk-loop-place-preserved : goal.walk-loop-place-preserved
walk-loop-place-preserved t c = record {
  goes = λ others path ends.
      let s = c.args.plan.now.settings.now in
      let flights = held c.args.plan.now in
      let first = c.args.first.now in
      let i = c.loop-place.place-index in
      let items = c.as_slice-place-items.result.now in
      let before = c.loop-place.invariant.kept in
      let kept : c.step.new.key ≡ c.args.key.now = c.in_ok-counted.ensures.kept ∙ before in
      let lead = c.in_ok-next.ensures first others c.requires.limits ends path.are_totals in
      let here = slice_get-get_or items i 0 c.loop-place-test.true in
      let at = leads-at _ items i (get_or items i 0) (rw (sym c.as_slice-place-items.ensures) at lead.follow) here in
      let on : GoesOn s flights first others (get_or items i 0) at.0 = record { flight = at.1; follows = at.2 } in
      let flown = c.in_ok-counted.ensures.goes others at.0 (rw before path) on in
      let ridden = c.in_ok-counted-2.ensures.goes others at.0 (rw kept path) on in
      goes-on (7 - length others) s flights first others items i (get_or items i 0) at.0 [] c.args.so_far c.args.found.now c.loop-place.counted c.loop-place.found c.in_ok-counted.counted c.step.new.found
      c.in_ok-counted-2.counted c.step-in-loop-place.new.found c.requires.room here at.1 (c.loop-place.invariant.goes others path ends) flown ridden;
  kept = c.in_ok-counted-2.ensures.kept ∙ (c.in_ok-counted.ensures.kept ∙ c.loop-place.invariant.kept);
}

pub walk-returns-clause-goes : goal.walk-returns-clause-goes
walk-returns-clause-goes t c = λ others path ends.
    let s = c.args.plan.now.settings.now in
    let flights = held c.args.plan.now in
    let first = c.args.first.now in
    let items = c.as_slice-place-items.result.now in
    let lead = c.in_ok-next.ensures first others c.requires.limits ends path.are_totals in
    let B = below_place (7 - length others) s flights first others in
    let all : take c.loop-place.place-index items ≡ items = take_all c.loop-place.place-index items c.loop-place-test.false in
    let leads : flat_map B (take c.loop-place.place-index items) ≡ onward (7 - length others) s flights first others = ap (flat_map B) all ∙ ap (flat_map B) c.as_slice-place-items.ensures ∙ lead.all (7 - length others) in
    subst (λ (l : List Duty). Goes c.args.so_far l c.args.found.now c.loop-place.counted c.loop-place.found) leads (c.loop-place.invariant.goes others path ends)

pub walk-returns-clause-kept : goal.walk-returns-clause-kept
walk-returns-clause-kept t c = c.loop-place.invariant.kept
