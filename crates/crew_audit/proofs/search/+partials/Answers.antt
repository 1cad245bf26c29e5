use Rattle.std.proofs.Common.{refl, ◌≡◌, ◌≤◌, ◌+◌, ◌-◌, ◌++◌, ◌∷◌, [], ◌∙◌, List, true, false, sym, ap, arith, length, length-append, take}
use Rattle.std.specs.List.{flat_map}
use Rattle.std.proofs.lemmas.List.{take_all}
use Rattle.std.proofs.lemmas.Result.{err_from_is_err_and, on_ok_weaker}
use Rattle.crew_flights.specs.declared.flight.Flight.{Flight}
use Rattle.crew_pairing.specs.Legality.{duty_of, last_of, may_follow}
use Rattle.crew_pairing.specs.Machinery.Listing.{from_flight, listing, timed}
use Rattle.crew_pairing.specs.declared.duty.Duty.{Duty}
use Rattle.crew_pairing.specs.declared.leg.TimedLeg.{TimedLeg}
use Rattle.crew_pairing.proofs.Legal.{known-sound}
use Rattle.crew_pairing.proofs.Tree.{IsBeginning-more, listing-closed, listing-longer, listing-none}
use Rattle.crew_audit.specs.Machinery.Listing.{keeps_totals, with_next}
use Rattle.crew_audit.specs.declared.partial.Partial.{Partial}
use Rattle.crew_audit.proofs.Flat.{item-at, item-known}
use Rattle.crew_audit.proofs.Taking.{joined-up, over-after, over-first, over-second, took-at, took-both, took-join, took-none, took-over, took-skip}
use Rattle.crew_audit.proofs.Steps.{after-flights, after-full, after-near, begun-on, join-legs, legs-near, legs-open, longer-few, longer-ranges, more-than, not-joined, not-within, onward, onward-off, onward-on, own-listed}
use Rattle.crew_audit.proofs.search.+partials.Goals as goal
use Rattle.crew_audit.proofs.search.+partials.Goals.{list_after-then-may_leave+in_ok-list_from, list_after-else-may_leave, list_legs-then-others-ge-LEGS-via-then-others-ge-LEGS, list_legs-then-others-ge-LEGS-via-else-others-ge-LEGS+then-cannot_begin, list_legs-then-may_come_next+in_ok-list_below, list_legs-else-may_come_next}

pub list_after-returns-then-before-scope-clause-ok : goal.list_after-returns-then-before-scope-clause-ok
list_after-returns-then-before-scope-clause-ok bound t c =
    let s = c.args.scope.now.settings.now in
    let none = after-full s.max_duties (length c.args.before.now) s c.args.scope.now.flights.now c.args.scope.now.base c.args.scope.now.base_price c.args.before.now c.if-before-scope.true in
    rw none (took-none bound.F.Sink.count bound.F.Sink.holds c.args.found.now)

pub list_after-list_from-requires : goal.list_after-list_from-requires
list_after-list_from-requires bound t c =
    let flights = c.args.scope.now.flights.now in
    let i = c.loop-flight.flight-index in
    let f = c.flight-item.result in
    let near = c.next_duties-leaving.result.now in
    let known = c.next_duties-leaving.ensures.known f (item-known near i f c.loop-flight-test.true c.flight-item.is) in
    λ κs within. (omega arith, (within, (c.requires.checked, (c.requires.flights, (c.requires.price, (c.if-before-scope.false, (c.requires.ranges, (known, (sym c.may_leave.ensures ∙ c.if-may_leave.true, c.loop-flight.invariant.room)))))))))

pub list_after-returns-in_err-list_from-clause-over : goal.list_after-returns-in_err-list_from-clause-over
list_after-returns-in_err-list_from-clause-over bound t c =
    let s = c.args.scope.now.settings.now in
    let flights = c.args.scope.now.flights.now in
    let base = c.args.scope.now.base in
    let price = c.args.scope.now.base_price in
    let before = c.args.before.now in
    let n = s.max_duties - (length before + 1) in
    let i = c.loop-flight.flight-index in
    let f = c.flight-item.result in
    let near = c.next_duties-leaving.result.now in
    let at = item-at near i f c.loop-flight-test.true c.flight-item.is in
    let opened = after-flights s.max_duties (length before) s flights base price before c.if-before-scope.false in
    let p = err_from_is_err_and c.from_residual.result c.from_residual.ensures.1 in
    let whole = after-near n s flights base price before near c.next_duties-leaving.ensures in
    λ e. rw opened (rw (← whole)
    (took-over bound.F.Sink.count bound.F.Sink.holds (λ (g : Flight). flat_map (with_next n s flights base price before) (from_flight s flights g)) near i f c.args.found.now c.loop-flight.found c.args.scope.now.limit at
    c.loop-flight.invariant.found (c.in_err-list_from.ensures.over (cc))))

pub list_after-loop-flight-preserved : goal.list_after-loop-flight-preserved
list_after-loop-flight-preserved bound t c =
    let s = c.args.scope.now.settings.now in
    let flights = c.args.scope.now.flights.now in
    let base = c.args.scope.now.base in
    let price = c.args.scope.now.base_price in
    let before = c.args.before.now in
    let n = s.max_duties - (length before + 1) in
    let i = c.loop-flight.flight-index in
    let f = c.flight-item.result in
    let near = c.next_duties-leaving.result.now in
    let at = item-at near i f c.loop-flight-test.true c.flight-item.is in
    let known = c.next_duties-leaving.ensures.known f (item-known near i f c.loop-flight-test.true c.flight-item.is) in
    let F : Flight → List Partial = λ g. flat_map (with_next n s flights base price before) (from_flight s flights g) in
    elim c.if-may_leave.branch [
      | list_after-then-may_leave+in_ok-list_from w ↦
          let same : c.if-may_leave.found ≡ w.list_from.new.found = w.found-is in
          record {
            found = rw same (took-at bound.F.Sink.count bound.F.Sink.holds F near i f c.args.found.now c.loop-flight.found w.list_from.new.found at c.loop-flight.invariant.found w.in_ok-list_from.ensures.ok);
            room = rw same w.in_ok-list_from.ensures.room;
          }
      | list_after-else-may_leave w ↦
          let same : c.if-may_leave.found ≡ c.loop-flight.found = w.found-is in
          let none = not-joined n s flights base price before f known (sym c.may_leave.ensures ∙ w.if-may_leave.false) in
          record {
            found = rw same (took-skip bound.F.Sink.count bound.F.Sink.holds F near i f c.args.found.now c.loop-flight.found at c.loop-flight.invariant.found none);
            room = rw same c.loop-flight.invariant.room;
          }
    ]

pub list_after-returns-clause-ok : goal.list_after-returns-clause-ok
list_after-returns-clause-ok bound t c =
    let s = c.args.scope.now.settings.now in
    let flights = c.args.scope.now.flights.now in
    let base = c.args.scope.now.base in
    let price = c.args.scope.now.base_price in
    let before = c.args.before.now in
    let opened = after-flights s.max_duties (length before) s flights base price before c.if-before-scope.false in
    let near = c.next_duties-leaving.result.now in
    let all : take c.loop-flight.flight-index near ≡ near = take_all c.loop-flight.flight-index near (omega arith) in
    let n = s.max_duties - (length before + 1) in
    let whole = after-near n s flights base price before near c.next_duties-leaving.ensures in
    rw opened (rw (← whole) (rw all at c.loop-flight.invariant.found))

pub list_below-list_legs-requires : goal.list_below-list_legs-requires
list_below-list_legs-requires bound t c =
    let s = c.args.scope.now.settings.now in
    let flights = c.args.scope.now.flights.now in
    let first = c.args.first.now in
    let others = c.args.others.now in
    let g = c.args.flight.now in
    let flown : c.as_slice.result.now ≡ others ++ timed false g ∷ [] = c.as_slice.ensures ∙ c.followed_by-flown.ensures in
    let long : length c.as_slice.result.now ≡ length others + 1 = ap length flown ∙ length-append others (timed false g ∷ []) in
    let joins = join-legs c.args.scope.now.base s c.args.before.now first c.as_slice.result.now others ∙ c.requires.joins in
    let more = IsBeginning-more s flights first others false g c.requires.beginning c.requires.follows c.requires.known in
    λ κs within. (omega arith, (within, (c.requires.checked, (c.requires.flights, (c.requires.price, (c.requires.few, (c.requires.ranges, (joins, (rw flown more, (omega arith, c.requires.room))))))))))

pub list_below-list_legs-requires-2 : goal.list_below-list_legs-requires-2
list_below-list_legs-requires-2 bound t c =
    let s = c.args.scope.now.settings.now in
    let flights = c.args.scope.now.flights.now in
    let first = c.args.first.now in
    let others = c.args.others.now in
    let g = c.args.flight.now in
    let ridden : c.as_slice-2.result.now ≡ others ++ timed true g ∷ [] = c.as_slice-2.ensures ∙ c.followed_by-ridden.ensures in
    let long : length c.as_slice-2.result.now ≡ length others + 1 = ap length ridden ∙ length-append others (timed true g ∷ []) in
    let joins = join-legs c.args.scope.now.base s c.args.before.now first c.as_slice-2.result.now others ∙ c.requires.joins in
    let more = IsBeginning-more s flights first others true g c.requires.beginning c.requires.follows c.requires.known in
    λ κs within. (omega arith, (within, (c.requires.checked, (c.requires.flights, (c.requires.price, (c.requires.few, (c.requires.ranges, (joins, (rw ridden more, (omega arith, c.in_ok-list_legs.ensures.room))))))))))

pub list_legs-returns-then-others-ge-LEGS-clause-ok : goal.list_legs-returns-then-others-ge-LEGS-clause-ok
list_legs-returns-then-others-ge-LEGS-clause-ok bound t c =
    let s = c.args.scope.now.settings.now in
    let flights = c.args.scope.now.flights.now in
    let first = c.args.first.now in
    let others = c.args.others.now in
    let none : listing (8 - length others) s flights first others ≡ [] =
    elim c.then-others-ge-LEGS.branch [
      | list_legs-then-others-ge-LEGS-via-then-others-ge-LEGS w ↦ let room : 8 - length others ≡ 0 = omega arith in rw room (listing-none s flights first others)
      | list_legs-then-others-ge-LEGS-via-else-others-ge-LEGS+then-cannot_begin w ↦ listing-closed (8 - length others) s flights first others (sym w.cannot_begin.ensures ∙ w.if-cannot_begin.true)
    ] in
    rw none (took-none bound.F.Sink.count bound.F.Sink.holds c.args.found.now)

pub list_legs-duty_from-next-requires-clause-sound : goal.list_legs-duty_from-next-requires-clause-sound
list_legs-duty_from-next-requires-clause-sound bound t c = known-sound c.args.scope.now.flights.now (c.args.first.now ∷ c.args.others.now) c.requires.flights c.requires.beginning.known

pub list_legs-duty_from-next-requires-clause-connected : goal.list_legs-duty_from-next-requires-clause-connected
list_legs-duty_from-next-requires-clause-connected bound t c = (c.args.scope.now.flights.now.turns, c.requires.beginning.connected)

pub list_legs-returns-then-not-keep_totals-clause-ok : goal.list_legs-returns-then-not-keep_totals-clause-ok
list_legs-returns-then-not-keep_totals-clause-ok bound t c =
    let s = c.args.scope.now.settings.now in
    let flights = c.args.scope.now.flights.now in
    let first = c.args.first.now in
    let others = c.args.others.now in
    let before = c.args.before.now in
    let longer : c.deref.result.now ≡ before ++ duty_of s first others ∷ [] =
    c.deref.ensures.value ∙ c.in_ok-longer.ensures ∙ ap (λ (d : Duty). before ++ d ∷ []) c.duty_from-next.ensures.value in
    let caps : keeps_totals s (before ++ duty_of s first others ∷ []) ≡ false = ap (keeps_totals s) (sym longer) ∙ sym c.keep_totals.ensures ∙ c.if-not-keep_totals.true in
    let none = not-within (s.max_duties - (length before + 1)) (8 - length others) s flights c.args.scope.now.base c.args.scope.now.base_price before first others c.requires.flights c.requires.beginning
    (omega arith) caps in
    rw none (took-none bound.F.Sink.count bound.F.Sink.holds c.args.found.now)

pub list_legs-returns-in_err-list_own-clause-over : goal.list_legs-returns-in_err-list_own-clause-over
list_legs-returns-in_err-list_own-clause-over bound t c =
    let s = c.args.scope.now.settings.now in
    let flights = c.args.scope.now.flights.now in
    let first = c.args.first.now in
    let others = c.args.others.now in
    let before = c.args.before.now in
    let base = c.args.scope.now.base in
    let price = c.args.scope.now.base_price in
    let room = s.max_duties - (length before + 1) in
    let longer : c.deref.result.now ≡ before ++ duty_of s first others ∷ [] =
    c.deref.ensures.value ∙ c.in_ok-longer.ensures ∙ ap (λ (d : Duty). before ++ d ∷ []) c.duty_from-next.ensures.value in
    let longer-2 : c.deref-2.result.now ≡ before ++ duty_of s first others ∷ [] =
    c.deref-2.ensures.value ∙ c.in_ok-longer.ensures ∙ ap (λ (d : Duty). before ++ d ∷ []) c.duty_from-next.ensures.value in
    let caps : keeps_totals s (before ++ duty_of s first others ∷ []) ≡ true = ap (keeps_totals s) (sym longer) ∙ sym c.keep_totals.ensures ∙ c.if-not-keep_totals.false in
    let opened = legs-open room s flights base price before first others c.if-others-ge-LEGS.false (sym c.cannot_begin.ensures ∙ c.if-cannot_begin.false) c.requires.joins caps in
    let own-is = own-listed room s flights base price before (duty_of s first others) c.deref-2.result.now c.last_leg-last.result (last_of first others) longer-2 c.last_leg-last.ensures in
    let p = err_from_is_err_and c.from_residual-in_err-list_own.result c.from_residual-in_err-list_own.ensures.1 in
    λ e. rw opened (more-than _ _ _ _ (flat_map (onward room s flights base price before first others) flights.list) own-is (c.in_err-list_own.ensures.over (cc)))

pub list_legs-list_below-requires : goal.list_legs-list_below-requires
list_legs-list_below-requires bound t c =
    let s = c.args.scope.now.settings.now in
    let flights = c.args.scope.now.flights.now in
    let i = c.loop-flight.flight-index in
    let g = c.flight-item.result in
    let near = c.next_legs-leaving.result.now in
    let known = c.next_legs-leaving.ensures.known g (item-known near i g c.loop-flight-test.true c.flight-item.is) in
    let follows : may_follow s flights.turns (last_of c.args.first.now c.args.others.now).flight g ≡ true =
    ap (λ (l : TimedLeg). may_follow s flights.turns l.flight g) (sym c.last_leg-last.ensures) ∙ sym c.may_come_next.ensures ∙ c.if-may_come_next.true in
    λ κs within. (omega arith, (within, (c.requires.checked, (c.requires.flights, (c.requires.price, (c.requires.few, (c.requires.ranges, (c.requires.joins, (c.requires.beginning, (c.if-others-ge-LEGS.false, (known, (follows, c.loop-flight.invariant.room))))))))))))

pub list_legs-returns-in_err-list_below-clause-over : goal.list_legs-returns-in_err-list_below-clause-over
list_legs-returns-in_err-list_below-clause-over bound t c =
    let s = c.args.scope.now.settings.now in
    let flights = c.args.scope.now.flights.now in
    let first = c.args.first.now in
    let others = c.args.others.now in
    let before = c.args.before.now in
    let base = c.args.scope.now.base in
    let price = c.args.scope.now.base_price in
    let room = s.max_duties - (length before + 1) in
    let i = c.loop-flight.flight-index in
    let g = c.flight-item.result in
    let near = c.next_legs-leaving.result.now in
    let at = item-at near i g c.loop-flight-test.true c.flight-item.is in
    let whole = legs-near room s flights base price before first others c.last_leg-last.result near c.last_leg-last.ensures c.next_legs-leaving.ensures in
    let longer : c.deref.result.now ≡ before ++ duty_of s first others ∷ [] =
    c.deref.ensures.value ∙ c.in_ok-longer.ensures ∙ ap (λ (d : Duty). before ++ d ∷ []) c.duty_from-next.ensures.value in
    let longer-2 : c.deref-2.result.now ≡ before ++ duty_of s first others ∷ [] =
    c.deref-2.ensures.value ∙ c.in_ok-longer.ensures ∙ ap (λ (d : Duty). before ++ d ∷ []) c.duty_from-next.ensures.value in
    let caps : keeps_totals s (before ++ duty_of s first others ∷ []) ≡ true = ap (keeps_totals s) (sym longer) ∙ sym c.keep_totals.ensures ∙ c.if-not-keep_totals.false in
    let opened = legs-open room s flights base price before first others c.if-others-ge-LEGS.false (sym c.cannot_begin.ensures ∙ c.if-cannot_begin.false) c.requires.joins caps in
    let own-is = own-listed room s flights base price before (duty_of s first others) c.deref-2.result.now c.last_leg-last.result (last_of first others) longer-2 c.last_leg-last.ensures in
    let follows : may_follow s flights.turns (last_of first others).flight g ≡ true = ap (λ (l : TimedLeg). may_follow s flights.turns l.flight g) (sym c.last_leg-last.ensures) ∙ sym c.may_come_next.ensures ∙ c.if-may_come_next.true in
    let p = err_from_is_err_and c.from_residual-in_err-list_below.result c.from_residual-in_err-list_below.ensures.1 in
    let ward = onward-on room s flights base price before first others g follows in
    λ e. rw opened
    (over-after bound.F.Sink.count bound.F.Sink.holds c.args.found.now c.list_own.new.found _ _ (flat_map (onward room s flights base price before first others) flights.list) c.args.scope.now.limit own-is c.in_ok-list_own.ensures.ok
    (rw (← whole) (took-over bound.F.Sink.count bound.F.Sink.holds (onward room s flights base price before first others) near i g c.list_own.new.found c.loop-flight.found c.args.scope.now.limit at c.loop-flight.invariant.found
    (rw ward (c.in_err-list_below.ensures.over (cc))))))

pub list_legs-loop-flight-preserved : goal.list_legs-loop-flight-preserved
list_legs-loop-flight-preserved bound t c =
    let s = c.args.scope.now.settings.now in
    let flights = c.args.scope.now.flights.now in
    let first = c.args.first.now in
    let others = c.args.others.now in
    let before = c.args.before.now in
    let base = c.args.scope.now.base in
    let price = c.args.scope.now.base_price in
    let room = s.max_duties - (length before + 1) in
    let i = c.loop-flight.flight-index in
    let g = c.flight-item.result in
    let near = c.next_legs-leaving.result.now in
    let at = item-at near i g c.loop-flight-test.true c.flight-item.is in
    let test : may_follow s flights.turns (last_of first others).flight g ≡ c.may_come_next.result = ap (λ (l : TimedLeg). may_follow s flights.turns l.flight g) (sym c.last_leg-last.ensures) ∙ sym c.may_come_next.ensures in
    let F : Flight → List Partial = onward room s flights base price before first others in
    elim c.if-may_come_next.branch [
      | list_legs-then-may_come_next+in_ok-list_below w ↦
          let same : c.if-may_come_next.found ≡ w.list_below.new.found = w.found-is in
          let ward = onward-on room s flights base price before first others g (test ∙ w.if-may_come_next.true) in
          record {
            found = rw same (took-at bound.F.Sink.count bound.F.Sink.holds F near i g c.list_own.new.found c.loop-flight.found w.list_below.new.found at c.loop-flight.invariant.found (rw ward w.in_ok-list_below.ensures.ok));
            room = rw same w.in_ok-list_below.ensures.room;
          }
      | list_legs-else-may_come_next w ↦
          let same : c.if-may_come_next.found ≡ c.loop-flight.found = w.found-is in
          let none = onward-off room s flights base price before first others g (test ∙ w.if-may_come_next.false) in
          record {
            found = rw same (took-skip bound.F.Sink.count bound.F.Sink.holds F near i g c.list_own.new.found c.loop-flight.found at c.loop-flight.invariant.found none);
            room = rw same c.loop-flight.invariant.room;
          }
    ]

pub list_legs-returns-clause-ok : goal.list_legs-returns-clause-ok
list_legs-returns-clause-ok bound t c =
    let s = c.args.scope.now.settings.now in
    let flights = c.args.scope.now.flights.now in
    let first = c.args.first.now in
    let others = c.args.others.now in
    let before = c.args.before.now in
    let base = c.args.scope.now.base in
    let price = c.args.scope.now.base_price in
    let room = s.max_duties - (length before + 1) in
    let longer : c.deref.result.now ≡ before ++ duty_of s first others ∷ [] =
    c.deref.ensures.value ∙ c.in_ok-longer.ensures ∙ ap (λ (d : Duty). before ++ d ∷ []) c.duty_from-next.ensures.value in
    let longer-2 : c.deref-2.result.now ≡ before ++ duty_of s first others ∷ [] =
    c.deref-2.ensures.value ∙ c.in_ok-longer.ensures ∙ ap (λ (d : Duty). before ++ d ∷ []) c.duty_from-next.ensures.value in
    let caps : keeps_totals s (before ++ duty_of s first others ∷ []) ≡ true = ap (keeps_totals s) (sym longer) ∙ sym c.keep_totals.ensures ∙ c.if-not-keep_totals.false in
    let opened = legs-open room s flights base price before first others c.if-others-ge-LEGS.false (sym c.cannot_begin.ensures ∙ c.if-cannot_begin.false) c.requires.joins caps in
    let own-is = own-listed room s flights base price before (duty_of s first others) c.deref-2.result.now c.last_leg-last.result (last_of first others) longer-2 c.last_leg-last.ensures in
    let near = c.next_legs-leaving.result.now in
    let whole = legs-near room s flights base price before first others c.last_leg-last.result near c.last_leg-last.ensures c.next_legs-leaving.ensures in
    let all : take c.loop-flight.flight-index near ≡ near = take_all c.loop-flight.flight-index near (omega arith) in
    let done = rw whole at (rw all at c.loop-flight.invariant.found) in
    rw opened (joined-up bound.F.Sink.count bound.F.Sink.holds c.args.found.now c.list_own.new.found c.loop-flight.found _ _ (flat_map (onward room s flights base price before first others) flights.list) own-is c.in_ok-list_own.ensures.ok done)

pub list_below-returns-in_err-list_legs-clause-over : goal.list_below-returns-in_err-list_legs-clause-over
list_below-returns-in_err-list_legs-clause-over bound t c =
    let s = c.args.scope.now.settings.now in
    let flights = c.args.scope.now.flights.now in
    let base = c.args.scope.now.base in
    let price = c.args.scope.now.base_price in
    let before = c.args.before.now in
    let W = with_next (s.max_duties - (length before + 1)) s flights base price before in
    let first = c.args.first.now in
    let others = c.args.others.now in
    let g = c.args.flight.now in
    let flown = listing-longer s flights first others c.as_slice.result.now (timed false g) (c.as_slice.ensures ∙ c.followed_by-flown.ensures) in
    let p = err_from_is_err_and c.from_residual.result c.from_residual.ensures.1 in
    λ e. over-first W c.args.scope.now.limit _ _ _ _ flown (c.in_err-list_legs.ensures.over (cc))

pub list_below-returns-clause-ok : goal.list_below-returns-clause-ok
list_below-returns-clause-ok bound t c =
    let s = c.args.scope.now.settings.now in
    let flights = c.args.scope.now.flights.now in
    let base = c.args.scope.now.base in
    let price = c.args.scope.now.base_price in
    let before = c.args.before.now in
    let W = with_next (s.max_duties - (length before + 1)) s flights base price before in
    let first = c.args.first.now in
    let others = c.args.others.now in
    let g = c.args.flight.now in
    let flown = listing-longer s flights first others c.as_slice.result.now (timed false g) (c.as_slice.ensures ∙ c.followed_by-flown.ensures) in
    let ridden = listing-longer s flights first others c.as_slice-2.result.now (timed true g) (c.as_slice-2.ensures ∙ c.followed_by-ridden.ensures) in
    on_ok_weaker c.list_legs-2.result (λ more. took-both bound.F.Sink.count bound.F.Sink.holds W c.args.found.now c.list_legs.new.found c.list_legs-2.new.found _ _ _ _ flown ridden c.in_ok-list_legs.ensures.ok more)
    c.list_legs-2.ensures.ok

pub list_below-returns-clause-over : goal.list_below-returns-clause-over
list_below-returns-clause-over bound t c =
    let s = c.args.scope.now.settings.now in
    let flights = c.args.scope.now.flights.now in
    let base = c.args.scope.now.base in
    let price = c.args.scope.now.base_price in
    let before = c.args.before.now in
    let W = with_next (s.max_duties - (length before + 1)) s flights base price before in
    let first = c.args.first.now in
    let others = c.args.others.now in
    let g = c.args.flight.now in
    let flown = listing-longer s flights first others c.as_slice.result.now (timed false g) (c.as_slice.ensures ∙ c.followed_by-flown.ensures) in
    let ridden = listing-longer s flights first others c.as_slice-2.result.now (timed true g) (c.as_slice-2.ensures ∙ c.followed_by-ridden.ensures) in
    λ e. over-second bound.F.Sink.count bound.F.Sink.holds W c.args.found.now c.list_legs.new.found c.args.scope.now.limit _ _ _ _ flown ridden c.in_ok-list_legs.ensures.ok (c.list_legs-2.ensures.over e)

pub list_from-returns-in_err-list_legs-clause-over : goal.list_from-returns-in_err-list_legs-clause-over
list_from-returns-in_err-list_legs-clause-over bound t c =
    let s = c.args.scope.now.settings.now in
    let flights = c.args.scope.now.flights.now in
    let base = c.args.scope.now.base in
    let price = c.args.scope.now.base_price in
    let before = c.args.before.now in
    let W = with_next (s.max_duties - (length before + 1)) s flights base price before in
    let f = c.args.flight.now in
    let p = err_from_is_err_and c.from_residual.result c.from_residual.ensures.1 in
    λ e. over-first W c.args.scope.now.limit _ (listing 8 s flights (timed false f) []) _ (listing 8 s flights (timed true f) []) refl (c.in_err-list_legs.ensures.over (cc))

pub list_from-returns-clause-ok : goal.list_from-returns-clause-ok
list_from-returns-clause-ok bound t c =
    let s = c.args.scope.now.settings.now in
    let flights = c.args.scope.now.flights.now in
    let base = c.args.scope.now.base in
    let price = c.args.scope.now.base_price in
    let before = c.args.before.now in
    let W = with_next (s.max_duties - (length before + 1)) s flights base price before in
    let f = c.args.flight.now in
    on_ok_weaker c.list_legs-2.result
    (λ more. took-both bound.F.Sink.count bound.F.Sink.holds W c.args.found.now c.list_legs.new.found c.list_legs-2.new.found (listing 8 s flights (timed false f) []) (listing 8 s flights (timed true f) []) _ _ refl refl
    c.in_ok-list_legs.ensures.ok more)
    c.list_legs-2.ensures.ok

pub list_from-returns-clause-over : goal.list_from-returns-clause-over
list_from-returns-clause-over bound t c =
    let s = c.args.scope.now.settings.now in
    let flights = c.args.scope.now.flights.now in
    let base = c.args.scope.now.base in
    let price = c.args.scope.now.base_price in
    let before = c.args.before.now in
    let W = with_next (s.max_duties - (length before + 1)) s flights base price before in
    let f = c.args.flight.now in
    λ e. over-second bound.F.Sink.count bound.F.Sink.holds W c.args.found.now c.list_legs.new.found c.args.scope.now.limit (listing 8 s flights (timed false f) []) (listing 8 s flights (timed true f) []) _ _ refl refl
    c.in_ok-list_legs.ensures.ok (c.list_legs-2.ensures.over e)

pub list_legs-keep_totals-requires-clause-few : goal.list_legs-keep_totals-requires-clause-few
list_legs-keep_totals-requires-clause-few bound t c =
    let few : length c.deref.result.now ≤ c.args.scope.now.settings.now.max_duties =
    longer-few c.args.before.now c.deref.result.now c.duty_from-next.result c.args.scope.now.settings.now.max_duties (c.deref.ensures.value ∙ c.in_ok-longer.ensures) c.requires.few in
    omega (arith, few)

pub list_legs-keep_totals-requires-clause-ranges : goal.list_legs-keep_totals-requires-clause-ranges
list_legs-keep_totals-requires-clause-ranges bound t c =
    longer-ranges c.args.before.now c.deref.result.now c.duty_from-next.result (c.deref.ensures.value ∙ c.in_ok-longer.ensures) c.requires.ranges c.duty_from-next.ensures.range

pub list_legs-list_own-requires : goal.list_legs-list_own-requires
list_legs-list_own-requires bound t c =
    let longer = c.deref-2.ensures.value ∙ c.in_ok-longer.ensures in
    let few = longer-few c.args.before.now c.deref-2.result.now c.duty_from-next.result c.args.scope.now.settings.now.max_duties longer c.requires.few in
    let ranges = longer-ranges c.args.before.now c.deref-2.result.now c.duty_from-next.result longer c.requires.ranges c.duty_from-next.ensures.range in
    let long : length c.deref-2.result.now ≡ length c.args.before.now + 1 = ap length longer ∙ length-append c.args.before.now (c.duty_from-next.result ∷ []) in
    λ κs within. (omega arith, (within, (c.requires.checked, (c.requires.flights, (c.requires.price, (few, (ranges, c.requires.room)))))))

pub list_own-returns-clause-ok : goal.list_own-returns-clause-ok
list_own-returns-clause-ok bound t c =
    let s = c.args.scope.now.settings.now in
    let duties = c.args.duties.now in
    let begun = begun-on (s.max_duties - length duties) s c.args.scope.now.flights.now c.args.scope.now.base c.args.scope.now.base_price duties (sym c.keep_limits.ensures ∙ c.if-not-keep_limits.false) in
    rw c.if-deadhead.false
    (rw begun
    (on_ok_weaker c.list_after.result (λ more. took-join bound.F.Sink.count bound.F.Sink.holds c.args.found.now c.list_one.new.found c.list_after.new.found (_ ∷ []) _ c.in_ok-list_one.ensures.ok more) c.list_after.ensures.ok))
