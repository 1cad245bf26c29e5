use Rattle.std.proofs.Common.{Bor, ◌≡◌, ◌<◌, ◌+◌, ◌-◌, ◌∷◌, [], ◌∙◌, ap, arith, length, length-append, List, ℕ, ℤ, of_z, subst, sym, to_z, w64}
use Rattle.std.specs.FinMap as fin
use Rattle.std.specs.List.{flat_map}
use Rattle.std.specs.Map.Iter.{deref_pair}
use Rattle.std.proofs.lemmas.Int.{ints}
use Rattle.std.proofs.lemmas.List.{take_all}
use Rattle.std.proofs.lemmas.Map.Iter.{iter_end, iter_turn}
use Rattle.std.proofs.lemmas.Result.{err_from_is_err_and}
use Rattle.crew_flights.specs.Timetable.{IsBasePrice}
use Rattle.crew_rules.specs.declared.settings.Settings.{Settings}
use Rattle.crew_pairing.specs.Duties.{flights_of}
use Rattle.crew_pairing.specs.Flights.{Flights}
use Rattle.crew_pairing.proofs.Timetables.{flights-of-timetable}
use Rattle.crew_pairing.proofs.Tree.{Each-member, slice_get-Member}
use Rattle.crew_audit.specs.Machinery.Listing.{after, all_partials, of_base}
use Rattle.crew_audit.specs.Machinery.Taking.{Took}
use Rattle.crew_audit.specs.declared.partial.Partial.{Partial}
use Rattle.crew_audit.proofs.Taking.{took-at, took-over}
use Rattle.crew_audit.proofs.Whole.{all-partials, prices-fit}
use Rattle.crew_audit.proofs.audit.find.Goals as goal

-- what the search lists of a base, as the definition has it
base-is : (s : Settings) (fs gs : Flights) (b : List ℕ × ℤ) (z : ℤ) → fs ≡ gs → z ≡ b.1 → after (s.max_duties - 0) s fs b.0 z [] ≡ of_base s gs b
base-is s fs gs b z f e =
    let room : s.max_duties - 0 ≡ s.max_duties = omega arith in
    ap (λ (n : ℕ). after n s fs b.0 z []) room ∙ (ap (λ (hs : Flights). after s.max_duties s hs b.0 z []) f ∙ ap (λ (y : ℤ). after s.max_duties s gs b.0 y []) e)

-- a price keeps its value in 64 bits
price-is : (z : ℤ) → IsBasePrice z → to_z w64 (of_z w64 z) ≡ z
price-is z price = let least = price.least in let most = price.most in omega (arith, ints, least, most)

pub list_after-requires-clause-flights : goal.list_after-requires-clause-flights
list_after-requires-clause-flights bound c = rw (c.in_ok-flights.ensures.held) (flights-of-timetable c.args.timetable.now c.of.ensures.sound)

pub list_after-requires-clause-price : goal.list_after-requires-clause-price
list_after-requires-clause-price bound c =
    let t = c.args.timetable.now in
    let all = fin.entries t.bases in
    let b : List ℕ × ℤ = (c.in-Some.base.now, c.in-Some.base_price.now) in
    let at = iter_turn deref_pair all c.loop-base.yielded _ _ _ _ (c.into_iter-base-iterator.ensures.into_iter_gives ∙ c.bases-base-items.ensures.held) c.loop-base.yielded_by (c.in-Some.base, c.in-Some.base_price) c.in-Some.is c.next.ensures.steps in
    let price = Each-member (λ (x : List ℕ × ℤ). IsBasePrice x.1) all b (prices-fit t c.of.ensures.sound) (slice_get-Member all (length c.loop-base.yielded) b at.1) in
    subst IsBasePrice (sym (price-is b.1 price)) price

pub loop-base-preserved : goal.loop-base-preserved
loop-base-preserved bound c =
    let s = c.args.settings.now in
    let t = c.args.timetable.now in
    let all = fin.entries t.bases in
    let x : Bor (List ℕ) × Bor ℤ = (c.in-Some.base, c.in-Some.base_price) in
    let b : List ℕ × ℤ = (c.in-Some.base.now, c.in-Some.base_price.now) in
    let at = iter_turn deref_pair all c.loop-base.yielded _ _ _ _ (c.into_iter-base-iterator.ensures.into_iter_gives ∙ c.bases-base-items.ensures.held) c.loop-base.yielded_by x c.in-Some.is c.next.ensures.steps in
    let price = Each-member (λ (y : List ℕ × ℤ). IsBasePrice y.1) all b (prices-fit t c.of.ensures.sound) (slice_get-Member all (length c.loop-base.yielded) b at.1) in
    let own = base-is s c.in_ok-flights.flights (flights_of t) b (to_z w64 (of_z w64 b.1)) c.in_ok-flights.ensures.held (price-is b.1 price) in
    let taken = subst (Took bound.F.Sink.count bound.F.Sink.holds c.loop-base.found c.list_after.new.found) own c.in_ok-list_after.ensures.ok in
    record {
      found = rw (length-append c.loop-base.yielded (x ∷ []))
          (took-at bound.F.Sink.count bound.F.Sink.holds (of_base s (flights_of t)) all (length c.loop-base.yielded) b c.args.found.now c.loop-base.found c.list_after.new.found at.1 c.loop-base.invariant.found taken);
      room = c.in_ok-list_after.ensures.room;
    }

pub returns-in_err-list_after-clause-over : goal.returns-in_err-list_after-clause-over
returns-in_err-list_after-clause-over bound c =
    let s = c.args.settings.now in
    let t = c.args.timetable.now in
    let all = fin.entries t.bases in
    let b : List ℕ × ℤ = (c.in-Some.base.now, c.in-Some.base_price.now) in
    let at = iter_turn deref_pair all c.loop-base.yielded _ _ _ _ (c.into_iter-base-iterator.ensures.into_iter_gives ∙ c.bases-base-items.ensures.held) c.loop-base.yielded_by (c.in-Some.base, c.in-Some.base_price) c.in-Some.is c.next.ensures.steps in
    let price = Each-member (λ (x : List ℕ × ℤ). IsBasePrice x.1) all b (prices-fit t c.of.ensures.sound) (slice_get-Member all (length c.loop-base.yielded) b at.1) in
    let own = base-is s c.in_ok-flights.flights (flights_of t) b (to_z w64 (of_z w64 b.1)) c.in_ok-flights.ensures.held (price-is b.1 price) in
    let before = bound.F.Sink.count c.loop-base.found in
    let p = err_from_is_err_and c.from_residual-in_err-list_after.result c.from_residual-in_err-list_after.ensures.1 in
    λ e. (
      all_partials s t,
      all-partials s t c.of.ensures.sound,
      let over = took-over bound.F.Sink.count bound.F.Sink.holds (of_base s (flights_of t)) all (length c.loop-base.yielded) b c.args.found.now c.loop-base.found c.args.limit at.1 c.loop-base.invariant.found
          (subst (λ (ps : List Partial). c.args.limit < before + length ps) own (c.in_err-list_after.ensures.over (cc))) in
          let none = c.requires.new in
          omega (arith, over, none),
    )

pub returns-clause-ok : goal.returns-clause-ok
returns-clause-ok bound c =
    let s = c.args.settings.now in
    let t = c.args.timetable.now in
    let all = fin.entries t.bases in
    let end = iter_end deref_pair all c.loop-base.yielded _ _ _ _ (c.into_iter-base-iterator.ensures.into_iter_gives ∙ c.bases-base-items.ensures.held) c.loop-base.yielded_by c.in-None.is c.next.ensures.steps in
    let whole = take_all (length c.loop-base.yielded) all (omega (arith, end.1)) in
    subst (λ (bs : List (List ℕ × ℤ)). Took bound.F.Sink.count bound.F.Sink.holds c.args.found.now c.loop-base.found (flat_map (of_base s (flights_of t)) bs)) whole c.loop-base.invariant.found

pub returns-clause-all : goal.returns-clause-all
returns-clause-all bound c = all-partials c.args.settings.now c.args.timetable.now c.of.ensures.sound

pub returns-clause-few : goal.returns-clause-few
returns-clause-few bound c =
    let more = (returns-clause-ok bound c).more in
    let room = c.loop-base.invariant.room in
    omega (arith, more, room)
