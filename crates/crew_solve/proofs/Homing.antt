-- What comes home is what the fronts show.
use Rattle.std.proofs.Common.{◌≡◌, ◌∙◌, ◌<◌, ◌+◌, ℕ, zero, suc, true, false, cond, List, [], Option, Some, Bool, inl, inr, refl, sym, ap, subst, arith, length, get_or}
use Rattle.std.specs.Prelude.{slice_get}
use Rattle.std.specs.FinMap as fin
use Rattle.std.specs.List.{flat_map, range_with_len}
use Rattle.std.specs.Ordering.{eq_by_cmp}
use Rattle.std.proofs.lemmas.List.FromFn.{get_or-range_with_len, length-range_with_len}
use Rattle.crew_anchor.specs.Anchors.{anchored, shown}
use Rattle.crew_anchor.proofs.Labels.{Member-shown, shown-Member}
use Rattle.crew_anchor.proofs.Shifting.{anchored-shown, shown-anchored}
use Rattle.crew_anchor.specs.Machinery.Bounds.{fits_in, is_ready}
use Rattle.crew_pairing.proofs.Shuffled.{Member-shuffled}
use Rattle.crew_flights.specs.Codes.{code_cmp}
use Rattle.crew_flights.specs.Timetable.{Timetable}
use Rattle.crew_net.specs.Events.{leaves_at}
use Rattle.crew_net.specs.Nets.{AreByReport, IsNetOf, Net}
use Rattle.crew_pairing.specs.Duties.{AreDuties, flights_of}
use Rattle.crew_pairing.specs.Events.{departure_of}
use Rattle.crew_pairing.specs.Legs.{Leg}
use Rattle.crew_pairing.specs.Pairings.{IsDuty}
use Rattle.crew_pairing.specs.declared.duty.Duty.{Duty}
use Rattle.crew_pairing.specs.declared.events.Departure.{Departure}
use Rattle.crew_pairing.specs.declared.vector.PairingVector.{PairingVector}
use Rattle.crew_resource.proofs.Members.{Member-flat_map_in, Member-flat_map_out, Member-map_in, Member-map_out}
use Rattle.crew_resource.specs.Machinery.Uses.{HasRoom}
use Rattle.crew_resource.specs.Members.{Member}
use Rattle.crew_solve.specs.Machinery.Homes.{HasPay, IsFit, boarding, ended_by, home_at, home_by, home_from, home_of, leaving, priced, resource_of}
use Rattle.crew_solve.specs.Machinery.Planned.{IsOver}
use Rattle.crew_solve.proofs.Departing.{departs, distinct-in-order, get-by, leaves-own, map-within, member-at, own-leaves, rank-in, rank-out}
use Rattle.crew_solve.proofs.Reach.{vector-pay, vector-room}
use Rattle.crew_net.proofs.Numbers.{at-departure, get-member, get-within, place-departure}
use Rattle.crew_net.specs.Machinery.Numbered.{departure_place}
use Rattle.crew_sweep.specs.Sweeps.{BaseSweep, ShowsFronts, front_at}
use Rattle.crew_net.specs.Positions.{departure_at, in_order}
use Rattle.crew_vector.proofs.Orders.{code-itself, same-code}
use Rattle.crew_vector.specs.declared.priced.PricedPairing.{PricedPairing}

-- a duty's departure stands in order at its place
range-has : (from n i : ℕ) → i < n → Member (range_with_len from n) (from + i)
range-has from zero i h = absurd (omega (arith, h))
range-has from (suc n) zero h = inl (omega arith)
range-has from (suc n) (suc i) h =
    let on : from + 1 + i ≡ from + suc i = omega arith in
    inr (subst (Member (range_with_len (from + 1) n)) on (range-has (from + 1) n i (omega (arith, h))))

in-order-has : (net : Net) → AreByReport net.departures net.by_report → (g : Departure) → Member net.departures g → Member (in_order net) g
in-order-has net order g m =
    let at = member-at net.departures g m in
    let within = get-within net.departures at.0 g at.1 in
    let zero-on : 0 + at.0 ≡ at.0 = omega arith in
    let place = Member-shuffled (range_with_len 0 (length net.departures)) net.by_report at.0 order.all (subst (Member (range_with_len 0 (length net.departures))) zero-on (range-has 0 (length net.departures) at.0 within)) in
    subst (Member (in_order net)) (get-by net.departures at.0 _ g at.1) (Member-map_in (departure_at net.departures) net.by_report at.0 place)

module _ (t : Timetable) (b : BaseSweep) (built : IsNetOf b.net.settings t b.net.duties b.net) (duties : AreDuties b.net.settings t b.net.duties) where
  legal-of : (d : Duty) → Member b.net.duties d → IsDuty b.net.settings (flights_of t) d
  legal-of d m = duties.sound d m

  place-of : (index : ℕ) (d : Duty) → slice_get (in_order b.net) index ≡ Some (departure_of d) → departure_place (in_order b.net) (departure_of d) ≡ index
  place-of index d own = place-departure (in_order b.net) (departure_of d) index (distinct-in-order b.net b.net.duties built.departures built.by_report) own

  shown-in : (index : ℕ) (d : Duty) → slice_get (in_order b.net) index ≡ Some (departure_of d) → (v : PairingVector) (w : List (List Leg)) → Member (boarding b index d) (v, w)
      → Member (front_at b d) (shown b.net.settings.trip_rig d.release v, w)
  shown-in index d own v w m =
      let place = place-of index d own in
      Member-shown b.net.settings.trip_rig d.release (boarding b (departure_place (in_order b.net) (departure_of d)) d) v w (subst (λ i. Member (boarding b i d) (v, w)) (sym place) m)

  -- what comes home is shown by a front
  pub record IsHome (p : PricedPairing) : Type 0 where
    pub duty : Duty
    pub legal : IsDuty b.net.settings (flights_of t) duty
    pub home : duty.to ≡ b.base
    pub vector : PairingVector
    pub walk : List (List Leg)
    pub held : Member (front_at b duty) (vector, walk)
    pub is : p ≡ priced b.net.settings.trip_rig b.base vector walk

  by-test : (index : ℕ) (d : Duty) (p : PricedPairing) (k : Bool) → Member (cond k (ended_by b index d) []) p → (k ≡ true) × Member (ended_by b index d) p
  by-test index d p true m = (refl, m)
  by-test index d p false m = absurd m

  pub home-out : (p : PricedPairing) → Member (home_of b) p → IsHome p
  home-out p m =
      let rate = b.net.settings.trip_rig in
      let i = Member-flat_map_out (home_from b) (range_with_len 0 (length b.net.by_report)) p m in
      let index = i.0 in
      let at = member-at (range_with_len 0 (length b.net.by_report)) index i.1 in
      let long = length-range_with_len 0 (length b.net.by_report) in
      let low = get-within (range_with_len 0 (length b.net.by_report)) at.0 index at.1 in
      let least : at.0 < length b.net.by_report = omega (arith, long, low) in
      let same = sym (get-by (range_with_len 0 (length b.net.by_report)) at.0 0 index at.1) ∙ get_or-range_with_len 0 (length b.net.by_report) at.0 0 least in
      let within : index < length b.net.by_report = omega (arith, same, least) in
      let g = departs b.net index built.by_report within in
      let there = subst (λ l. Member (flat_map (home_at b index) l) p) (ap (leaving b.net) g.own) i.2 in
      let r = Member-flat_map_out (home_at b index) (leaving b.net (Some g.departure)) p there in
      let d = rank-out (leaves_at g.departure) b.net.duties r.0 r.1 in
      let duty = d.0 in
      let own = g.stands ∙ ap Some (leaves-own g.departure duty d.2) in
      let k = by-test index duty p (eq_by_cmp code_cmp duty.to b.base) (subst (λ (o : Option Duty). Member (home_by b index o) p) d.1 r.2) in
      let e = Member-map_out (λ (e : PairingVector × List (List Leg)). priced rate b.base (shown rate duty.release e.0) e.1) (boarding b index duty) p k.1 in
      record {
        duty = duty;
        legal = legal-of duty (get-member b.net.duties r.0 duty d.1);
        home = same-code duty.to b.base k.0;
        vector = shown rate duty.release e.0.0;
        walk = e.0.1;
        held = shown-in index duty own e.0.0 e.0.1 e.1;
        is = sym e.2;
      }

  listed : (d : Duty) → IsDuty b.net.settings (flights_of t) d → Member b.net.duties d
  listed d l = subst (Member b.net.duties) (sym l.3) (duties.every l.0 l.1 l.2)

  pub home-in : (d : Duty) → IsDuty b.net.settings (flights_of t) d → d.to ≡ b.base → (v : PairingVector) (w : List (List Leg)) → Member (front_at b d) (v, w) → Member (home_of b) (priced b.net.settings.trip_rig b.base v w)
  home-in d legal home v w m =
      let rate = b.net.settings.trip_rig in
      let g = departure_of d in
      let known = listed d legal in
      let index = departure_place (in_order b.net) g in
      let own = at-departure (in_order b.net) g (in-order-has b.net built.by_report g (built.departures.every d known)) in
      let within = map-within (departure_at b.net.departures) b.net.by_report index g own in
      let at = departs b.net index built.by_report within in
      let same : at.departure ≡ g = (let both = sym at.stands ∙ own in (cc)) in
      let rank = member-at b.net.duties d known in
      let f = λ (e : PairingVector × List (List Leg)). priced rate b.base (shown rate d.release e.0) e.1 in
      let ends = Member-map_in f (boarding b index d) (anchored rate d.release v, w) (shown-Member rate d.release (boarding b index d) v w m) in
      let p = priced rate b.base v w in
      let ends-p : Member (ended_by b index d) p = subst (λ u. Member (ended_by b index d) (priced rate b.base u w)) (shown-anchored rate d.release v) ends in
      let home-d : Member (home_by b index (Some d)) p = subst (λ k. Member (cond k (ended_by b index d) []) p) (sym (code-itself d.to b.base home)) ends-p in
      let home-r : Member (home_at b index rank.0) p = subst (λ (o : Option Duty). Member (home_by b index o) p) (sym rank.1) home-d in
      let leaves = rank-in (leaves_at g) b.net.duties rank.0 d rank.1 (own-leaves d) in
      let all : leaving b.net (slice_get b.net.departures (get_or b.net.by_report index 0)) ≡ leaving b.net (Some g) = ap (leaving b.net) (at.own ∙ ap Some same) in
      let from = subst (λ l. Member (flat_map (home_at b index) l) p) (sym all) (Member-flat_map_in (home_at b index) (leaving b.net (Some g)) rank.0 p leaves home-r) in
      let zero-on : 0 + index ≡ index = omega arith in
      let in-range = subst (Member (range_with_len 0 (length b.net.by_report))) zero-on (range-has 0 (length b.net.by_report) index within) in
      Member-flat_map_in (home_from b) (range_with_len 0 (length b.net.by_report)) index p in-range from

-- all that boards can be shown
module _ (t : Timetable) (b : BaseSweep) (over : IsOver t b.net) (shows : ShowsFronts t b) (based : fin.get t.bases b.base ≡ Some b.price) where
  pub fit : IsFit b
  fit = record {
    few = over.few;
    shows = λ index d m own within v w boards.
        let s = b.net.settings in
        let u = shown s.trip_rig d.release v in
        let clean = (shows d (legal-of t b over.built over.duties d m)).clean u w (shown-in t b over.built over.duties index d own v w boards) in
        let at = clean.at in
        let price = over.sound.bases b.base b.price based in
        let room = vector-room s t b.base b.price over.checked over.sound price at.first at.others at.partial d.release within in
        let is = ap (anchored s.trip_rig d.release) (sym at.vector) ∙ anchored-shown s.trip_rig d.release v in
        record {
          room = subst (HasRoom (fits_in (resource_of b)) (is_ready (resource_of b))) is room;
          pay = subst (HasPay s.trip_rig) (sym at.vector) (vector-pay s t b.base b.price over.checked over.sound price at.first at.others at.partial);
        };
  }
