-- The views of pools that are made from labels with a duty to spare are the fronts of the duties: the other labels board nothing.
use Rattle.std.proofs.Common.{◌≡◌, ℕ, zero, suc, ◌+◌, ◌<◌, Bool, true, false, cond, List, length, Option, Some, None, ℤ, pos, ◌+ℤ◌, inl, inr, refl, sym, ◌∙◌, ap, subst, ⊎_elim, arith}
use Rattle.std.specs.Prelude.{◌≤ℤ◌, ◌<ℤ◌, int_lt}
use Rattle.std.specs.List.{filter}
use Rattle.std.specs.Option.{option_and_then}
use Rattle.std.specs.Ordering.{eq_by_cmp}
use Rattle.std.proofs.lemmas.Int.{ints}
use Rattle.crew_pairing.specs.Events.{arrival_of, departure_of, may_wait}
use Rattle.crew_pairing.specs.Duties.{AreDuties, flights_of}
use Rattle.crew_pairing.specs.Keys.{key_cmp, key_total, walk_at_most}
use Rattle.crew_pairing.specs.Pairings.{IsDuty, may_stand_after}
use Rattle.crew_pairing.specs.declared.duty.Duty.{Duty}
use Rattle.crew_pairing.specs.declared.events.Arrival.{Arrival}
use Rattle.crew_pairing.specs.declared.events.Departure.{Departure}
use Rattle.crew_pairing.specs.Legs.{Leg}
use Rattle.crew_flights.specs.Codes.{code_cmp}
use Rattle.crew_flights.specs.Timetable.{IsSound, Timetable}
use Rattle.crew_resource.specs.Events.{CountLaws, FromFronts, FromPools, Network, StageLaws, view}
use Rattle.crew_resource.specs.Labels.{IsFront, IsLocal}
use Rattle.crew_resource.specs.Members.{Member}
use Rattle.crew_resource.proofs.Members.{Member-filter_in, Member-filter_out}
use Rattle.crew_resource.proofs.PooledFronts.{board_laws, counted, wait_laws}
use Rattle.crew_resource.proofs.Pools.{pool_from_pools, view_local}
use Rattle.crew_resource.proofs.Step.{Covers, Step, step_covers, step_front}
use Rattle.crew_resource.proofs.Sweep.{at_fits}
use Rattle.crew_rules.specs.Settings.{IsChecked}
use Rattle.crew_rules.specs.declared.settings.Settings.{Settings}
use Rattle.crew_vector.specs.Dominance.{is_at_most}
use Rattle.crew_vector.specs.Events.{ArrivedToSpare, board_vector, idle_vector, network_of, wait_vector}
use Rattle.crew_vector.specs.Fronts.{IsFrontAt, vector_cmp}
use Rattle.crew_vector.specs.Machinery.Named.{named_order}
use Rattle.crew_vector.specs.Machinery.VectorResources.{vector_resource}
use Rattle.crew_vector.specs.Machinery.VectorLaws.{vector_counting, vector_shifts, vector_staged}
use Rattle.crew_pairing.specs.declared.vector.PairingVector.{PairingVector}
use Rattle.crew_vector.proofs.Nodes.{CleanAt, Known, More, One, Opening, PathAt, Preds, arcs-rise, node-rules, rank}
use Rattle.crew_vector.proofs.Orders.{walk-order}
use Rattle.crew_vector.proofs.Paths.{front-from, known-legal, legal-in-range, legal-known}
use Rattle.crew_vector.proofs.Pooled.{left-before}
use Rattle.crew_vector.proofs.Steps.{extends, opens, vector-order}

test-lt : (a b : ℤ) → int_lt a b ≡ true → a <ℤ b
test-lt a b h = grind (arith, ints)

lt-test : (a b : ℤ) → a <ℤ b → int_lt a b ≡ true
lt-test a b h = grind (arith, ints)

opened : (b : Bool) (i : PairingVector) (f : PairingVector → Option PairingVector) (o : Option PairingVector) → o ≡ f i → cond b o None ≡ option_and_then f (cond b (Some i) None)
opened true i f o e = e
opened false i f o e = refl

idle-is : (b : Bool) (i v : PairingVector) → cond b (Some i) None ≡ Some v → i ≡ v
idle-is true i v e = let q : i ≡ v = (cc) in q
idle-is false i v e = absurd (let q : ⊥ = (cc) in q)

one-less : (u w v m : ℤ) → w ≡ u → v ≡ w +ℤ pos 1 → v ≤ℤ m → u <ℤ m
one-less u w v m p q h = omega (arith, ints)

abbrev has-room : Settings → PairingVector → Bool
has-room s v = int_lt v.duties (pos s.max_duties)

-- what goes on to another duty has one to spare
room-to-board : (s : Settings) (price : ℤ) (u v : PairingVector) (e d : Duty) → extends s u e d ≡ Some v → has-room s u ≡ true
room-to-board s price u v e d h =
    let r = vector_resource s price in
    let later = wait_vector s u (arrival_of e) (departure_of d) in
    let boards : board_vector s later d ≡ Some v = sym ((vector_staged r).extension u e d) ∙ h in
    let counting = vector_counting r s.max_duties refl in
    lt-test u.duties (pos s.max_duties) (one-less u.duties later.duties v.duties (pos s.max_duties) (counting.none_more u (arrival_of e) (departure_of d)) (counting.one_more later v d boards) (counting.ends later v d boards))

module _ (s : Settings) (t : Timetable) (base : List ℕ) (price : ℤ) (checked : IsChecked s) (sound : IsSound t) where
  abbrev Net : Network Duty PairingVector (List (List Leg)) Departure Arrival
  Net = network_of s base price (Known s t base price checked sound)

  abbrev Before : Duty → Duty → Type 0
  Before e d = Member (Preds s t base price checked sound d) e

  abbrev Fits : PairingVector → List (List Leg) → Type 0
  Fits v w = v.duties ≡ pos (length w)

  stages : StageLaws Net (One s t base price checked sound) (Opening s t base price checked sound) (extends s) Before
  stages = record {
    one_by = λ d. refl;
    opens_by = λ d. opened (eq_by_cmp code_cmp d.from base) (idle_vector price (departure_of d)) (λ v. board_vector s v d) (opens s price d) ((vector_staged (vector_resource s price)).opening d);
    ext_by = λ u e d a. (vector_staged (vector_resource s price)).extension u e d;
    arc_in = λ e d k w. Member-filter_in (λ e. may_stand_after s e d) (Known s t base price checked sound) e k w;
    arc_out = λ e d a. Member-filter_out (λ e. may_stand_after s e d) (Known s t base price checked sound) e a;
  }

  counts : CountLaws Net walk_at_most Fits
  counts =
      let counting = vector_counting (vector_resource s price) s.max_duties refl in
      counted Net (λ d. d.key) key_cmp (λ v. v.duties) key_total
      (λ g v e. ap (λ (z : PairingVector). z.duties) (sym (idle-is (eq_by_cmp code_cmp g.airport base) (idle_vector price g) v e)))
      counting.none_more counting.one_more refl (λ w d. refl)

  module _ (duties : List Duty) (exactly : AreDuties s t duties) (pools : Departure → List (PairingVector × List (List Leg))) (arrivals : Departure → Arrival → List (PairingVector × List (List Leg)))
      (pool_local : (d : Duty) → IsDuty s (flights_of t) d → IsLocal is_at_most walk_at_most (FromPools (network_of s base price duties) (arrivals (departure_of d)) (departure_of d)) (pools (departure_of d)))
      (arrival_local : (d : Duty) (x : Arrival) → IsDuty s (flights_of t) d → may_wait s x (departure_of d) ≡ true
      → IsLocal is_at_most walk_at_most (ArrivedToSpare s (network_of s base price duties) (λ e. view (network_of s base price duties) e (pools (departure_of e))) d.report x) (arrivals (departure_of d) x)) where
    abbrev shown : Duty → List (PairingVector × List (List Leg))
    shown d = view Net d (pools (departure_of d))

    abbrev kept : Duty → List (PairingVector × List (List Leg))
    kept d = filter (λ e. has-room s e.0) (shown d)

    kept-local : (d : Duty) → Member (Known s t base price checked sound) d → IsLocal is_at_most walk_at_most (FromFronts Net kept (departure_of d)) (pools (departure_of d))
    kept-local d known =
        let legal = known-legal s t base price checked sound d known in
        let r = vector_resource s price in
        pool_from_pools Duty PairingVector (List (List Leg)) Departure Arrival Net is_at_most walk_at_most vector-order walk-order
        (wait_laws (opens s price) (extends s) vector_cmp is_at_most arrival_of departure_of (idle_vector price) (wait_vector s) (board_vector s) (vector_staged r) (vector_shifts r))
        kept (arrivals (departure_of d)) (departure_of d)
        (λ x window.
        let local = arrival_local d x legal window in
        record {
          among = λ v w m.
              let a = local.among v w m in
              let e = a.0.0 in (
                e,
                legal-known s t base price checked sound e (exactly.sound e a.0.1),
                a.0.3,
                Member-filter_in (λ (p : PairingVector × List (List Leg)). has-room s p.0) (shown e) (v, w) a.0.4 (lt-test v.duties (pos s.max_duties) a.1),
              );
          covers = λ v w a.
              let e = a.0 in
              let l = known-legal s t base price checked sound e a.1 in
              let k = Member-filter_out (λ (p : PairingVector × List (List Leg)). has-room s p.0) (shown e) (v, w) a.3 in
              let there = subst (Member duties) (sym l.3) (exactly.every l.0 l.1 l.2) in
              local.covers v w ((e, there, left-before s e x (departure_of d) (legal-in-range s t base price checked sound e l) a.2 window, a.2, k.0), test-lt v.duties (pos s.max_duties) k.1);
          alone = local.alone;
        })
        (pools (departure_of d)) (pool_local d legal)

    abbrev Right : Duty → Type 0
    Right d =
        IsFront is_at_most walk_at_most (PathAt s t base price checked sound d) (CleanAt s t base price checked sound d) (shown d)
        × Covers Duty PairingVector (List (List Leg)) (One s t base price checked sound) (More s t base price checked sound) (Opening s t base price checked sound) (extends s) Before is_at_most (PathAt s t base price checked sound d) (shown d)

    abbrev Among : (Duty → List (PairingVector × List (List Leg))) → Duty → PairingVector → List (List Leg) → Type 0
    Among fronts = Step Duty PairingVector (List (List Leg)) (One s t base price checked sound) (More s t base price checked sound) (Opening s t base price checked sound) (extends s) Before (λ e u y. Member (fronts e) (u, y))

    right-step : (d : Duty) → Member (Known s t base price checked sound) d → ((e : Duty) → Before e d → Right e) → Right d
    right-step d known before =
        let r = vector_resource s price in
        let boards = board_laws (opens s price) (extends s) vector_cmp is_at_most arrival_of departure_of (idle_vector price) (wait_vector s) (board_vector s) named_order (vector_staged r) (vector_shifts r) in
        let rules = node-rules s t base price checked sound in
        let room = λ (p : PairingVector × List (List Leg)). has-room s p.0 in
        let local = view_local Duty PairingVector (List (List Leg)) Departure Arrival Net is_at_most walk_at_most vector-order walk-order (One s t base price checked sound) (Opening s t base price checked sound) (extends s) Before stages Fits counts boards kept d
        (λ e u w a m.
        at_fits Duty PairingVector (List (List Leg)) Departure Arrival Net (One s t base price checked sound) (Opening s t base price checked sound) (extends s) Before stages is_at_most walk_at_most (PathAt s t base price checked sound) (CleanAt s t base price checked sound) rules
        (rank s t base price checked sound) (arcs-rise s t base price checked sound) Fits counts boards e u w (rules.clean_at e u w ((before e a).0.clean u w (Member-filter_out room (shown e) (u, w) m).0)))
        (pools (departure_of d)) (kept-local d known) (vector_shifts r).board_reflects in
        let all : IsLocal is_at_most walk_at_most (Among shown d) (shown d) = record {
          among = λ v w m. ⊎_elim inl (λ k. inr (k.0, k.1, k.2, k.3, (Member-filter_out room (shown k.0) (k.1, k.2) k.4).0, k.5, k.6)) (local.among v w m);
          covers = λ x y c. local.covers x y (⊎_elim inl (λ k. inr (k.0, k.1, k.2, k.3, Member-filter_in room (shown k.0) (k.1, k.2) k.4 (room-to-board s price k.1 x k.0 d k.5), k.5, k.6)) c);
          alone = local.alone;
        } in (
          step_front Duty PairingVector (List (List Leg)) (One s t base price checked sound) (More s t base price checked sound) (Opening s t base price checked sound) (extends s) Before is_at_most walk_at_most (PathAt s t base price checked sound) (CleanAt s t base price checked sound) rules
              shown d (shown d) (λ e a. (before e a).0) (λ e a. (before e a).1) all,
          step_covers Duty PairingVector (List (List Leg)) (One s t base price checked sound) (More s t base price checked sound) (Opening s t base price checked sound) (extends s) Before is_at_most walk_at_most (PathAt s t base price checked sound) (CleanAt s t base price checked sound) rules
              shown d (shown d) (λ e a. (before e a).0) (λ e a. (before e a).1) all,
        )

    right-below : (n : ℕ) (d : Duty) → rank s t base price checked sound d < n → Member (Known s t base price checked sound) d → Right d
    right-below zero d h known = absurd (omega arith)
    right-below (suc n) d h known = right-step d known (λ e a.
        let r = arcs-rise s t base price checked sound e d a in
        right-below n e (omega (arith, h, r)) (stages.arc_out e d a).0)

    pub spared : (d : Duty) → IsDuty s (flights_of t) d → IsFrontAt s t base price d (shown d)
    spared d legal =
        let known = legal-known s t base price checked sound d legal in
        front-from s t base price checked sound d known (shown d) (right-below (rank s t base price checked sound d + 1) d (omega arith) known).0
