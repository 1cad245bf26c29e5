-- The views of right pools are the fronts of the duties.
use Rattle.std.proofs.Common.{◌≡◌, ◌∙◌, ℕ, true, List, ℤ, pos, ◌-ℤ◌, int_le, refl, sym, subst, ap, arith}
use Rattle.std.specs.Prelude.{◌≤ℤ◌, ◌<ℤ◌}
use Rattle.std.specs.Ordering.{eq_by_cmp}
use Rattle.std.proofs.lemmas.Bool.{and_parts}
use Rattle.std.proofs.lemmas.Int.{ints}
use Rattle.crew_pairing.specs.Events.{arrival_of, departure_of, may_wait}
use Rattle.crew_pairing.specs.Duties.{AreDuties, flights_of}
use Rattle.crew_pairing.specs.Events as Events
use Rattle.crew_pairing.specs.Keys.{key_cmp, key_total, walk_at_most}
use Rattle.crew_pairing.specs.Pairings.{IsDuty, may_stand_after}
use Rattle.crew_pairing.specs.declared.duty.Duty.{Duty}
use Rattle.crew_pairing.specs.declared.events.Arrival.{Arrival}
use Rattle.crew_pairing.specs.declared.events.Departure.{Departure}
use Rattle.crew_pairing.specs.Legs.{Leg}
use Rattle.crew_flights.specs.Codes.{code_cmp}
use Rattle.crew_flights.specs.Timetable.{IsSound, Timetable}
use Rattle.crew_resource.specs.Events.{Arriving, FromPools, view}
use Rattle.crew_resource.specs.Labels.{IsLocal}
use Rattle.crew_resource.specs.Members.{Member}
use Rattle.crew_resource.proofs.Members.{Member-filter_in}
use Rattle.crew_resource.proofs.PooledFronts.{swept_fronts}
use Rattle.crew_rules.specs.Settings.{IsChecked}
use Rattle.crew_rules.specs.declared.settings.Settings.{Settings}
use Rattle.crew_vector.specs.Dominance.{is_at_most}
use Rattle.crew_vector.specs.Events.{ArrivedBefore, board_vector, idle_vector, network_of, wait_vector}
use Rattle.crew_vector.specs.Fronts.{IsFrontAt, vector_cmp}
use Rattle.crew_vector.specs.Machinery.Named.{named_order}
use Rattle.crew_vector.specs.Machinery.VectorResources.{vector_resource}
use Rattle.crew_vector.specs.Values.{value_of}
use Rattle.crew_vector.specs.Machinery.VectorLaws.{vector_counting, vector_shifts, vector_staged}
use Rattle.crew_pairing.specs.declared.vector.PairingVector.{PairingVector}
use Rattle.crew_vector.proofs.Nodes.{Known, arcs-rise, rank}
use Rattle.crew_vector.proofs.Orders.{key-exact}
use Rattle.crew_vector.proofs.Paths.{legal-in-range, front-from, key_of, known-legal, legal-known, may_start}
use Rattle.crew_vector.proofs.Steps.{extends, opens, steps}

test-le : (a b : ℤ) → int_le a b ≡ true → a ≤ℤ b
test-le a b h = grind (arith, ints)

-- who arrives in time for a departure left before it
pub left-before : (s : Settings) (e : Duty) (x : Arrival) (g : Departure) → Events.IsSound e → arrival_of e ≡ x → may_wait s x g ≡ true → e.report <ℤ g.report
left-before s e x g sound at h =
    let here : may_wait s (arrival_of e) g ≡ true = ap (λ z. may_wait s z g) at ∙ h in
    let rest : pos 600 ≤ℤ (g.report -ℤ e.release) = test-le (pos 600) (g.report -ℤ e.release) (and_parts _ _ (and_parts _ _ here).1).0 in
    let elapsed = sound.elapsed in
    omega (arith, ints, elapsed, rest)

-- where each pool is made from what stands at its arrivals when its departure comes
at-events : (s : Settings) (t : Timetable) (base : List ℕ) (price : ℤ) (duties : List Duty) → IsChecked s → IsSound t → AreDuties s t duties
    → (pools : Departure → List (PairingVector × List (List Leg))) (arrivals : Departure → Arrival → List (PairingVector × List (List Leg)))
    → ((d : Duty) → IsDuty s (flights_of t) d → IsLocal is_at_most walk_at_most (FromPools (network_of s base price duties) (arrivals (departure_of d)) (departure_of d)) (pools (departure_of d)))
    → ((d : Duty) (x : Arrival) → IsDuty s (flights_of t) d → may_wait s x (departure_of d) ≡ true
    → IsLocal is_at_most walk_at_most (Arriving (network_of s base price duties) (λ e. view (network_of s base price duties) e (pools (departure_of e))) x) (arrivals (departure_of d) x))
    → (d : Duty) → IsDuty s (flights_of t) d → IsFrontAt s t base price d (view (network_of s base price duties) d (pools (departure_of d)))
at-events s t base price duties checked sound exactly pools arrivals pool_local arrival_local d legal =
    let known = Known s t base price checked sound in
    let legal_of = λ (e : Duty) (m : Member known e). known-legal s t base price checked sound e m in
    let inward = λ (e : Duty) (m : Member duties e). legal-known s t base price checked sound e (exactly.sound e m) in
    let outward = λ (e : Duty) (m : Member known e).
    let l = legal_of e m in
    subst (Member duties) (sym l.3) (exactly.every l.0 l.1 l.2) in
    front-from s t base price checked sound d (legal-known s t base price checked sound d legal) (view (network_of s base price duties) d (pools (departure_of d)))
    (swept_fronts PairingVector Duty Arrival Departure (List Leg) vector_cmp is_at_most (opens s price) (extends s) (value_of s price) arrival_of departure_of (idle_vector price) (wait_vector s) (board_vector s) (λ v. v.duties) s.max_duties
    named_order (steps s price) (vector_staged (vector_resource s price)) (vector_shifts (vector_resource s price)) (vector_counting (vector_resource s price) s.max_duties refl)
    (key_of s t base price checked sound) key_cmp key_total key-exact known (may_start s t base price checked sound) (may_stand_after s) (may_wait s) (λ g. eq_by_cmp code_cmp g.airport base)
    (λ d. refl) (λ e d. refl)
    (rank s t base price checked sound)
    (λ e d m may. arcs-rise s t base price checked sound e d (Member-filter_in (λ e. may_stand_after s e d) known e m may))
    pools arrivals
    (λ d m. pool_local d (legal_of d m))
    (λ d x m window.
    let local = arrival_local d x (legal_of d m) window in
    record {
      among = λ v w m. let a = local.among v w m in (a.0, inward a.0 a.1, a.2, a.3);
      covers = λ v w a. local.covers v w (a.0, outward a.0 a.1, a.2, a.3);
      alone = local.alone;
    })
    d (legal-known s t base price checked sound d legal))

pub pooled : (s : Settings) (t : Timetable) (base : List ℕ) (price : ℤ) (duties : List Duty) → IsChecked s → IsSound t → AreDuties s t duties
    → (pools : Departure → List (PairingVector × List (List Leg))) (arrivals : Arrival → List (PairingVector × List (List Leg)))
    → ((d : Duty) → IsDuty s (flights_of t) d → IsLocal is_at_most walk_at_most (FromPools (network_of s base price duties) arrivals (departure_of d)) (pools (departure_of d)))
    → ((x : Arrival) → IsLocal is_at_most walk_at_most (Arriving (network_of s base price duties) (λ d. view (network_of s base price duties) d (pools (departure_of d))) x) (arrivals x))
    → (d : Duty) → IsDuty s (flights_of t) d → IsFrontAt s t base price d (view (network_of s base price duties) d (pools (departure_of d)))
pooled s t base price duties checked sound exactly pools arrivals pool_local arrival_local =
    at-events s t base price duties checked sound exactly pools (λ g. arrivals) pool_local (λ d x legal window. arrival_local x)

-- only the arrivals in a duty's window need be right
pub swept-in-window : (s : Settings) (t : Timetable) (base : List ℕ) (price : ℤ) (duties : List Duty) → IsChecked s → IsSound t → AreDuties s t duties
    → (pools : Departure → List (PairingVector × List (List Leg))) (arrivals : Departure → Arrival → List (PairingVector × List (List Leg)))
    → ((d : Duty) → IsDuty s (flights_of t) d → IsLocal is_at_most walk_at_most (FromPools (network_of s base price duties) (arrivals (departure_of d)) (departure_of d)) (pools (departure_of d)))
    → ((d : Duty) (x : Arrival) → IsDuty s (flights_of t) d → may_wait s x (departure_of d) ≡ true
    → IsLocal is_at_most walk_at_most (ArrivedBefore (network_of s base price duties) (λ e. view (network_of s base price duties) e (pools (departure_of e))) d.report x) (arrivals (departure_of d) x))
    → (d : Duty) → IsDuty s (flights_of t) d → IsFrontAt s t base price d (view (network_of s base price duties) d (pools (departure_of d)))
swept-in-window s t base price duties checked sound exactly pools arrivals pool_local arrival_local =
    at-events s t base price duties checked sound exactly pools arrivals pool_local (λ d x legal window.
    let local = arrival_local d x legal window in
    record {
      among = λ v w m. let a = local.among v w m in (a.0, a.1, a.3, a.4);
      covers = λ v w a.
          let range = legal-in-range s t base price checked sound a.0 (exactly.sound a.0 a.1) in
          local.covers v w (a.0, a.1, left-before s a.0 x (departure_of d) range a.2 window, a.2, a.3);
      alone = local.alone;
    })

pub swept : (s : Settings) (t : Timetable) (base : List ℕ) (price : ℤ) (duties : List Duty) → IsChecked s → IsSound t → AreDuties s t duties
    → (pools : Departure → List (PairingVector × List (List Leg))) (arrivals : Departure → Arrival → List (PairingVector × List (List Leg)))
    → ((d : Duty) → IsDuty s (flights_of t) d → IsLocal is_at_most walk_at_most (FromPools (network_of s base price duties) (arrivals (departure_of d)) (departure_of d)) (pools (departure_of d)))
    → ((d : Duty) (x : Arrival) → IsDuty s (flights_of t) d → IsLocal is_at_most walk_at_most (ArrivedBefore (network_of s base price duties) (λ e. view (network_of s base price duties) e (pools (departure_of e))) d.report x) (arrivals (departure_of d) x))
    → (d : Duty) → IsDuty s (flights_of t) d → IsFrontAt s t base price d (view (network_of s base price duties) d (pools (departure_of d)))
swept s t base price duties checked sound exactly pools arrivals pool_local arrival_local =
    swept-in-window s t base price duties checked sound exactly pools arrivals pool_local (λ d x legal window. arrival_local d x legal)
