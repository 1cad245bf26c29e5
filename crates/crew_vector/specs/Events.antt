-- The time-space network of a base: labels wait from the events at which duties arrive to those at
-- which duties leave, and board duties there. Networks of duties along time are described in
-- Barnhart et al. 2003, "Airline crew scheduling".
use Rattle.std.specs.Prelude.{◌≡◌, ℕ, cond, ℤ, pos, ◌+ℤ◌, ◌-ℤ◌, ◌<ℤ◌, neg_ℤ, List, [], ◌∷◌, ◌++◌, Option, Some, None}
use Rattle.std.specs.Option.{option_map}
use Rattle.std.specs.Ordering.{eq_by_cmp}
use Rattle.crew_pairing.specs.declared.duty.Duty.{Duty}
use Rattle.crew_pairing.specs.declared.events.Arrival.{Arrival}
use Rattle.crew_pairing.specs.declared.events.Departure.{Departure}
use Rattle.crew_pairing.specs.Legs.{Leg}
use Rattle.crew_flights.specs.Codes.{code_cmp}
use Rattle.crew_resource.specs.Events.{Network}
use Rattle.crew_resource.specs.Members.{Member}
use Rattle.crew_rules.specs.declared.settings.Settings.{Settings}
use Rattle.crew_pairing.specs.Events.{arrival_of, departure_of, may_wait}
use Rattle.crew_vector.specs.Machinery.Amounts.{rig_wait}
use Rattle.crew_vector.specs.Machinery.Numbers.{named, numbers_of}
use Rattle.crew_vector.specs.Machinery.VectorResources.{vector_resource}
use Rattle.crew_vector.specs.Machinery.Sides.{aboard}
use Rattle.crew_pairing.specs.declared.vector.PairingVector.{PairingVector}

-- before any duty: what the base's price takes off
abbrev pub idle_vector : ℤ → Departure → PairingVector
idle_vector price g = record {
  duty_pay = neg_ℤ price;
  trip_rig = neg_ℤ price;
  guarantee = neg_ℤ
      price;
  fdp = pos 0;
  fly = pos 0;
  duties = pos 0;
  away = pos 0;
}

-- the trip rig and the minutes away grow by the rest
abbrev pub wait_vector : Settings → PairingVector → Arrival → Departure → PairingVector
wait_vector s v x g = record {
  duty_pay = v.duty_pay +ℤ pos 0;
  trip_rig = v.trip_rig +ℤ rig_wait s.trip_rig x g;
  guarantee = v.guarantee +ℤ pos 0;
  fdp = v.fdp +ℤ pos 0;
  fly = v.fly +ℤ pos 0;
  duties = v.duties +ℤ pos 0;
  away = v.away +ℤ (g.report -ℤ x.release);
}

-- each part grows by the duty's own amount, and none where a cap is passed
abbrev pub board_vector : Settings → PairingVector → Duty → Option PairingVector
board_vector s v d = option_map named (aboard (vector_resource s (pos 0)) (numbers_of v) d)

abbrev pub network_of : Settings → List ℕ → ℤ → List Duty
    → Network Duty PairingVector (List (List Leg)) Departure Arrival
network_of s base price duties = record {
  known = duties;
  leaves = departure_of;
  arrives = arrival_of;
  window = may_wait s;
  none = [];
  more = λ w d. w ++ d.key ∷ [];
  idle = λ g. cond (eq_by_cmp code_cmp g.airport base) (Some (idle_vector price g)) None;
  wait = wait_vector s;
  board = board_vector s;
}

-- the entries at an arrival event of the duties that leave before a minute
abbrev pub ArrivedBefore : Network Duty PairingVector (List (List Leg)) Departure Arrival
    → (Duty → List (PairingVector × List (List Leg))) → ℤ → Arrival → PairingVector
    → List (List Leg) → Type 0
ArrivedBefore net fronts minute x v w = (d : Duty) × Member net.known d × (d.report <ℤ minute)
    × (net.arrives d ≡ x) × Member (fronts d) (v, w)

-- of these the ones with a duty to spare: the others can board nothing
abbrev pub ArrivedToSpare : Settings
    → Network Duty PairingVector (List (List Leg)) Departure Arrival
    → (Duty → List (PairingVector × List (List Leg))) → ℤ → Arrival → PairingVector
    → List (List Leg) → Type 0
ArrivedToSpare s net fronts minute x v w = ArrivedBefore net fronts minute x v w
    × (v.duties <ℤ pos s.max_duties)
