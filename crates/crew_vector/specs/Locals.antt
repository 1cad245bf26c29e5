-- What is local to a node: entries made from those of the nodes just before it.
use Rattle.std.specs.Prelude.{◌≡◌, ◌⊎◌, ℕ, Bool, true, ◌&&◌, int_le, ℤ, pos, ◌+ℤ◌, ◌-ℤ◌, ◌*ℤ◌, List, [], ◌∷◌, ◌++◌}
use Rattle.crew_pairing.specs.Duties.{flights_of}
use Rattle.crew_pairing.specs.Pairings.{IsDuty, is_within_caps, may_stand_after}
use Rattle.crew_pairing.specs.declared.duty.Duty.{Duty}
use Rattle.crew_pairing.specs.Legs.{Leg}
use Rattle.crew_flights.specs.Timetable.{Timetable}
use Rattle.crew_resource.specs.Labels.{IsLocal}
use Rattle.crew_resource.specs.Members.{Member}
use Rattle.crew_rules.specs.Settings.{fdp_most}
use Rattle.crew_rules.specs.declared.settings.Settings.{Settings}
use Rattle.crew_vector.specs.Dominance.{is_at_most}
use Rattle.crew_vector.specs.Fronts.{IsFrontAt}
use Rattle.crew_pairing.specs.Vectors.{vector_of}
use Rattle.crew_pairing.specs.Keys.{walk_at_most}
use Rattle.crew_pairing.specs.declared.vector.PairingVector.{PairingVector}

-- a vector with one more duty: each part grows by what the duty adds
abbrev pub grown : Settings → Duty → Duty → PairingVector → PairingVector
grown s last next v = record {
  duty_pay = v.duty_pay +ℤ (next.pay -ℤ next.price);
  trip_rig = v.trip_rig +ℤ (pos s.trip_rig *ℤ (next.release -ℤ last.release) -ℤ next.price);
  guarantee = v.guarantee +ℤ (pos s.guarantee -ℤ next.price);
  fdp = v.fdp +ℤ next.fdp;
  fly = v.fly +ℤ next.fly;
  duties = v.duties +ℤ pos 1;
  away = v.away +ℤ (next.release -ℤ last.release);
}

-- the caps, by the parts of a vector
abbrev pub is_vector_within_caps : Settings → PairingVector → Bool
is_vector_within_caps s v =
    int_le v.fdp (pos (fdp_most s)) &&
    (int_le v.fly (pos s.fly_cap) &&
    (int_le v.duties (pos s.max_duties) && int_le v.away (pos s.away_cap)))

-- duties, each with entries
abbrev pub Feed : Type 0
Feed = List (Duty × List (PairingVector × List (List Leg)))

-- within the caps: the duty alone, where it leaves the base, and each entry of the feed with the
-- duty after it
abbrev pub Candidate : Settings → List ℕ → ℤ → Duty → Feed → PairingVector → List (List Leg)
    → Type 0
Candidate s base price d feed v w =
    ((d.from ≡ base) × (is_within_caps s (d ∷ []) ≡ true) × (v ≡ vector_of s price (d ∷ []))
    × (w ≡ d.key ∷ []))
    ⊎ ((e : Duty) × (es : List (PairingVector × List (List Leg))) × (u : PairingVector)
    × (y : List (List Leg)) × Member feed (e, es) × Member es (u, y)
    × (is_vector_within_caps s (grown s e d u) ≡ true) × (v ≡ grown s e d u)
    × (w ≡ y ++ d.key ∷ []))

-- the candidates that none beats, each vector with the least walk
abbrev pub IsLocalAt : Settings → List ℕ → ℤ → Duty → Feed
    → List (PairingVector × List (List Leg)) → Type 0
IsLocalAt s base price d feed = IsLocal is_at_most walk_at_most (Candidate s base price d feed)

-- exactly the legal duties after which d may stand, each with its front
pub record AreFrontsBefore (s : Settings) (t : Timetable) (base : List ℕ) (price : ℤ) (d : Duty)
    (feed : Feed) : Type 0 where
  pub right : (e : Duty) (es : List (PairingVector × List (List Leg))) → Member feed (e, es)
      → IsDuty s (flights_of t) e × (may_stand_after s e d ≡ true) × IsFrontAt s t base price e es
  pub every : (e : Duty) → IsDuty s (flights_of t) e → may_stand_after s e d ≡ true
      → (es : List (PairingVector × List (List Leg))) × Member feed (e, es)
