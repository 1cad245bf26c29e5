-- What is local to a node of pairings of up to 240 hours: entries made from those of the nodes just
-- before it.
use Rattle.std.specs.Prelude.{◌≡◌, ◌⊎◌, ℕ, Bool, true, cond, ◌&&◌, int_le, ℤ, pos, ◌+ℤ◌, ◌-ℤ◌, List, [], ◌∷◌, ◌++◌}
use Rattle.crew_flights.specs.Timetable.{Timetable}
use Rattle.crew_rules.specs.declared.settings.Settings.{Settings}
use Rattle.crew_resource.specs.Labels.{IsLocal}
use Rattle.crew_resource.specs.Members.{Member}
use Rattle.crew_pairing.specs.Duties.{flights_of}
use Rattle.crew_pairing.specs.Keys.{walk_at_most}
use Rattle.crew_pairing.specs.Legs.{Leg}
use Rattle.crew_pairing.specs.Pairings.{IsDuty, may_stand_after, rest}
use Rattle.crew_pairing.specs.declared.duty.Duty.{Duty}
use Rattle.crew_vector.specs.Locals as Sums
use Rattle.crew_history.specs.Histories as Histories
use Rattle.crew_history.specs.Limits.{arrival, period_of}
use Rattle.crew_answers.specs.Dominance.{is_at_most}
use Rattle.crew_answers.specs.Fronts.{IsFrontAt}
use Rattle.crew_answers.specs.LongVectors.{LongVector, is_long, long_vector_of, settings_of_sums}

-- a vector with one more duty: each sum grows by what the duty adds, a long rest before it starts
-- the minutes since anew, and the history is cut to the window that ends with it
abbrev pub grown : Settings → Duty → Duty → LongVector → LongVector
grown s last next v = record {
  sums = Sums.grown s last next v.sums;
  since_rest = cond (is_long s)
      (cond (int_le (pos 1_800) (rest last next)) (pos 0)
      (v.since_rest +ℤ (next.report -ℤ last.report))) (pos 0);
  history = cond (is_long s) (Histories.grown (pos 10_080) v.history (period_of next)) [];
}

-- the limits, by the parts of a vector and the last duty: the caps on sums; at the last report 30
-- free hours within the 168 hours before (117.25(b)); and in the window that ends with the last
-- arrival no more flight duty than its cap (117.23(c)(1))
abbrev pub is_within_limits : Settings → Duty → LongVector → Bool
is_within_limits s last v =
    Sums.is_vector_within_caps (settings_of_sums s) v.sums
    && cond (is_long s) (int_le v.since_rest (pos 8_280)
    && int_le (Histories.minutes_after v.history (arrival last -ℤ pos 10_080)) (pos s.fdp_cap))
    true

-- duties, each with entries
abbrev pub Feed : Type 0
Feed = List (Duty × List (LongVector × List (List Leg)))

-- within the limits: the duty alone, where it leaves the base, and each entry of the feed with the
-- duty after it
abbrev pub Candidate : Settings → List ℕ → ℤ → Duty → Feed → LongVector → List (List Leg)
    → Type 0
Candidate s base price d feed v w =
    ((d.from ≡ base) × (is_within_limits s d (long_vector_of s price d []) ≡ true)
    × (v ≡ long_vector_of s price d []) × (w ≡ d.key ∷ []))
    ⊎ ((e : Duty) × (es : List (LongVector × List (List Leg))) × (u : LongVector)
    × (y : List (List Leg)) × Member feed (e, es) × Member es (u, y)
    × (is_within_limits s d (grown s e d u) ≡ true) × (v ≡ grown s e d u)
    × (w ≡ y ++ d.key ∷ []))

-- the candidates that none beats, each vector with the least walk
abbrev pub IsLocalAt : Settings → List ℕ → ℤ → Duty → Feed
    → List (LongVector × List (List Leg)) → Type 0
IsLocalAt s base price d feed =
    IsLocal is_at_most walk_at_most (Candidate s base price d feed)

-- exactly the legal duties after which d may stand, each with its front
pub record AreFrontsBefore (s : Settings) (t : Timetable) (base : List ℕ)
    (price : ℤ) (d : Duty) (feed : Feed) : Type 0 where
  pub right : (e : Duty) (es : List (LongVector × List (List Leg))) → Member feed (e, es)
      → IsDuty s (flights_of t) e × (may_stand_after s e d ≡ true)
      × IsFrontAt s t base price e es
  pub every : (e : Duty) → IsDuty s (flights_of t) e → may_stand_after s e d ≡ true
      → (es : List (LongVector × List (List Leg))) × Member feed (e, es)
