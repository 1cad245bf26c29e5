-- Values of three parts tell partials: seven sums, the end of the last long rest, and what knows the flight duty periods of the last window.
use Rattle.std.proofs.Common.{◌≡◌, ℕ, ◌≤◌, Bool, true, false, ◌&&◌, cond, List, [], ◌∷◌, length, Option, Some, None, ℤ, pos, ◌-ℤ◌, int_le, min, refl, sym, ◌∙◌, ap, subst, ⊎_elim, arith}
use Rattle.std.proofs.lemmas.Bool.{and_parts, cases_Bool}
use Rattle.std.proofs.lemmas.Int.{ints}
use Rattle.crew_flights.specs.Timetable.{IsSound, Timetable}
use Rattle.crew_rules.specs.Settings.{IsChecked}
use Rattle.crew_rules.specs.declared.settings.Settings.{Settings}
use Rattle.crew_resource.specs.Machinery.Both.{both}
use Rattle.crew_resource.specs.Machinery.BothLaws.{both_parts}
use Rattle.crew_resource.specs.Members.{Each}
use Rattle.crew_pairing.proofs.Timetables.{flights-of-timetable}
use Rattle.crew_pairing.specs.Duties.{flights_of}
use Rattle.crew_pairing.specs.Events as Events
use Rattle.crew_pairing.specs.Events.{MayFollow, arrival_of, departure_of}
use Rattle.crew_pairing.specs.Legality.{total}
use Rattle.crew_pairing.specs.Pairings.{AllRested, IsDuty, is_within_caps, last_duty, minutes_away}
use Rattle.crew_pairing.specs.Vectors.{vector_of}
use Rattle.crew_pairing.specs.declared.duty.Duty.{Duty}
use Rattle.crew_pairing.specs.declared.vector.PairingVector.{PairingVector}
use Rattle.crew_vector.specs.Dominance as Plain
use Rattle.crew_vector.specs.Machinery.Along.{GoesOn, IsLine}
use Rattle.crew_vector.specs.Values.{value_of}
use Rattle.crew_vector.proofs.Fitting.{caps-of-whole, value-out}
use Rattle.crew_vector.proofs.LegalDuties.{legal-sound}
use Rattle.crew_vector.proofs.Paths.{follows}
use Rattle.crew_history.specs.Histories.{is_no_more}
use Rattle.crew_history.specs.Limits.{AreInOrder, KeepsWindows, history_of, last_rest_end, since_rest}
use Rattle.crew_history.specs.LongPairings.{IsLongPartial, is_within_totals}
use Rattle.crew_history.proofs.LegalOrder.{in_order}
use Rattle.crew_long.specs.RestEnds.{rest_end_at, rest_end_at_most}
use Rattle.crew_long.specs.Machinery.Folds.{value_by}
use Rattle.crew_long.specs.Machinery.RestStages.{extend_rest, open_rest}
use Rattle.crew_long.specs.declared.rest_end.RestEnd.{RestEnd}
use Rattle.crew_long.proofs.RestValues.{rest_off, rest_value, value_frees}
use Rattle.crew_answers.specs.Dominance.{is_at_most}
use Rattle.crew_answers.specs.LongVectors.{LongVector, is_long, long_vector_of, settings_of_sums}
use Rattle.crew_answers.proofs.InRange.{checked-short}
use Rattle.crew_answers.proofs.Caps.{same-duties, same-legal, same-rests}
use Rattle.crew_answers.proofs.Missing.{same-some, three}
use Rattle.crew_answers.proofs.ShortPartials.{partial-from-long, partial-to-long}
use Rattle.crew_answers.proofs.Tests.{same-tests}
use Rattle.crew_answers.proofs.Told.{Tells}
use Rattle.crew_answers.proofs.Vectors.{same-vector}

and-under : (p q q' r r' : Bool) → q ≡ q' → (p ≡ true → r ≡ r') → p && (q && r) ≡ (p && (q' && r'))
and-under true q q' r r' e f = ap (λ z. z && r) e ∙ ap (λ z. q' && z) (f refl)
and-under false q q' r r' e f = refl

module _ (s : Settings) (t : Timetable) (base : List ℕ) (price : ℤ) (range : IsChecked s) (sound : IsSound t) where
  abbrev Sums : Settings
  Sums = settings_of_sums s

  abbrev Partial : Duty → List Duty → Type 0
  Partial first others = IsLongPartial s (flights_of t) base first others

  legal-in-range : (d : Duty) → IsDuty s (flights_of t) d → Events.IsSound d
  legal-in-range d l = subst Events.IsSound (sym l.3)
      (legal-sound (record s { away_cap = 8_280 }) (flights_of t) l.0 l.1 (checked-short s range) (flights-of-timetable t sound) (same-legal s s.fdp_cap 8_280 (flights_of t) l.0 l.1 l.2))

  goes-on : (first : Duty) (others : List Duty) → Each (IsDuty s (flights_of t)) others → AllRested s first others → GoesOn Events.IsSound MayFollow arrival_of departure_of first others
  goes-on first [] h r = tt
  goes-on first (next ∷ others) h r = (legal-in-range next h.0, follows (record s { away_cap = 8_280 }) first next (checked-short s range) r.0, goes-on next others h.1 r.1)

  pub line : (first : Duty) (others : List Duty) → Each (IsDuty s (flights_of t)) (first ∷ others) → AllRested s first others → IsLine (first ∷ others)
  line first others h r = (legal-in-range first h.0, goes-on first others h.1 r)

  pub ordered : (first : Duty) (others : List Duty) → Each (IsDuty s (flights_of t)) (first ∷ others) → AllRested s first others → AreInOrder first others
  ordered first others = in_order s t first others sound

  -- where pairings may be long the caps on totals are those of the sums
  long-caps : (ds : List Duty) → is_long s ≡ true → is_within_caps Sums ds ≡ is_within_totals s ds
  long-caps ds e =
      ap (λ k. int_le (total (λ d. d.fdp) ds) (pos k)
      && (int_le (total (λ d. d.fly) ds) (pos s.fly_cap) && (int_le (pos (length ds)) (pos s.max_duties) && int_le (minutes_away ds) (pos s.away_cap))))
      (ap (λ b. min (cond b s.fdp_total s.fdp_cap) s.fdp_total) e ∙ itself s.fdp_total)
    where
      itself : (n : ℕ) → min n n ≡ n
      itself n = omega arith

  within-sums : (first : Duty) (others : List Duty) → Partial first others → is_within_caps Sums (first ∷ others) ≡ true
  within-sums first others p =
      ⊎_elim (λ e. long-caps (first ∷ others) e ∙ p.capped) (λ e. (partial-from-long s t base first others sound e p).capped) (cases_Bool (is_long s))

  sums-value : (first : Duty) (others : List Duty) → Partial first others → value_of Sums price (first ∷ others) ≡ Some (vector_of s price (first ∷ others))
  sums-value first others p =
      ap (λ b. cond b (Some (vector_of s price (first ∷ others))) None) (caps-of-whole Sums first others (line first others p.legal p.rested) ∙ within-sums first others p)

  -- the third part knows the flight duty periods of the last window
  pub record Recalls (W : Type 0) (third_of : List Duty → Option W) (periods : W → List (ℤ × ℤ)) (third_le : W → W → Bool) : Type 0 where
    pub value : (first : Duty) (others : List Duty) → is_long s ≡ true → Partial first others
        → (w : W) × (third_of (first ∷ others) ≡ Some w) × (periods w ≡ history_of first others)
    pub keeps : (first : Duty) (others : List Duty) (w : W) → is_long s ≡ true → AreInOrder first others → third_of (first ∷ others) ≡ Some w
        → KeepsWindows (pos s.fdp_cap) (first ∷ others)
    pub off : is_long s ≡ false → (w : W) × (periods w ≡ []) × ((first : Duty) (others : List Duty) → third_of (first ∷ others) ≡ Some w)
    pub decides : (first : Duty) (others : List Duty) (other_first : Duty) (other_others : List Duty) (u v : W)
        → Partial first others → Partial other_first other_others → third_of (first ∷ others) ≡ Some u → third_of (other_first ∷ other_others) ≡ Some v
        → length (first ∷ others) ≤ length (other_first ∷ other_others) → third_le u v ≡ is_no_more (periods u) (periods v)

  module _ (W : Type 0) (third_of : List Duty → Option W) (periods : W → List (ℤ × ℤ)) (third_le : W → W → Bool) (recalls : Recalls W third_of periods third_le)
      (V : Type 0) (le : V → V → Bool) (all_of : List Duty → Option V) (parts : V → PairingVector × (RestEnd × W))
      (out : (ds : List Duty) (v : V) → all_of ds ≡ Some v → both (value_of Sums price ds) (both (value_by (open_rest (is_long s)) (extend_rest (is_long s)) ds) (third_of ds)) ≡ Some (parts v))
      (back : (ds : List Duty) (p : PairingVector × (RestEnd × W)) → both (value_of Sums price ds) (both (value_by (open_rest (is_long s)) (extend_rest (is_long s)) ds) (third_of ds)) ≡ Some p → (v : V) × (all_of ds ≡ Some v))
      (le_is : (u v : V) → le u v ≡ (Plain.is_at_most (parts u).0 (parts v).0 && (rest_end_at_most (parts u).1.0 (parts v).1.0 && third_le (parts u).1.1 (parts v).1.1))) where
    abbrev pub shows : Duty → V → LongVector
    shows d v = record {
      sums = (parts v).0;
      since_rest = cond (is_long s) (d.report -ℤ (parts v).1.0.minute) (pos 0);
      history = periods (parts v).1.1;
    }

    abbrev rest_of : List Duty → Option RestEnd
    rest_of ds = value_by (open_rest (is_long s)) (extend_rest (is_long s)) ds

    -- what each part says
    pub record Each_part (first : Duty) (others : List Duty) (v : V) : Type 0 where
      pub sums : value_of Sums price (first ∷ others) ≡ Some (parts v).0
      pub rest : rest_of (first ∷ others) ≡ Some (parts v).1.0
      pub third : third_of (first ∷ others) ≡ Some (parts v).1.1

    each-part : (first : Duty) (others : List Duty) (v : V) → all_of (first ∷ others) ≡ Some v → Each_part first others v
    each-part first others v e =
        let k = both_parts (value_of Sums price (first ∷ others)) (both (rest_of (first ∷ others)) (third_of (first ∷ others))) (parts v) (out (first ∷ others) v e) in
        let l = both_parts (rest_of (first ∷ others)) (third_of (first ∷ others)) (parts v).1 k.1 in
        record { sums = k.0; rest = l.0; third = l.1 }

    value : (first : Duty) (others : List Duty) → Partial first others → (v : V) × (all_of (first ∷ others) ≡ Some v)
    value first others p =
        let o = ordered first others p.legal p.rested in
        ⊎_elim
        (λ e.
        let w = recalls.value first others e p in
        back (first ∷ others) (vector_of s price (first ∷ others), (rest_end_at (last_rest_end first others), w.0))
        (three (value_of Sums price (first ∷ others)) (rest_of (first ∷ others)) (third_of (first ∷ others)) (vector_of s price (first ∷ others)) (rest_end_at (last_rest_end first others)) w.0 (sums-value first others p) (rest_value (is_long s) first others e o p.free) w.1))
        (λ e.
        let w = recalls.off e in
        back (first ∷ others) (vector_of s price (first ∷ others), (rest_end_at (pos 0), w.0))
        (three (value_of Sums price (first ∷ others)) (rest_of (first ∷ others)) (third_of (first ∷ others)) (vector_of s price (first ∷ others)) (rest_end_at (pos 0)) w.0 (sums-value first others p) (rest_off (is_long s) first others e) (w.2 first others)))
        (cases_Bool (is_long s))

    partial-of : (first : Duty) (others : List Duty) (v : V) → Each (IsDuty s (flights_of t)) (first ∷ others) → first.from ≡ base → AllRested s first others
        → Each_part first others v → Partial first others
    partial-of first others v legal leaves rested k =
        let within = (value-out Sums price (first ∷ others) (parts v).0 k.sums).0 in
        let o = ordered first others legal rested in
        ⊎_elim
        (λ e. record {
          legal = legal;
          leaves = leaves;
          rested = rested;
          capped = sym (long-caps (first ∷ others) e) ∙ within;
          windows = recalls.keeps first others (parts v).1.1 e o k.third;
          free = value_frees (is_long s) first others (parts v).1.0 e o k.rest;
        })
        (λ e. partial-to-long s t base first others sound e (record {
          legal = same-duties s Sums.fdp_cap s.away_cap (flights_of t) (first ∷ others) legal;
          leaves = leaves;
          rested = same-rests s Sums.fdp_cap s.away_cap first others rested;
          capped = within;
        }))
        (cases_Bool (is_long s))

    vector-shown : (first : Duty) (others : List Duty) (v : V) → Partial first others → Each_part first others v
        → shows (last_duty first others) v ≡ long_vector_of s price first others
    vector-shown first others v p k =
        let o = ordered first others p.legal p.rested in
        let sums = sym (value-out Sums price (first ∷ others) (parts v).0 k.sums).1 in
        ⊎_elim
        (λ e.
        let w = recalls.value first others e p in
        let ends : (parts v).1.0 ≡ rest_end_at (last_rest_end first others) = same-some (parts v).1.0 (rest_end_at (last_rest_end first others)) (sym k.rest ∙ rest_value (is_long s) first others e o p.free) in
        let past : (parts v).1.1 ≡ w.0 = same-some (parts v).1.1 w.0 (sym k.third ∙ w.1) in
        same-vector (parts v).0 (vector_of s price (first ∷ others)) _ _ _ _ sums
        (ap (λ (z : RestEnd). cond (is_long s) ((last_duty first others).report -ℤ z.minute) (pos 0)) ends)
        (ap periods past ∙ (w.2 ∙ sym (ap (λ b. cond b (history_of first others) []) e))))
        (λ e.
        let w = recalls.off e in
        let past : (parts v).1.1 ≡ w.0 = same-some (parts v).1.1 w.0 (sym k.third ∙ w.2 first others) in
        same-vector (parts v).0 (vector_of s price (first ∷ others)) _ _ _ _ sums
        (ap (λ b. cond b ((last_duty first others).report -ℤ (parts v).1.0.minute) (pos 0)) e ∙ sym (ap (λ b. cond b (since_rest first others) (pos 0)) e))
        (ap periods past ∙ (w.1 ∙ sym (ap (λ b. cond b (history_of first others) []) e))))
        (cases_Bool (is_long s))

    since-compared : (r a b : ℤ) → int_le b a ≡ int_le (r -ℤ a) (r -ℤ b)
    since-compared r a b = same-tests (int_le b a) (int_le (r -ℤ a) (r -ℤ b)) (later r a b) (sooner r a b)
      where
        later : (r a b : ℤ) → int_le b a ≡ true → int_le (r -ℤ a) (r -ℤ b) ≡ true
        later r a b h = grind (arith, ints)

        sooner : (r a b : ℤ) → int_le (r -ℤ a) (r -ℤ b) ≡ true → int_le b a ≡ true
        sooner r a b h = grind (arith, ints)

    rests-compared : (d : Duty) (first : Duty) (others : List Duty) (other_first : Duty) (other_others : List Duty) (a b : RestEnd)
        → rest_of (first ∷ others) ≡ Some a → rest_of (other_first ∷ other_others) ≡ Some b
        → rest_end_at_most a b ≡ int_le (cond (is_long s) (d.report -ℤ a.minute) (pos 0)) (cond (is_long s) (d.report -ℤ b.minute) (pos 0))
    rests-compared d first others other_first other_others a b p q =
        ⊎_elim
        (λ e. since-compared d.report a.minute b.minute ∙ ap (λ z. int_le (cond z (d.report -ℤ a.minute) (pos 0)) (cond z (d.report -ℤ b.minute) (pos 0))) (sym e))
        (λ e.
        let x : a ≡ rest_end_at (pos 0) = same-some a (rest_end_at (pos 0)) (sym p ∙ rest_off (is_long s) first others e) in
        let y : b ≡ rest_end_at (pos 0) = same-some b (rest_end_at (pos 0)) (sym q ∙ rest_off (is_long s) other_first other_others e) in
        ap (λ z. rest_end_at_most z b) x ∙ (ap (rest_end_at_most (rest_end_at (pos 0))) y
        ∙ ap (λ z. int_le (cond z (d.report -ℤ a.minute) (pos 0)) (cond z (d.report -ℤ b.minute) (pos 0))) (sym e)))
        (cases_Bool (is_long s))

    no-longer : (u v : PairingVector) (xs ys : List Duty) → vector_of Sums price xs ≡ u → vector_of Sums price ys ≡ v → Plain.is_at_most u v ≡ true → length xs ≤ length ys
    no-longer u v xs ys e f h =
        let test = (and_parts _ _ (and_parts _ _ (and_parts _ _ h).1).1).0 in
        by-test (length xs) (length ys) (subst (λ z. int_le z (pos (length ys)) ≡ true) (sym (ap (λ z. z.duties) e))
        (subst (λ z. int_le u.duties z ≡ true) (sym (ap (λ z. z.duties) f)) test))
      where
        by-test : (m n : ℕ) → int_le (pos m) (pos n) ≡ true → m ≤ n
        by-test m n h = grind (arith, ints)

    at-most : (first : Duty) (others : List Duty) (other_first : Duty) (other_others : List Duty) (u v : V) → Partial first others → Partial other_first other_others
        → all_of (first ∷ others) ≡ Some u → all_of (other_first ∷ other_others) ≡ Some v → (d : Duty) → le u v ≡ is_at_most (shows d u) (shows d v)
    at-most first others other_first other_others u v p q e f d =
        let k = each-part first others u e in
        let l = each-part other_first other_others v f in
        le_is u v
        ∙ and-under (Plain.is_at_most (parts u).0 (parts v).0) (rest_end_at_most (parts u).1.0 (parts v).1.0) (int_le (shows d u).since_rest (shows d v).since_rest) (third_le (parts u).1.1 (parts v).1.1) (is_no_more (periods (parts u).1.1) (periods (parts v).1.1))
        (rests-compared d first others other_first other_others (parts u).1.0 (parts v).1.0 k.rest l.rest)
        (λ h. recalls.decides first others other_first other_others (parts u).1.1 (parts v).1.1 p q k.third l.third
        (no-longer (parts u).0 (parts v).0 (first ∷ others) (other_first ∷ other_others) (value-out Sums price (first ∷ others) (parts u).0 k.sums).1 (value-out Sums price (other_first ∷ other_others) (parts v).0 l.sums).1 h))

    pub tells : Tells s t base price V le all_of shows
    tells = record {
      value = value;
      partial = λ first others v legal leaves rested e.
          let k = each-part first others v e in
          let p = partial-of first others v legal leaves rested k in
          (p, vector-shown first others v p k);
      at_most = λ first others other_first other_others u v p q e f ends. at-most first others other_first other_others u v p q e f (last_duty first others);
    }

    -- a value tells the number of duties
    pub told-length : (ds : List Duty) (v : V) → all_of ds ≡ Some v → pos (length ds) ≡ (parts v).0.duties
    told-length ds v e =
        let k = both_parts (value_of Sums price ds) (both (rest_of ds) (third_of ds)) (parts v) (out ds v e) in
        ap (λ z. z.duties) (value-out Sums price ds (parts v).0 k.0).1
