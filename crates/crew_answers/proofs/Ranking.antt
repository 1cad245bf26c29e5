-- Reports rise from duty to duty.
use Rattle.std.proofs.Common.{◌≡◌, ◌+◌, ◌<◌, true, List, [], ◌∷◌, inl, inr, ℤ, pos, negsuc, ◌+ℤ◌, ◌-ℤ◌, ◌&&◌, int_le, subst, arith}
use Rattle.std.specs.Ordering.{eq_by_cmp}
use Rattle.std.proofs.lemmas.Bool.{and_parts}
use Rattle.crew_flights.specs.Codes.{code_cmp}
use Rattle.std.specs.Prelude.{◌≤ℤ◌, ◌<ℤ◌, unsigned_abs}
use Rattle.std.proofs.lemmas.Int.{ints}
use Rattle.crew_flights.specs.Timetable.{IsSound, Timetable}
use Rattle.crew_rules.specs.declared.settings.Settings.{Settings}
use Rattle.crew_resource.specs.Members.{Member}
use Rattle.crew_pairing.specs.Duties.{flights_of}
use Rattle.crew_pairing.specs.Pairings.{IsDuty, may_stand_after, rest}
use Rattle.crew_pairing.specs.declared.duty.Duty.{Duty}
use Rattle.crew_history.proofs.LegalOrder.{in_order}
use Rattle.crew_history.proofs.OfDuties.{lasts}
use Rattle.crew_answers.specs.Machinery.Ranks.{rank_of, reach}

size : (z : ℤ) → pos 0 ≤ℤ (z +ℤ pos (unsigned_abs z))
size (pos n) = omega (arith, ints)
size (negsuc n) = omega (arith, ints)

within-reach : (ds : List Duty) (d : Duty) → Member ds d → pos 0 ≤ℤ (d.report +ℤ pos (reach ds))
within-reach [] d m = absurd m
within-reach (x ∷ ds) d (inl e) =
    subst (λ (y : Duty). pos 0 ≤ℤ (y.report +ℤ pos (unsigned_abs x.report + reach ds))) e (omega (arith, ints, size x.report))
within-reach (x ∷ ds) d (inr m) = omega (arith, ints, within-reach ds d m)

rises-as-number : (a b : ℤ) → pos 0 ≤ℤ a → a <ℤ b → unsigned_abs a < unsigned_abs b
rises-as-number (pos a) (pos b) h k = omega (arith, ints)
rises-as-number (pos a) (negsuc b) h k = absurd (omega (arith, ints))
rises-as-number (negsuc a) b h k = absurd (omega (arith, ints))

shifted-less : (a r b n : ℤ) → a ≤ℤ r → r <ℤ b → (a +ℤ n) <ℤ (b +ℤ n)
shifted-less a r b n h k = omega (arith, ints)

ten-hours : (x y : ℤ) → int_le (pos 600) (y -ℤ x) ≡ true → x <ℤ y
ten-hours x y h = grind (arith, ints)

pub later-report : (s : Settings) (e d : Duty) → may_stand_after s e d ≡ true → e.release <ℤ d.report
later-report s e d follows =
    let rested = and_parts (int_le (pos 600) (rest e d)) (int_le (rest e d) (pos s.max_rest)) (and_parts (eq_by_cmp code_cmp e.to d.from) (int_le (pos 600) (rest e d) && int_le (rest e d) (pos s.max_rest)) follows).1 in
    ten-hours e.release d.report rested.0

pub rank-rises : (s : Settings) (t : Timetable) (duties : List Duty) (e d : Duty) → IsSound t → Member duties e
    → IsDuty s (flights_of t) e → may_stand_after s e d ≡ true → rank_of duties e < rank_of duties d
rank-rises s t duties e d sound known legal follows =
    let timed = in_order s t e [] sound (legal, tt) tt in
    rises-as-number (e.report +ℤ pos (reach duties)) (d.report +ℤ pos (reach duties)) (within-reach duties e known)
    (shifted-less e.report e.release d.report (pos (reach duties)) (lasts e timed) (later-report s e d follows))
