-- What may come next departs within a span.
use Rattle.std.proofs.Common.{◌≡◌, ℕ, ℤ, pos, ◌+ℤ◌, ◌-ℤ◌, int_le, ◌&&◌, Bool, true, false, [], refl, arith}
use Rattle.std.proofs.lemmas.Bool.{and_from, and_parts}
use Rattle.std.proofs.lemmas.Int.{ints}
use Rattle.crew_flights.specs.Timetable.{Turns}
use Rattle.crew_flights.specs.declared.flight.Flight.{Flight}
use Rattle.crew_pairing.specs.Legality.{duty_of, may_follow, turn_time}
use Rattle.crew_pairing.specs.Machinery.Listing.{timed}
use Rattle.crew_pairing.specs.Pairings.{may_stand_after}
use Rattle.crew_pairing.specs.declared.duty.Duty.{Duty}
use Rattle.crew_rules.specs.declared.settings.Settings.{Settings}
use Rattle.crew_audit.specs.Machinery.Leaving.{leaves_within}

-- between two ends, one moved by as much as the other
moved : (least most from end at past : ℤ) → from ≡ past +ℤ least → end ≡ past +ℤ most → int_le least (at -ℤ past) && int_le (at -ℤ past) most ≡ true → int_le from at && int_le at end ≡ true
moved least most from end at past e g t =
    by (int_le least (at -ℤ past)) (int_le (at -ℤ past) most) refl refl t
  where
    both : (p q : Bool) → p ≡ true → q ≡ true → p && q ≡ true
    both true q a b = b
    both false q a b = cc

    by : (p q : Bool) → int_le least (at -ℤ past) ≡ p → int_le (at -ℤ past) most ≡ q → p && q ≡ true → int_le from at && int_le at end ≡ true
    by true true a b h = both (int_le from at) (int_le at end) (grind (arith, ints, e)) (grind (arith, ints, g))
    by true false a b h = cc
    by false q a b h = cc

second : (a b c : Bool) → (b ≡ true → c ≡ true) → a && b ≡ true → a && c ≡ true
second true b c h e = h e
second false b c h e = cc

-- after a turn of any minutes a flight is no earlier than the arrival
no-less : (n : ℕ) (gap most : ℤ) → int_le (pos n) gap && int_le gap most ≡ true → int_le (pos 0) gap && int_le gap most ≡ true
no-less n gap most t =
    let both = and_parts (int_le (pos n) gap) (int_le gap most) t in
    and_from (int_le (pos 0) gap) (int_le gap most) (late both.0) both.1
  where
    late : int_le (pos n) gap ≡ true → int_le (pos 0) gap ≡ true
    late h = grind (arith, ints)

-- a leg that may follow another
pub follows-within : (s : Settings) (turns : Turns) (last : Flight) (from end : ℤ) → from ≡ last.arr +ℤ pos 0 → end ≡ last.arr +ℤ pos s.sit
    → (f : Flight) → may_follow s turns last f ≡ true → leaves_within last.to (record { from = from; end = end }) f ≡ true
follows-within s turns last from end e g f t =
    second _ _ _ (λ h. moved (pos 0) (pos s.sit) from end f.dep last.arr e g (no-less (turn_time s turns last f) (f.dep -ℤ last.arr) (pos s.sit) h)) t

-- a duty that may stand after another
pub rests-within : (s : Settings) (last : Duty) (from end : ℤ) → from ≡ last.release +ℤ pos s.lead +ℤ pos 600 → end ≡ last.release +ℤ pos s.lead +ℤ pos s.max_rest
    → (f : Flight) → may_stand_after s last (duty_of s (timed false f) []) ≡ true → leaves_within last.to (record { from = from; end = end }) f ≡ true
rests-within s last from end e g f t =
    second _ _ _ (λ h. moved (pos 600) (pos s.max_rest) from end f.dep (last.release +ℤ pos s.lead) e g (same h)) t
  where
    same : int_le (pos 600) ((f.dep -ℤ pos s.lead) -ℤ last.release) && int_le ((f.dep -ℤ pos s.lead) -ℤ last.release) (pos s.max_rest) ≡ true
        → int_le (pos 600) (f.dep -ℤ (last.release +ℤ pos s.lead)) && int_le (f.dep -ℤ (last.release +ℤ pos s.lead)) (pos s.max_rest) ≡ true
    same h = let e : (f.dep -ℤ pos s.lead) -ℤ last.release ≡ f.dep -ℤ (last.release +ℤ pos s.lead) = omega (arith, ints) in rw (← e) h
