-- The stages of the end of the last long rest, and its laws.
use Rattle.std.specs.Prelude.{◌≡◌, Bool, true, false, cond, int_le, ℤ, pos, ◌-ℤ◌, Option, Some, None}
use Rattle.std.proofs.Common.{refl, sym, ◌∙◌, ap, subst, arith}
use Rattle.std.proofs.lemmas.Bool.{false≢true}
use Rattle.std.proofs.lemmas.Int.{ints}
use Rattle.crew_history.specs.crew_pairing.Events.{IsSound, MayFollow, arrival_of, departure_of}
use Rattle.crew_history.specs.crew_pairing.declared.duty.Duty.{Duty}
use Rattle.crew_history.specs.crew_pairing.declared.events.Arrival.{Arrival}
use Rattle.crew_history.specs.crew_pairing.declared.events.Departure.{Departure}
use Rattle.crew_resource.specs.Resource.{StepLaws}
use Rattle.crew_resource.specs.Stages.{StagedLaws, ShiftLaws, BoundLaws}
use Rattle.crew_long.specs.RestEnds.{rest_end_cmp, rest_end_at_most, idle_rest, wait_rest, board_rest}
use Rattle.crew_long.specs.Machinery.Folds.{value_by, value_steps}
use Rattle.crew_long.specs.declared.rest_end.RestEnd.{RestEnd}

abbrev pub open_rest : Bool → Duty → Option RestEnd
open_rest is_on d = board_rest is_on (idle_rest is_on (departure_of d)) d

abbrev pub extend_rest : Bool → RestEnd → Duty → Duty → Option RestEnd
extend_rest is_on v last next = board_rest is_on (wait_rest is_on v (arrival_of last) (departure_of next)) next

le_refl : (a : ℤ) → int_le a a ≡ true
le_refl a = grind (arith, ints)

set_anew : (b : Bool) (a c r : ℤ) → int_le c a ≡ true → int_le (cond b r c) (cond b r a) ≡ true
set_anew true a c r h = le_refl r
set_anew false a c r h = h

wait_monotone : (is_on : Bool) (a b : RestEnd) (x : Arrival) (g : Departure) → rest_end_at_most a b ≡ true
    → rest_end_at_most (wait_rest is_on a x g) (wait_rest is_on b x g) ≡ true
wait_monotone true a b x g h = set_anew (int_le (pos 1_800) (g.report -ℤ x.release)) a.minute b.minute g.report h
wait_monotone false a b x g h = h

taken : {V : Type 0} (t : Bool) (v c : V) → cond t (Some v) None ≡ Some c → (t ≡ true) × (v ≡ c)
taken true v c e = (refl, let q : v ≡ c = (cc) in q)
taken false v c e = absurd (let q : ⊥ = (cc) in q)

sooner : (r a b : ℤ) → int_le b a ≡ true → int_le (r -ℤ b) (pos 8_280) ≡ true → int_le (r -ℤ a) (pos 8_280) ≡ true
sooner r a b h k = grind (arith, ints)

board_monotone : (is_on : Bool) (a b c : RestEnd) (d : Duty) → rest_end_at_most a b ≡ true → board_rest is_on b d ≡ Some c
    → (z : RestEnd) × (board_rest is_on a d ≡ Some z) × (rest_end_at_most z c ≡ true)
board_monotone true a b c d h e =
    let k = taken (int_le (d.report -ℤ b.minute) (pos 8_280)) b c e in
    (a, ap (λ t. cond t (Some a) None) (sooner d.report a.minute b.minute h k.0), subst (λ z. rest_end_at_most a z ≡ true) k.1 h)
board_monotone false a b c d h e =
    let k = taken true b c e in
    (a, refl, subst (λ z. rest_end_at_most a z ≡ true) k.1 h)

pub rest_steps : (is_on : Bool) → StepLaws (open_rest is_on) (extend_rest is_on) rest_end_at_most (value_by (open_rest is_on) (extend_rest is_on))
rest_steps is_on = value_steps (open_rest is_on) (extend_rest is_on) rest_end_at_most (λ a b c last next h e.
    board_monotone is_on (wait_rest is_on a (arrival_of last) (departure_of next)) (wait_rest is_on b (arrival_of last) (departure_of next)) c next
    (wait_monotone is_on a b (arrival_of last) (departure_of next) h) e)

pub rest_staged : (is_on : Bool) → StagedLaws (open_rest is_on) (extend_rest is_on) rest_end_at_most arrival_of departure_of (idle_rest is_on) (wait_rest is_on) (board_rest is_on)
rest_staged is_on = record {
  opening = λ i. refl;
  extension = λ v last i. refl;
  wait_monotone = wait_monotone is_on;
  board_monotone = board_monotone is_on;
}

-- off, the stages leave every value as it is
pub rest_shifts : (is_on : Bool) → is_on ≡ false → ShiftLaws rest_end_cmp rest_end_at_most (wait_rest is_on) (board_rest is_on)
rest_shifts true e = absurd (false≢true (sym e))
rest_shifts false e = record {
  wait_strict = λ a b x g h. h;
  wait_reflects = λ a b x g h. h;
  wait_listed = λ a b x g. refl;
  board_reflects = λ a b y z i p q h.
      subst (λ v. rest_end_at_most v b ≡ true) (sym (taken true a y p).1)
      (subst (λ v. rest_end_at_most y v ≡ true) (sym (taken true b z q).1) h);
  board_listed = λ a b y z i p q.
      ap (λ v. rest_end_cmp v z) (sym (taken true a y p).1) ∙ ap (λ v. rest_end_cmp a v) (sym (taken true b z q).1);
}

pub rest_bounds : (is_on : Bool) → BoundLaws IsSound (λ _. Unit {0}) MayFollow arrival_of departure_of (idle_rest is_on) (wait_rest is_on) (board_rest is_on)
    (λ _. Unit {0}) (λ _ _ _. Unit {0}) (λ _. Unit {0}) (λ _ x g. MayFollow x g) (λ _ _. Unit {0})
    (λ _. Unit {0}) (λ _ _. Unit {0}) (λ _ _. Unit {0})
rest_bounds is_on = record {
  idle_ready = λ g b. tt;
  wait_ready = λ n v x g f a. tt;
  board_arrived = λ n v z i s r e. tt;
  fewer = λ n k h f. tt;
  starts = λ i s b f. tt;
  extends = λ n v last i s t f h a. tt;
  idles = λ g b f. tt;
  waits = λ n v x g f h a. f;
  boards = λ n v i s h r. tt;
}
