-- The value of a list is its vector, anchored at its last release.
use Rattle.std.proofs.Common.{◌≡◌, List, [], ◌∷◌, Option, Some, None, ℤ, pos, refl, sym, ◌∙◌, ap, arith}
use Rattle.std.specs.Option.{option_and_then, option_map}
use Rattle.std.proofs.lemmas.Int.{ints}
use Rattle.crew_pairing.specs.Events.{arrival_of, departure_of}
use Rattle.crew_pairing.specs.Pairings.{last_duty}
use Rattle.crew_pairing.specs.declared.duty.Duty.{Duty}
use Rattle.crew_resource.specs.Machinery.Sum.{LiesWithin}
use Rattle.crew_rules.specs.declared.settings.Settings.{Settings}
use Rattle.crew_vector.specs.Machinery.Along.{extended}
use Rattle.crew_vector.specs.Dominance.{is_at_most}
use Rattle.crew_vector.specs.Events.{idle_vector, wait_vector}
use Rattle.crew_vector.specs.Machinery.VectorResources.{vector_resource}
use Rattle.crew_vector.specs.Values.{value_of}
use Rattle.crew_vector.specs.Machinery.VectorLaws.{vector_staged}
use Rattle.crew_pairing.specs.declared.vector.PairingVector.{PairingVector}
use Rattle.crew_vector.proofs.Extended.{goes-on, none-goes-on}
use Rattle.crew_vector.proofs.Steps.{extends, opens, steps}
use Rattle.crew_anchor.specs.Anchors.{anchored}
use Rattle.crew_anchor.specs.Stages.{anchored_board, anchored_idle, anchored_resource}
use Rattle.crew_anchor.specs.Machinery.Values.{anchored_value, begun, boarded_all, near}
use Rattle.crew_anchor.proofs.Commuting.{board-is, idle-is, wait-is}

-- minutes of 32 bits stay
pub near-is : (minute : ℤ) → LiesWithin 2_147_483_647 minute → near minute ≡ minute
near-is minute h = let l = h.least in let m = h.most in grind (arith, ints)

-- a step is a boarding of the anchored vector
pub step-is : (s : Settings) (price : ℤ) (v : PairingVector) (last next : Duty) → anchored_board (anchored_resource s price) (anchored s.trip_rig last.release v) next ≡ option_map (anchored s.trip_rig next.release) (extends s v last next)
step-is s price v last next =
    ap (λ z. anchored_board (anchored_resource s price) z next) (sym (wait-is s v (arrival_of last) (departure_of next)))
    ∙ (sym (board-is s price (wait_vector s v (arrival_of last) (departure_of next)) next)
    ∙ ap (option_map (anchored s.trip_rig next.release)) (sym ((vector_staged (vector_resource s (pos 0))).extension v last next)))

pub start-is : (s : Settings) (price : ℤ) (d : Duty) → LiesWithin 2_147_483_647 d.report → anchored_board (anchored_resource s price) (begun (anchored_resource s price) d.report) d ≡ option_map (anchored s.trip_rig d.release) (opens s price d)
start-is s price d h =
    let r = anchored_resource s price in
    ap (λ z. anchored_board r (anchored_idle r z) d) (near-is d.report h)
    ∙ (ap (λ z. anchored_board r z d) (sym (idle-is s price (departure_of d)))
    ∙ (sym (board-is s price (idle_vector price (departure_of d)) d) ∙ ap (option_map (anchored s.trip_rig d.release)) (sym ((vector_staged (vector_resource s price)).opening d))))

then-on : (s : Settings) (price : ℤ) (next : Duty) (others : List Duty) (o : Option PairingVector)
    → ((z : PairingVector) → boarded_all (anchored_resource s price) (anchored s.trip_rig next.release z) others ≡ option_map (anchored s.trip_rig (last_duty next others).release) (extended (extends s) z next others))
    → option_and_then (λ z. boarded_all (anchored_resource s price) z others) (option_map (anchored s.trip_rig next.release) o)
    ≡ option_map (anchored s.trip_rig (last_duty next others).release) (option_and_then (λ z. extended (extends s) z next others) o)
then-on s price next others None more = refl
then-on s price next others (Some z) more = more z

along : (s : Settings) (price : ℤ) (v : PairingVector) (last : Duty) (others : List Duty)
    → boarded_all (anchored_resource s price) (anchored s.trip_rig last.release v) others ≡ option_map (anchored s.trip_rig (last_duty last others).release) (extended (extends s) v last others)
along s price v last [] = refl
along s price v last (next ∷ others) =
    ap (option_and_then (λ z. boarded_all (anchored_resource s price) z others)) (step-is s price v last next)
    ∙ then-on s price next others (extends s v last next) (λ z. along s price z next others)

from-first : (s : Settings) (price : ℤ) (first : Duty) (others : List Duty) (o : Option PairingVector) → opens s price first ≡ o
    → option_and_then (λ z. boarded_all (anchored_resource s price) z others) (option_map (anchored s.trip_rig first.release) o)
    ≡ option_map (anchored s.trip_rig (last_duty first others).release) (value_of s price (first ∷ others))
from-first s price first others None e =
    ap (option_map (anchored s.trip_rig (last_duty first others).release))
    (sym (none-goes-on PairingVector Duty (opens s price) (extends s) is_at_most (value_of s price) (steps s price) [] first others ((steps s price).opening first ∙ e)))
from-first s price first others (Some z) e =
    along s price z first others
    ∙ ap (option_map (anchored s.trip_rig (last_duty first others).release))
    (sym (goes-on PairingVector Duty (opens s price) (extends s) is_at_most (value_of s price) (steps s price) [] first z others ((steps s price).opening first ∙ e)))

pub value-is : (s : Settings) (price : ℤ) (first : Duty) (others : List Duty) → LiesWithin 2_147_483_647 first.report
    → anchored_value (anchored_resource s price) (first ∷ others) ≡ option_map (anchored s.trip_rig (last_duty first others).release) (value_of s price (first ∷ others))
value-is s price first others h =
    ap (option_and_then (λ z. boarded_all (anchored_resource s price) z others)) (start-is s price first h)
    ∙ from-first s price first others (opens s price first) refl
