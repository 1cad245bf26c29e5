-- Anchoring commutes with each stage.
use Rattle.std.proofs.Common.{◌≡◌, Bool, true, false, ◌&&◌, cond, Some, None, ℤ, pos, ◌+ℤ◌, ◌-ℤ◌, ◌*ℤ◌, neg_ℤ, int_le, refl, sym, ◌∙◌, ap, arith}
use Rattle.std.specs.Option.{option_map}
use Rattle.std.proofs.lemmas.Int.{ints}
use Rattle.crew_pairing.specs.declared.duty.Duty.{Duty}
use Rattle.crew_pairing.specs.declared.events.Arrival.{Arrival}
use Rattle.crew_pairing.specs.declared.events.Departure.{Departure}
use Rattle.crew_resource.specs.Machinery.Both.{both}
use Rattle.crew_resource.proofs.SignedProducts.{*ℤ-+ℤ}
use Rattle.crew_rules.specs.Settings.{fdp_most}
use Rattle.crew_rules.specs.declared.settings.Settings.{Settings}
use Rattle.crew_vector.specs.Machinery.Amounts.{guarantee_own, pay_own, rig_own}
use Rattle.crew_vector.specs.Events.{board_vector, idle_vector, wait_vector}
use Rattle.crew_vector.specs.Locals.{is_vector_within_caps}
use Rattle.crew_vector.specs.Machinery.Numbers.{Numbers, named}
use Rattle.crew_pairing.specs.declared.vector.PairingVector.{PairingVector}
use Rattle.crew_vector.proofs.Valued.{both-capped, both-free, named-cond, shuffle}
use Rattle.crew_anchor.specs.Anchors.{anchored}
use Rattle.crew_anchor.specs.Stages.{anchored_board, anchored_idle, anchored_resource, flown, is_within_caps_at}
use Rattle.crew_anchor.proofs.Shifting.{put-same, same-parts}

-- minutes of a stretch, at a rate
span : (r a b : ℤ) → r *ℤ (b -ℤ a) +ℤ r *ℤ a ≡ r *ℤ b
span r a b =
    let whole : (b -ℤ a) +ℤ a ≡ b = omega (arith, ints) in
    sym (*ℤ-+ℤ r (b -ℤ a) a) ∙ ap (λ z. r *ℤ z) whole

from_nothing : (minute : ℤ) → pos 0 -ℤ minute ≡ neg_ℤ minute
from_nothing minute = omega (arith, ints)

pub idle-is : (s : Settings) (price : ℤ) (g : Departure) → anchored s.trip_rig g.report (idle_vector price g) ≡ anchored_idle (anchored_resource s price) g.report
idle-is s price g = put-same (anchored_idle (anchored_resource s price) g.report) _ _ _ _ refl (from_nothing g.report)

nothing_more : (a : ℤ) → a +ℤ pos 0 ≡ a
nothing_more a = omega (arith, ints)

rested : (v r x g : ℤ) → (v +ℤ r *ℤ (g -ℤ x)) -ℤ r *ℤ g ≡ v -ℤ r *ℤ x
rested v r x g = let k = span r x g in omega (arith, ints, k)

rested_away : (v x g : ℤ) → (v +ℤ (g -ℤ x)) -ℤ g ≡ v -ℤ x
rested_away v x g = omega (arith, ints)

pub wait-is : (s : Settings) (v : PairingVector) (x : Arrival) (g : Departure) → anchored s.trip_rig g.report (wait_vector s v x g) ≡ anchored s.trip_rig x.release v
wait-is s v x g =
    same-parts _ _ _ _ _ _ _ _ _ _ _ _ _ _
    (nothing_more v.duty_pay)
    (rested v.trip_rig (pos s.trip_rig) x.release g.report)
    (nothing_more v.guarantee)
    (nothing_more v.fdp)
    (nothing_more v.fly)
    (nothing_more v.duties)
    (rested_away v.away x.release g.report)

-- boarding in one piece
abbrev raised : Settings → PairingVector → Duty → Numbers
raised s v d = (
  (v.duty_pay +ℤ pay_own d, (v.trip_rig +ℤ rig_own s.trip_rig d, v.guarantee +ℤ guarantee_own s.guarantee d)),
  ((v.fdp +ℤ d.fdp, v.fly +ℤ d.fly), (v.duties +ℤ pos 1, v.away +ℤ (d.release -ℤ d.report))),
)

four-capped : (p q r k : Bool) (m : ℤ × (ℤ × ℤ)) (f y n w : ℤ)
    → both (Some m) (both (both (cond p (Some f) None) (cond q (Some y) None)) (both (cond r (Some n) None) (cond k (Some w) None))) ≡ cond (p && (q && (r && k))) (Some (m, ((f, y), (n, w)))) None
four-capped p q r k m f y n w =
    ap (λ z. both (Some m) (both z (both (cond r (Some n) None) (cond k (Some w) None)))) (both-capped p q f y)
    ∙ (ap (λ z. both (Some m) (both (cond (p && q) (Some (f, y)) None) z)) (both-capped r k n w)
    ∙ (ap (both (Some m)) (both-capped (p && q) (r && k) (f, y) (n, w))
    ∙ (both-free ((p && q) && (r && k)) m ((f, y), (n, w))
    ∙ ap (λ b. cond b (Some (m, ((f, y), (n, w)))) None) (shuffle p q r k))))

board-one : (s : Settings) (v : PairingVector) (d : Duty) → board_vector s v d ≡ cond (is_vector_within_caps s (named (raised s v d))) (Some (named (raised s v d))) None
board-one s v d =
    let n = raised s v d in
    ap (option_map named)
    (four-capped (int_le n.1.0.0 (pos (fdp_most s))) (int_le n.1.0.1 (pos s.fly_cap)) (int_le n.1.1.0 (pos s.max_duties)) (int_le n.1.1.1 (pos s.away_cap)) n.0 n.1.0.0 n.1.0.1 n.1.1.0 n.1.1.1)
    ∙ named-cond (is_vector_within_caps s (named n)) n

flown_rig : (v r p t q : ℤ) → (v +ℤ (r *ℤ (t -ℤ p) -ℤ q)) -ℤ r *ℤ t ≡ (v -ℤ r *ℤ p) -ℤ q
flown_rig v r p t q = let k = span r p t in omega (arith, ints, k)

pub flown-is : (s : Settings) (price : ℤ) (v : PairingVector) (d : Duty) → anchored s.trip_rig d.release (named (raised s v d)) ≡ flown (anchored_resource s price) (anchored s.trip_rig d.report v) d
flown-is s price v d =
    put-same (flown (anchored_resource s price) (anchored s.trip_rig d.report v) d) _ _ _ _
    (flown_rig v.trip_rig (pos s.trip_rig) d.report d.release d.price)
    (rested_away v.away d.report d.release)

at_release : (v p t : ℤ) → v +ℤ (t -ℤ p) ≡ (v -ℤ p) +ℤ t
at_release v p t = omega (arith, ints)

caps-are : (s : Settings) (price : ℤ) (v : PairingVector) (d : Duty) → is_vector_within_caps s (named (raised s v d)) ≡ is_within_caps_at (anchored_resource s price) d.release (flown (anchored_resource s price) (anchored s.trip_rig d.report v) d)
caps-are s price v d =
    ap (λ z. int_le (v.fdp +ℤ d.fdp) (pos (fdp_most s)) && (int_le (v.fly +ℤ d.fly) (pos s.fly_cap) && (int_le (v.duties +ℤ pos 1) (pos s.max_duties) && int_le z (pos s.away_cap))))
    (at_release v.away d.report d.release)

mapped-cond : {A B : Type 0} (f : A → B) (q : Bool) (x : A) → option_map f (cond q (Some x) None) ≡ cond q (Some (f x)) None
mapped-cond f true x = refl
mapped-cond f false x = refl

pub board-is : (s : Settings) (price : ℤ) (v : PairingVector) (d : Duty) → option_map (anchored s.trip_rig d.release) (board_vector s v d) ≡ anchored_board (anchored_resource s price) (anchored s.trip_rig d.report v) d
board-is s price v d =
    ap (option_map (anchored s.trip_rig d.release)) (board-one s v d)
    ∙ (mapped-cond (anchored s.trip_rig d.release) (is_vector_within_caps s (named (raised s v d))) (named (raised s v d))
    ∙ (ap (λ b. cond b (Some (anchored s.trip_rig d.release (named (raised s v d)))) None) (caps-are s price v d)
    ∙ ap (λ z. cond (is_within_caps_at (anchored_resource s price) d.release (flown (anchored_resource s price) (anchored s.trip_rig d.report v) d)) (Some z) None) (flown-is s price v d)))
