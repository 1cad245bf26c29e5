-- The resource's step is a vector with one more duty, within the caps.
use Rattle.std.proofs.Common.{◌≡◌, Bool, true, ◌&&◌, cond, [], ◌∷◌, Some, None, ℤ, pos, ◌+ℤ◌, ◌-ℤ◌, int_le, refl, sym, ◌∙◌, ap, arith}
use Rattle.std.specs.Option.{option_map}
use Rattle.std.proofs.lemmas.Int.{ints}
use Rattle.std.proofs.lemmas.Option.{cond_some}
use Rattle.crew_pairing.specs.Events.{arrival_of, departure_of}
use Rattle.crew_pairing.specs.Pairings.{is_within_caps}
use Rattle.crew_pairing.specs.declared.duty.Duty.{Duty}
use Rattle.crew_resource.specs.Machinery.Both.{both}
use Rattle.crew_rules.specs.Settings.{fdp_most}
use Rattle.crew_rules.specs.declared.settings.Settings.{Settings}
use Rattle.crew_vector.specs.Machinery.Amounts.{away_own, away_wait, guarantee_own, pay_own, rig_own, rig_wait}
use Rattle.crew_pairing.specs.Vectors.{vector_of}
use Rattle.crew_vector.specs.Locals.{grown, is_vector_within_caps}
use Rattle.crew_vector.specs.Machinery.Numbers.{Numbers, named}
use Rattle.crew_pairing.specs.declared.vector.PairingVector.{PairingVector}
use Rattle.crew_vector.proofs.Steps.{extends, opens, steps}
use Rattle.crew_vector.proofs.Valued.{both-capped, both-free, named-cond, shuffle, stretch}

same-parts : (a b c f y n w a' b' c' f' y' n' w' : ℤ) → a ≡ a' → b ≡ b' → c ≡ c' → f ≡ f' → y ≡ y' → n ≡ n' → w ≡ w' → named ((a, (b, c)), ((f, y), (n, w))) ≡ named ((a', (b', c')), ((f', y'), (n', w')))
same-parts a b c f y n w a' b' c' f' y' n' w' p q r i j k l =
    ap (λ z. named ((z, (b, c)), ((f, y), (n, w)))) p
    ∙ (ap (λ z. named ((a', (z, c)), ((f, y), (n, w)))) q
    ∙ (ap (λ z. named ((a', (b', z)), ((f, y), (n, w)))) r
    ∙ (ap (λ z. named ((a', (b', c')), ((z, y), (n, w)))) i
    ∙ (ap (λ z. named ((a', (b', c')), ((f', z), (n, w)))) j
    ∙ (ap (λ z. named ((a', (b', c')), ((f', y'), (z, w)))) k
    ∙ ap (λ z. named ((a', (b', c')), ((f', y'), (n', z)))) l)))))

plain : (a b : ℤ) → a +ℤ (pos 0 +ℤ b) ≡ a +ℤ b
plain a b = omega (arith, ints)

joined-away : (a x y z : ℤ) → a +ℤ ((y -ℤ x) +ℤ (z -ℤ y)) ≡ a +ℤ (z -ℤ x)
joined-away a x y z = omega (arith, ints)

abbrev raised : Settings → Duty → Duty → PairingVector → Numbers
raised s e d u = (
  (u.duty_pay +ℤ (pos 0 +ℤ pay_own d), (u.trip_rig +ℤ (rig_wait s.trip_rig (arrival_of e) (departure_of d) +ℤ rig_own s.trip_rig d), u.guarantee +ℤ (pos 0 +ℤ guarantee_own s.guarantee d))),
  ((u.fdp +ℤ (pos 0 +ℤ d.fdp), u.fly +ℤ (pos 0 +ℤ d.fly)), (u.duties +ℤ pos 1, u.away +ℤ (away_wait (arrival_of e) (departure_of d) +ℤ away_own d))),
)

raised-grown : (s : Settings) (e d : Duty) (u : PairingVector) → named (raised s e d u) ≡ grown s e d u
raised-grown s e d u =
    same-parts _ _ _ _ _ _ _ _ _ _ _ _ _ _
    (plain u.duty_pay (d.pay -ℤ d.price))
    (ap (λ z. u.trip_rig +ℤ z) (stretch (pos s.trip_rig) e.release d.report d.release d.price))
    (plain u.guarantee (pos s.guarantee -ℤ d.price))
    (plain u.fdp d.fdp)
    (plain u.fly d.fly)
    refl
    (joined-away u.away e.release d.report d.release)

pub four-capped : (p q r k : Bool) (m : ℤ × (ℤ × ℤ)) (f y n w : ℤ)
    → both (Some m) (both (both (cond p (Some f) None) (cond q (Some y) None)) (both (cond r (Some n) None) (cond k (Some w) None))) ≡ cond (p && (q && (r && k))) (Some (m, ((f, y), (n, w)))) None
four-capped p q r k m f y n w =
    ap (λ z. both (Some m) (both z (both (cond r (Some n) None) (cond k (Some w) None)))) (both-capped p q f y)
    ∙ (ap (λ z. both (Some m) (both (cond (p && q) (Some (f, y)) None) z)) (both-capped r k n w)
    ∙ (ap (both (Some m)) (both-capped (p && q) (r && k) (f, y) (n, w))
    ∙ (both-free ((p && q) && (r && k)) m ((f, y), (n, w))
    ∙ ap (λ b. cond b (Some (m, ((f, y), (n, w)))) None) (shuffle p q r k))))

pub step-is : (s : Settings) (e d : Duty) (u : PairingVector) → extends s u e d ≡ cond (is_vector_within_caps s (grown s e d u)) (Some (grown s e d u)) None
step-is s e d u =
    let v = raised s e d u in
    ap (option_map named)
    (four-capped (int_le v.1.0.0 (pos (fdp_most s))) (int_le v.1.0.1 (pos s.fly_cap)) (int_le v.1.1.0 (pos s.max_duties)) (int_le v.1.1.1 (pos s.away_cap)) v.0 v.1.0.0 v.1.0.1 v.1.1.0 v.1.1.1)
    ∙ (named-cond (is_vector_within_caps s (named v)) v ∙ ap (λ z. cond (is_vector_within_caps s z) (Some z) None) (raised-grown s e d u))

pub step-in : (s : Settings) (e d : Duty) (u v : PairingVector) → is_vector_within_caps s (grown s e d u) ≡ true → v ≡ grown s e d u → extends s u e d ≡ Some v
step-in s e d u v within is = step-is s e d u ∙ (ap (λ b. cond b (Some (grown s e d u)) None) within ∙ ap Some (sym is))

pub step-out : (s : Settings) (e d : Duty) (u v : PairingVector) → extends s u e d ≡ Some v → (is_vector_within_caps s (grown s e d u) ≡ true) × (v ≡ grown s e d u)
step-out s e d u v x =
    let k = cond_some (is_vector_within_caps s (grown s e d u)) (grown s e d u) v (sym (step-is s e d u) ∙ x) in
    (k.0, sym k.1)

and-true : (b : Bool) → (b && true) ≡ b
and-true b = grind arith

pub start-is : (s : Settings) (price : ℤ) (d : Duty) → opens s price d ≡ cond (is_within_caps s (d ∷ [])) (Some (vector_of s price (d ∷ []))) None
start-is s price d =
    sym ((steps s price).opening d) ∙ ap (λ b. cond b (Some (vector_of s price (d ∷ []))) None) (and-true (is_within_caps s (d ∷ [])))

pub start-in : (s : Settings) (price : ℤ) (d : Duty) (v : PairingVector) → is_within_caps s (d ∷ []) ≡ true → v ≡ vector_of s price (d ∷ []) → opens s price d ≡ Some v
start-in s price d v within is = start-is s price d ∙ (ap (λ b. cond b (Some (vector_of s price (d ∷ []))) None) within ∙ ap Some (sym is))

pub start-out : (s : Settings) (price : ℤ) (d : Duty) (v : PairingVector) → opens s price d ≡ Some v → (is_within_caps s (d ∷ []) ≡ true) × (v ≡ vector_of s price (d ∷ []))
start-out s price d v x =
    let k = cond_some (is_within_caps s (d ∷ [])) (vector_of s price (d ∷ [])) v (sym (start-is s price d) ∙ x) in
    (k.0, sym k.1)
