-- Where one duty stands for another, the other's boardings can be left out of the arrivals.
use Rattle.std.proofs.Common.{◌≡◌, ℕ, true, ◌&&◌, cond, List, [], ◌∷◌, ◌++◌, Some, None, ℤ, pos, ◌+ℤ◌, ◌-ℤ◌, ◌*ℤ◌, int_le, refl, sym, ◌∙◌, ap, subst, arith}
use Rattle.std.specs.Prelude.{◌≤ℤ◌, ◌<ℤ◌}
use Rattle.std.specs.Option.{option_map}
use Rattle.std.specs.Ordering.{is_le, ordering_then}
use Rattle.std.specs.declared.cmp.Ordering.{Ordering}
use Rattle.std.specs.declared.cmp.Ordering.TheVariants.{Less, Equal, Greater}
use Rattle.std.proofs.lemmas.Bool.{and_parts}
use Rattle.std.proofs.lemmas.Cmp.{tied_itself}
use Rattle.std.proofs.lemmas.Int.{ints}
use Rattle.std.proofs.lemmas.Option.{cond_some}
use Rattle.crew_pairing.specs.Events.{departure_of}
use Rattle.crew_pairing.specs.Keys.{key_cmp, key_total, walk_cmp, walk_at_most}
use Rattle.crew_pairing.specs.declared.duty.Duty.{Duty}
use Rattle.crew_pairing.specs.declared.events.Arrival.{Arrival}
use Rattle.crew_pairing.specs.declared.events.Departure.{Departure}
use Rattle.crew_pairing.specs.Legs.{Leg}
use Rattle.crew_resource.specs.Events.{view}
use Rattle.crew_resource.specs.Labels.{IsCovering, IsLocal}
use Rattle.crew_resource.specs.Members.{Member}
use Rattle.crew_resource.proofs.Covering.{local_of_all}
use Rattle.crew_resource.proofs.ListOrder.{at_most_order}
use Rattle.crew_resource.proofs.Pools.{view_in, view_out}
use Rattle.crew_rules.specs.Settings.{fdp_most}
use Rattle.crew_rules.specs.declared.settings.Settings.{Settings}
use Rattle.crew_vector.specs.Machinery.Amounts.{guarantee_own, pay_own, rig_own}
use Rattle.crew_vector.specs.Dominance.{is_at_most}
use Rattle.crew_vector.specs.Events.{ArrivedBefore, ArrivedToSpare, board_vector, network_of}
use Rattle.crew_vector.specs.Locals.{is_vector_within_caps}
use Rattle.crew_vector.specs.Machinery.Numbers.{named, numbers_of}
use Rattle.crew_vector.specs.Machinery.Pruned.{AreEnough, LieOver, StandsFor}
use Rattle.crew_pairing.specs.declared.vector.PairingVector.{PairingVector}
use Rattle.crew_vector.proofs.Growth.{four-capped}
use Rattle.crew_vector.proofs.Orders.{key-exact, walk-order}
use Rattle.crew_vector.proofs.Steps.{vector-order}
use Rattle.crew_vector.proofs.Valued.{named-cond}

test-le : (a b : ℤ) → int_le a b ≡ true → a ≤ℤ b
test-le a b h = grind (arith, ints)

-- a vector after a duty, whatever the caps
abbrev aboard : Settings → PairingVector → Duty → PairingVector
aboard s v d = record {
  duty_pay = v.duty_pay +ℤ pay_own d;
  trip_rig = v.trip_rig +ℤ rig_own s.trip_rig d;
  guarantee = v.guarantee +ℤ guarantee_own s.guarantee d;
  fdp = v.fdp +ℤ d.fdp;
  fly = v.fly +ℤ d.fly;
  duties = v.duties +ℤ pos 1;
  away = v.away +ℤ (d.release -ℤ d.report);
}

board-is : (s : Settings) (v : PairingVector) (d : Duty) → board_vector s v d ≡ cond (is_vector_within_caps s (aboard s v d)) (Some (aboard s v d)) None
board-is s v d =
    let z = aboard s v d in
    let n = numbers_of z in
    ap (option_map named) (four-capped (int_le z.fdp (pos (fdp_most s))) (int_le z.fly (pos s.fly_cap)) (int_le z.duties (pos s.max_duties)) (int_le z.away (pos s.away_cap)) n.0 z.fdp z.fly z.duties z.away)
    ∙ named-cond (is_vector_within_caps s z) n

seven : (a b c f y n w a' b' c' f' y' n' w' : ℤ) → a ≤ℤ a' → b ≤ℤ b' → c ≤ℤ c' → f ≤ℤ f' → y ≤ℤ y' → n ≤ℤ n' → w ≤ℤ w'
    → ((int_le a a' && (int_le b b' && int_le c c')) && ((int_le f f' && int_le y y') && (int_le n n' && int_le w w'))) ≡ true
seven a b c f y n w a' b' c' f' y' n' w' p q r i j k l = grind (arith, ints)

four : (f y n w f' y' n' w' F Y N W : ℤ) → f ≤ℤ f' → y ≤ℤ y' → n ≤ℤ n' → w ≤ℤ w' → (int_le f' F && (int_le y' Y && (int_le n' N && int_le w' W))) ≡ true → (int_le f F && (int_le y Y && (int_le n N && int_le w W))) ≡ true
four f y n w f' y' n' w' F Y N W i j k l h = grind (arith, ints)

same-ends : (e d : Duty) → StandsFor e d → (e.release -ℤ e.report) ≡ (d.release -ℤ d.report)
same-ends e d h = ap (λ z. z -ℤ e.report) (ap (λ (x : Arrival). x.release) h.arrives) ∙ ap (λ z. d.release -ℤ z) (ap (λ (g : Departure). g.report) h.leaves)

-- the duty that stands for another boards where it does, to a lesser vector
lesser-aboard : (s : Settings) (v : PairingVector) (e d : Duty) → StandsFor e d → is_at_most (aboard s v e) (aboard s v d) ≡ true
lesser-aboard s v e d h =
    let pay = h.pay in
    let price = h.price in
    let fdp = h.fdp in
    let fly = h.fly in
    let away = same-ends e d h in
    let rig : pos s.trip_rig *ℤ (e.release -ℤ e.report) ≡ pos s.trip_rig *ℤ (d.release -ℤ d.report) = ap (λ z. pos s.trip_rig *ℤ z) away in
    let a = aboard s v e in
    let b = aboard s v d in
    seven a.duty_pay a.trip_rig a.guarantee a.fdp a.fly a.duties a.away b.duty_pay b.trip_rig b.guarantee b.fdp b.fly b.duties b.away
    (omega (arith, ints, pay)) (omega (arith, ints, rig, price)) (omega (arith, ints, price)) (omega (arith, ints, fdp)) (omega (arith, ints, fly)) (omega (arith, ints)) (omega (arith, ints, away))

lesser-within : (s : Settings) (u v : PairingVector) → is_at_most u v ≡ true → is_vector_within_caps s v ≡ true → is_vector_within_caps s u ≡ true
lesser-within s u v h within =
    let time = and_parts _ _ (and_parts _ _ h).1 in
    let minutes = and_parts _ _ time.0 in
    let span = and_parts _ _ time.1 in
    four u.fdp u.fly u.duties u.away v.fdp v.fly v.duties v.away (pos (fdp_most s)) (pos s.fly_cap) (pos s.max_duties) (pos s.away_cap)
    (test-le u.fdp v.fdp minutes.0) (test-le u.fly v.fly minutes.1) (test-le u.duties v.duties span.0) (test-le u.away v.away span.1) within

-- where both leave one vector, they add the same, and the key decides
same-aboard : (s : Settings) (v : PairingVector) (e d : Duty) → StandsFor e d → aboard s v e ≡ aboard s v d → is_le (key_cmp e.key d.key) ≡ true
same-aboard s v e d h q =
    let pay : (v.duty_pay +ℤ (e.pay -ℤ e.price)) ≡ (v.duty_pay +ℤ (d.pay -ℤ d.price)) = ap (λ (z : PairingVector). z.duty_pay) q in
    let points : (v.guarantee +ℤ (pos s.guarantee -ℤ e.price)) ≡ (v.guarantee +ℤ (pos s.guarantee -ℤ d.price)) = ap (λ (z : PairingVector). z.guarantee) q in
    let fdp : (v.fdp +ℤ e.fdp) ≡ (v.fdp +ℤ d.fdp) = ap (λ (z : PairingVector). z.fdp) q in
    let fly : (v.fly +ℤ e.fly) ≡ (v.fly +ℤ d.fly) = ap (λ (z : PairingVector). z.fly) q in
    h.key (omega (arith, ints, pay, points)) (omega (arith, ints, points)) (omega (arith, ints, fdp)) (omega (arith, ints, fly))

then-equal : (o : Ordering) → ordering_then o Equal ≡ o
then-equal Less = refl
then-equal Equal = refl
then-equal Greater = refl

-- one walk with either of two keys after it
one-more : (w : List (List Leg)) (a b : List Leg) → is_le (key_cmp a b) ≡ true → walk_at_most (w ++ a ∷ []) (w ++ b ∷ []) ≡ true
one-more [] a b h = ap is_le (then-equal (key_cmp a b)) ∙ h
one-more (k ∷ w) a b h = ap (λ o. is_le (ordering_then o (walk_cmp (w ++ a ∷ []) (w ++ b ∷ [])))) (tied_itself key_total k) ∙ one-more w a b h

less-than : (a b c : ℤ) → a ≤ℤ b → b <ℤ c → a <ℤ c
less-than a b c h k = omega (arith, ints)

still-room : (s : Settings) (u v : PairingVector) → is_at_most u v ≡ true → v.duties <ℤ pos s.max_duties → u.duties <ℤ pos s.max_duties
still-room s u v h room =
    let span = and_parts _ _ (and_parts _ _ (and_parts _ _ h).1).1 in
    less-than u.duties v.duties (pos s.max_duties) (test-le u.duties v.duties span.0) room

module _ (s : Settings) (base : List ℕ) (price : ℤ) (duties : List Duty) where
  pub lies-over : (e d : Duty) (pool : List (PairingVector × List (List Leg))) → StandsFor e d → LieOver (view (network_of s base price duties) d pool) (view (network_of s base price duties) e pool)
  lies-over e d pool h z w m =
      let k = view_out Duty PairingVector (List (List Leg)) Departure Arrival (network_of s base price duties) d pool z w m in
      let v = k.0 in
      let c = cond_some (is_vector_within_caps s (aboard s v d)) (aboard s v d) z (sym (board-is s v d) ∙ k.3) in
      let below = lesser-aboard s v e d h in
      let within = lesser-within s (aboard s v e) (aboard s v d) below c.0 in
      let boards : board_vector s v e ≡ Some (aboard s v e) = board-is s v e ∙ ap (λ b. cond b (Some (aboard s v e)) None) within in (
        aboard s v e,
        k.1 ++ e.key ∷ [],
        view_in Duty PairingVector (List (List Leg)) Departure Arrival (network_of s base price duties) e pool v k.1 (aboard s v e) k.2 boards,
        subst (λ x. is_at_most (aboard s v e) x ≡ true) c.1 below,
        λ q. subst (λ x. walk_at_most (k.1 ++ e.key ∷ []) x ≡ true) (sym k.4) (one-more k.1 e.key d.key (same-aboard s v e d h (q ∙ sym c.1))),
      )

  -- least duties are enough
  pub least-enough : (kept : List Duty) (pools : Departure → List (PairingVector × List (List Leg))) (minute : ℤ) (x : Arrival) → ((d : Duty) → Member kept d → Member duties d)
      → ((d : Duty) → Member duties d → (e : Duty) × Member kept e × StandsFor e d) → AreEnough duties kept (λ d. view (network_of s base price duties) d (pools (departure_of d))) minute x
  least-enough kept pools minute x among stands = record {
    among = among;
    under = λ d m early at.
        let k = stands d m in
        let over = lies-over k.0 d (pools (departure_of d)) k.2 in (
          k.0,
          k.1,
          subst (λ z. z <ℤ minute) (sym (ap (λ (g : Departure). g.report) k.2.leaves)) early,
          k.2.arrives ∙ at,
          subst (λ g. LieOver (view (network_of s base price duties) d (pools (departure_of d))) (view (network_of s base price duties) k.0 (pools g))) (sym k.2.leaves) over,
        );
  }

  module _ (kept : List Duty) (fronts : Duty → List (PairingVector × List (List Leg))) (minute : ℤ) (x : Arrival) (entries : List (PairingVector × List (List Leg))) (enough : AreEnough duties kept fronts minute x) where
    under : IsCovering is_at_most walk_at_most (ArrivedBefore (network_of s base price kept) fronts minute x) (ArrivedBefore (network_of s base price duties) fronts minute x)
    under = record {
      part = λ v w a. (a.0, enough.among a.0 a.1, a.2, a.3, a.4);
      under = λ v w a.
          let k = enough.under a.0 a.1 a.2 a.3 in
          let o = k.4 v w a.4 in
          (o.0, o.1, (k.0, k.1, k.2, k.3, o.2), o.3, o.4);
    }

    pub kept-arrivals : IsLocal is_at_most walk_at_most (ArrivedBefore (network_of s base price kept) fronts minute x) entries → IsLocal is_at_most walk_at_most (ArrivedBefore (network_of s base price duties) fronts minute x) entries
    kept-arrivals = local_of_all PairingVector (List (List Leg)) is_at_most walk_at_most vector-order walk-order (ArrivedBefore (network_of s base price kept) fronts minute x) (ArrivedBefore (network_of s base price duties) fronts minute x) under entries

    pub kept-spare : IsLocal is_at_most walk_at_most (ArrivedToSpare s (network_of s base price kept) fronts minute x) entries → IsLocal is_at_most walk_at_most (ArrivedToSpare s (network_of s base price duties) fronts minute x) entries
    kept-spare = local_of_all PairingVector (List (List Leg)) is_at_most walk_at_most vector-order walk-order (ArrivedToSpare s (network_of s base price kept) fronts minute x) (ArrivedToSpare s (network_of s base price duties) fronts minute x)
        (record {
          part = λ v w a. (under.part v w a.0, a.1);
          under = λ v w a. let k = under.under v w a.0 in (k.0, k.1, (k.2, still-room s k.0 v k.3 a.1), k.3, k.4);
        })
        entries

-- standing for goes on
pub stands-through : (c e d : Duty) → StandsFor c e → StandsFor e d → StandsFor c d
stands-through c e d h k =
    let pay = h.pay in
    let pay_more = k.pay in
    let price = h.price in
    let price_more = k.price in
    let fdp = h.fdp in
    let fdp_more = k.fdp in
    let fly = h.fly in
    let fly_more = k.fly in
    record {
      leaves = h.leaves ∙ k.leaves;
      arrives = h.arrives ∙ k.arrives;
      pay = omega (arith, ints, pay, pay_more);
      price = omega (arith, ints, price, price_more);
      fdp = omega (arith, ints, fdp, fdp_more);
      fly = omega (arith, ints, fly, fly_more);
      key = λ p q r z.
          (at_most_order key_cmp key_total key-exact).transitive c.key e.key d.key
          (h.key (omega (arith, ints, pay, pay_more, price, price_more, p, q)) (omega (arith, ints, price, price_more, q)) (omega (arith, ints, fdp, fdp_more, r)) (omega (arith, ints, fly, fly_more, z)))
          (k.key (omega (arith, ints, pay, pay_more, price, price_more, p, q)) (omega (arith, ints, price, price_more, q)) (omega (arith, ints, fdp, fdp_more, r)) (omega (arith, ints, fly, fly_more, z)));
    }
