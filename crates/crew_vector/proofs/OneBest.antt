-- There is one best pairing: a walk tells its duties.
use Rattle.std.proofs.Common.{◌≡◌, ℕ, List, [], ◌∷◌, inl, inr, Option, Some, None, refl, sym, ◌∙◌, ap, subst, arith}
use Rattle.std.specs.declared.cmp.Ordering.TheVariants.{Less, Equal}
use Rattle.std.proofs.lemmas.Cmp.{tied_itself}
use Rattle.std.proofs.lemmas.Int.{ints}
use Rattle.crew_pairing.proofs.InOrder.{all-duties}
use Rattle.crew_pairing.proofs.Timetables.{flights-of-timetable}
use Rattle.crew_pairing.specs.Duties.{RiseByKey, flights_of}
use Rattle.crew_pairing.specs.Keys.{key_cmp, key_total}
use Rattle.crew_pairing.specs.Machinery.Listing.{all_duties}
use Rattle.crew_resource.specs.Members.{Each, Member}
use Rattle.crew_pairing.specs.Pairings.{IsDuty, minutes_away}
use Rattle.crew_pairing.specs.declared.duty.Duty.{Duty}
use Rattle.crew_flights.specs.Timetable.{IsSound, Timetable}
use Rattle.crew_rules.specs.declared.settings.Settings.{Settings}
use Rattle.crew_vector.specs.Bests.{IsBest, IsPairing, NoDearer}
use Rattle.crew_vector.specs.declared.priced.PricedPairing.{PricedPairing}
use Rattle.crew_vector.specs.Fronts.{walk_of}
use Rattle.crew_pairing.specs.Vectors.{pay_of}
use Rattle.crew_vector.proofs.Orders.{walk-order}

each-member : (P : Duty → Type 0) (xs : List Duty) (x : Duty) → Each P xs → Member xs x → P x
each-member P [] x h m = absurd m
each-member P (y ∷ ys) x h (inl e) = subst P e h.0
each-member P (y ∷ ys) x h (inr m) = each-member P ys x h.1 m

apart : (d e : Duty) → key_cmp d.key e.key ≡ Less → d.key ≡ e.key → ⊥
apart d e h k = let q : Less ≡ Equal = sym h ∙ (ap (key_cmp d.key) (sym k) ∙ tied_itself key_total d.key) in (cc)

-- in a list that rises by key, a key tells the duty
key-tells : (ds : List Duty) (d e : Duty) → RiseByKey ds → Member ds d → Member ds e → d.key ≡ e.key → d ≡ e
key-tells [] d e h m n k = absurd m
key-tells (x ∷ ds) d e h (inl p) (inl q) k = sym p ∙ q
key-tells (x ∷ ds) d e h (inl p) (inr n) k = absurd (apart x e (each-member (λ y. key_cmp x.key y.key ≡ Less) ds e h.0 n) (ap (λ (y : Duty). y.key) p ∙ k))
key-tells (x ∷ ds) d e h (inr m) (inl q) k = absurd (apart x d (each-member (λ y. key_cmp x.key y.key ≡ Less) ds d h.0 m) (ap (λ (y : Duty). y.key) q ∙ sym k))
key-tells (x ∷ ds) d e h (inr m) (inr n) k = key-tells ds d e h.1 m n k

module _ (s : Settings) (t : Timetable) (sound : IsSound t) where
  legal-tells : (d e : Duty) → IsDuty s (flights_of t) d → IsDuty s (flights_of t) e → d.key ≡ e.key → d ≡ e
  legal-tells d e l m k =
      let all = all-duties s (flights_of t) (flights-of-timetable t sound) in
      let ds = all_duties s (flights_of t) in
      key-tells ds d e all.rising (subst (Member ds) (sym l.3) (all.every l.0 l.1 l.2)) (subst (Member ds) (sym m.3) (all.every m.0 m.1 m.2)) k

  walk-tells : (xs ys : List Duty) → Each (IsDuty s (flights_of t)) xs → Each (IsDuty s (flights_of t)) ys → walk_of xs ≡ walk_of ys → xs ≡ ys
  walk-tells [] [] h k e = refl
  walk-tells [] (y ∷ ys) h k e = absurd (let q : ⊥ = (cc) in q)
  walk-tells (x ∷ xs) [] h k e = absurd (let q : ⊥ = (cc) in q)
  walk-tells (x ∷ xs) (y ∷ ys) h k e =
      let head : x.key ≡ y.key = (cc) in
      let tail : walk_of xs ≡ walk_of ys = (cc) in
      ap (λ z. z ∷ xs) (legal-tells x y h.0 k.0 head) ∙ ap (λ z. y ∷ z) (walk-tells xs ys h.1 k.1 tail)

  same-told : (p q : PricedPairing) → p.base ≡ q.base → p.walk ≡ q.walk → p.cost ≡ q.cost → p.pay ≡ q.pay → p.away ≡ q.away → p ≡ q
  same-told p q a b c d e =
      ap (λ z. let r : PricedPairing = record { base = z; walk = p.walk; cost = p.cost; pay = p.pay; away = p.away } in r) a
      ∙ (ap (λ z. let r : PricedPairing = record { base = q.base; walk = z; cost = p.cost; pay = p.pay; away = p.away } in r) b
      ∙ (ap (λ z. let r : PricedPairing = record { base = q.base; walk = q.walk; cost = z; pay = p.pay; away = p.away } in r) c
      ∙ (ap (λ z. let r : PricedPairing = record { base = q.base; walk = q.walk; cost = q.cost; pay = z; away = p.away } in r) d
      ∙ ap (λ z. let r : PricedPairing = record { base = q.base; walk = q.walk; cost = q.cost; pay = q.pay; away = z } in r) e)))

  first-of : List Duty → List ℕ
  first-of [] = []
  first-of (d ∷ ds) = d.from

  -- a pairing is told by its walk
  pub same-pairing : (p q : PricedPairing) → IsPairing s t p → IsPairing s t q → p.walk ≡ q.walk → p.cost ≡ q.cost → p ≡ q
  unfolding first-of
  same-pairing p q a b walk cost =
      let duties : a.first ∷ a.others ≡ b.first ∷ b.others = walk-tells (a.first ∷ a.others) (b.first ∷ b.others) a.partial.legal b.partial.legal (sym a.walk ∙ (walk ∙ b.walk)) in
      let base : p.base ≡ q.base = sym a.partial.leaves ∙ (ap first-of duties ∙ b.partial.leaves) in
      same-told p q base walk cost (a.pay ∙ (ap (pay_of s) duties ∙ sym b.pay)) (a.away ∙ (ap minutes_away duties ∙ sym b.away))

  both-least : (a b : PricedPairing) → NoDearer a.cost a.walk b.cost b.walk → NoDearer b.cost b.walk a.cost a.walk → (a.cost ≡ b.cost) × (a.walk ≡ b.walk)
  both-least a b (inl h) (inl k) = absurd (omega (arith, ints, h, k))
  both-least a b (inl h) (inr k) = absurd (let e = k.0 in omega (arith, ints, h, e))
  both-least a b (inr h) (inl k) = absurd (let e = h.0 in omega (arith, ints, k, e))
  both-least a b (inr h) (inr k) = (h.0, walk-order.antisymmetric a.walk b.walk h.1 k.1)

  pub one-best : (a b : Option PricedPairing) → IsBest s t a → IsBest s t b → a ≡ b
  one-best None None h k = refl
  one-best None (Some q) h k = absurd (h q k.0.pairing)
  one-best (Some p) None h k = absurd (k p h.0.pairing)
  one-best (Some p) (Some q) h k =
      let same = both-least p q (h.1 q k.0) (k.1 p h.0) in
      ap Some (same-pairing p q h.0.pairing k.0.pairing same.1 same.0)
