-- What comes home is what the fronts of a timetable show, so the first of it are the cheapest.
use Rattle.std.proofs.Common.{◌≡◌, ◌∙◌, ℕ, ℤ, pos, ◌+ℤ◌, ◌-ℤ◌, ◌*ℤ◌, true, cond, List, [], ◌∷◌, inl, inr, refl, sym, ap, subst, arith, map, take}
use Rattle.std.specs.FinMap as fin
use Rattle.std.specs.List.{flat_map}
use Rattle.std.specs.Ordering.{eq_by_cmp, int_cmp, is_eq, is_le, ordering_reverse}
use Rattle.std.specs.declared.cmp.Ordering.TheVariants.{Less, Equal}
use Rattle.std.proofs.lemmas.Int.{ints}
use Rattle.crew_flights.specs.Codes.{code_cmp}
use Rattle.crew_flights.specs.Timetable.{IsSound, Timetable}
use Rattle.crew_net.specs.Nets.{IsNetOf, Net}
use Rattle.crew_pairing.proofs.Tree.{Each-member}
use Rattle.crew_pairing.specs.Duties.{AreDuties, flights_of}
use Rattle.crew_pairing.specs.Keys.{walk_cmp, walk_total}
use Rattle.crew_pairing.specs.Legs.{Leg}
use Rattle.crew_pairing.specs.Pairings.{IsDuty, is_pairing, last_duty, minutes_away}
use Rattle.crew_pairing.specs.Vectors.{cost_of, pay_of, prices, reduced_cost, vector_of}
use Rattle.crew_pairing.specs.declared.duty.Duty.{Duty}
use Rattle.crew_pairing.specs.declared.vector.PairingVector.{PairingVector}
use Rattle.crew_resource.proofs.Members.{Member-flat_map_in, Member-flat_map_out, Member-map_in, Member-map_out}
use Rattle.crew_resource.specs.Machinery.BothLaws.{both_equal}
use Rattle.crew_resource.specs.Members.{Member}
use Rattle.crew_rules.specs.Settings.{IsChecked}
use Rattle.crew_rules.specs.declared.settings.Settings.{Settings}
use Rattle.crew_solve.proofs.Bases.{RiseByBase, entry-of, keys-rise, price-found}
use Rattle.crew_solve.proofs.Homing.{home-in, home-out}
use Rattle.crew_solve.proofs.Keeping.{firsts-among, firsts-few, firsts-least, firsts-rise, in-order-among, in-order-each, in-order-rise, kept-first, sorted}
use Rattle.crew_solve.proofs.Solving.{found}
use Rattle.crew_solve.specs.Apart.{AreAll, AreApart, taken_from}
use Rattle.crew_solve.specs.Cheapest.{AreCheapest, IsShown, pairing_cmp}
use Rattle.crew_solve.specs.Machinery.Homes.{home_of, priced}
use Rattle.crew_solve.specs.Machinery.Keeps.{keep_all, nothing}
use Rattle.crew_solve.specs.Machinery.Takes.{AreInOrder}
use Rattle.crew_solve.specs.Machinery.Solved.{IsSolved}
use Rattle.crew_solve.specs.Solutions.{front_among}
use Rattle.crew_sweep.specs.Sweeps.{BaseSweep, front_at}
use Rattle.crew_vector.proofs.Fitting.{cost-is}
use Rattle.crew_vector.proofs.OneBest.{same-pairing}
use Rattle.crew_vector.proofs.Orders.{code-itself, same-code, walk-order}
use Rattle.crew_vector.proofs.Paths.{last-of-each}
use Rattle.crew_vector.proofs.Unique.{same-front}
use Rattle.crew_vector.specs.Bests.{AreFronts}
use Rattle.crew_vector.specs.Fronts.{IsFrontAt}
use Rattle.crew_vector.specs.declared.priced.PricedPairing.{PricedPairing}

-- each base has one sweep
own-front : (sweeps : List BaseSweep) → RiseByBase (map (λ (b : BaseSweep). b.base) sweeps) → (b : BaseSweep) → Member sweeps b → (d : Duty) → front_among sweeps b.base d ≡ front_at b d
own-front [] h b m d = absurd m
own-front (x ∷ xs) h b (inl e) d =
    ap (λ k. cond k (front_at x d) (front_among xs b.base d)) (code-itself x.base b.base (ap (λ (y : BaseSweep). y.base) e))
    ∙ ap (λ y. front_at y d) e
own-front (x ∷ xs) h b (inr m) d =
    let above = Each-member (λ l. code_cmp x.base l ≡ Less) (map (λ (y : BaseSweep). y.base) xs) b.base h.0 (Member-map_in (λ (y : BaseSweep). y.base) xs b m) in
    ap (λ r. cond (is_eq r) (front_at x d) (front_among xs b.base d)) above ∙ own-front xs h.1 b m d

-- what a cost and a trip rig each leave out is the same
pay-again : (cost pay prices rig rig_less : ℤ) → cost ≡ pay -ℤ prices → rig_less ≡ rig -ℤ prices → pay ≡ cost +ℤ (rig -ℤ rig_less)
pay-again cost pay prices rig rig_less h k = omega (arith, ints)

same-walk : (a b : List (List Leg)) → walk_cmp a b ≡ Equal → a ≡ b
same-walk a b e = walk-order.antisymmetric a b (ap is_le e) (ap is_le (walk_total.antisymm b a ∙ ap ordering_reverse e))

same-cost : (a b : ℤ) → int_cmp a b ≡ Equal → a ≡ b
same-cost a b e = grind (arith, ints)

module _ (s : Settings) (t : Timetable) (checked : IsChecked s) (sound : IsSound t) where
  -- pairings that tie are the same
  same-shown : (p q : PricedPairing) → IsShown s t p → IsShown s t q → pairing_cmp p q ≡ Equal → p ≡ q
  same-shown p q a b e =
      let k = both_equal (int_cmp p.cost q.cost) (walk_cmp p.walk q.walk) e in
      same-pairing s t sound p q a.pairing b.pairing (same-walk p.walk q.walk k.1) (same-cost p.cost q.cost k.0)

  -- a pairing is that of its vector and its walk
  of-vector : (price : ℤ) (first : Duty) (others : List Duty) (base : List ℕ) (w : List (List Leg)) → priced s.trip_rig base (vector_of s price (first ∷ others)) w
      ≡ (let p : PricedPairing = record { base = base; walk = w; cost = cost_of s price (first ∷ others); pay = pay_of s (first ∷ others); away = minutes_away (first ∷ others) } in p)
  of-vector price first others base w =
      let duties = first ∷ others in
      let v = vector_of s price duties in
      let cost : reduced_cost v ≡ cost_of s price duties = cost-is s price duties in
      let pay = pay-again (reduced_cost v) (pay_of s duties) (prices price duties) (pos s.trip_rig *ℤ v.away) v.trip_rig cost refl in
      λ i. record { base = base; walk = w; cost = cost i; pay = sym pay i; away = v.away }

  module _ (ds : List Duty) (net : Net) (sweeps : List BaseSweep) (solved : IsSolved net sweeps) (duties : AreDuties s t ds) (built : IsNetOf s t ds net) (fronts : AreFronts s t (front_among sweeps)) where
    net-of : (b : BaseSweep) → Member sweeps b → b.net ≡ net
    net-of b m = Each-member (λ (x : BaseSweep). x.net ≡ net) sweeps b solved.nets m

    settings-of : (b : BaseSweep) → Member sweeps b → b.net.settings ≡ s
    settings-of b m = ap (λ (n : Net). n.settings) (net-of b m) ∙ built.settings

    duties-of : (b : BaseSweep) → Member sweeps b → b.net.duties ≡ ds
    duties-of b m = ap (λ (n : Net). n.duties) (net-of b m) ∙ built.duties

    built-of : (b : BaseSweep) → Member sweeps b → IsNetOf b.net.settings t b.net.duties b.net
    built-of b m = subst (λ x. IsNetOf x t b.net.duties b.net) (sym (settings-of b m)) (subst (λ l. IsNetOf s t l b.net) (sym (duties-of b m)) (subst (IsNetOf s t ds) (sym (net-of b m)) built))

    are-of : (b : BaseSweep) → Member sweeps b → AreDuties b.net.settings t b.net.duties
    are-of b m = subst (λ x. AreDuties x t b.net.duties) (sym (settings-of b m)) (subst (AreDuties s t) (sym (duties-of b m)) duties)

    bases : map (λ (b : BaseSweep). b.base) sweeps ≡ fin.keys t.bases
    bases = solved.bases ∙ built.bases

    rise : RiseByBase (map (λ (b : BaseSweep). b.base) sweeps)
    rise = subst RiseByBase (sym bases) (keys-rise t)

    abbrev All : List PricedPairing
    All = flat_map home_of sweeps

    shown-by : (b : BaseSweep) → Member sweeps b → (p : PricedPairing) → Member (home_of b) p → IsShown s t p
    shown-by b m p k =
        let h = home-out t b (built-of b m) (are-of b m) p k in
        let legal = subst (λ x. IsDuty x (flights_of t) h.duty) (settings-of b m) h.legal in
        let known = Member-map_out (λ (e : List ℕ × ℤ). e.0) (fin.entries t.bases) b.base (subst (λ (l : List (List ℕ)). Member l b.base) bases (Member-map_in (λ (x : BaseSweep). x.base) sweeps b m)) in
        let price = known.0.1 in
        let based = price-found t known.0 b.base known.1 known.2 in
        let exact = fronts b.base price h.duty based legal in
        let held = subst (λ (l : List (PairingVector × List (List Leg))). Member l (h.vector, h.walk)) (sym (own-front sweeps rise b m h.duty)) h.held in
        let at = (exact.clean h.vector h.walk held).at in
        let home : is_pairing b.base at.first at.others ≡ true = ap (λ (d : Duty). eq_by_cmp code_cmp d.to b.base) at.ends ∙ code-itself h.duty.to b.base h.home in
        let whole = ap (λ x. priced x.trip_rig b.base h.vector h.walk) (settings-of b m) ∙ (ap (λ v. priced s.trip_rig b.base v h.walk) at.vector ∙ of-vector price at.first at.others b.base h.walk) in
        subst (IsShown s t) (sym (h.is ∙ whole)) (record {
          pairing = record { price = price; based = based; first = at.first; others = at.others; partial = at.partial; returns = home; walk = at.walk; cost = refl; pay = refl; away = refl };
          front = front_among sweeps b.base h.duty;
          exact = subst (λ d. IsFrontAt s t b.base price d (front_among sweeps b.base h.duty)) (sym at.ends) exact;
          held = subst (λ v. Member (front_among sweeps b.base h.duty) (v, h.walk)) at.vector held;
        })

    shown-out : (p : PricedPairing) → Member All p → IsShown s t p
    shown-out p m = let k = Member-flat_map_out home_of sweeps p m in shown-by k.0 k.1 p k.2

    shown-in : (p : PricedPairing) → IsShown s t p → Member All p
    shown-in p h =
        let is = h.pairing in
        let d = last_duty is.first is.others in
        let v = vector_of s is.price (is.first ∷ is.others) in
        let legal = last-of-each s t p.base is.price checked sound is.first is.others is.partial.legal in
        let held = same-front s t p.base is.price d h.front (front_among sweeps p.base d) h.exact (fronts p.base is.price d is.based legal) v p.walk h.held in
        let key = subst (λ (l : List (List ℕ)). Member l p.base) (sym bases) (Member-map_in (λ (e : List ℕ × ℤ). e.0) (fin.entries t.bases) (p.base, is.price) (entry-of t p.base is.price is.based)) in
        let some = Member-map_out (λ (x : BaseSweep). x.base) sweeps p.base key in
        let f = found sweeps p.base some.0 some.1 some.2 in
        let b = f.sweep in
        let own = subst (λ x. IsDuty x (flights_of t) d) (sym (settings-of b f.among)) legal in
        let home : d.to ≡ b.base = same-code d.to p.base is.returns ∙ sym f.own in
        let m = home-in t b (built-of b f.among) (are-of b f.among) d own home v p.walk (subst (λ (l : List (PairingVector × List (List Leg))). Member l (v, p.walk)) (f.fronts d) held) in
        let k = Member-flat_map_in home_of sweeps b (priced b.net.settings.trip_rig b.base v p.walk) f.among m in
        let whole : priced b.net.settings.trip_rig b.base v p.walk ≡ p =
        (λ i. priced (settings-of b f.among i).trip_rig (f.own i) v p.walk)
        ∙ (of-vector is.price is.first is.others p.base p.walk ∙ (λ i. record { base = p.base; walk = p.walk; cost = sym is.cost i; pay = sym is.pay i; away = sym is.away i })) in
        subst (Member All) whole k

    same-home : (p q : PricedPairing) → Member All p → Member All q → pairing_cmp p q ≡ Equal → p ≡ q
    same-home p q m n e = same-shown p q (shown-out p m) (shown-out q n) e

    pub in-order : AreInOrder All (sorted [] All)
    in-order = record {
      rise = in-order-rise All same-home 0;
      among = in-order-among All same-home 0;
      each = in-order-each All same-home 0;
    }

    are-all : AreAll s t (sorted [] All)
    are-all = record {
      rise = in-order.rise;
      shown = λ p m. shown-out p (in-order.among p m);
      each = λ p h. in-order.each p (shown-in p h);
    }

    pub are-apart : (limit share : ℕ) (ps : List PricedPairing) → ps ≡ take limit (taken_from share [] (sorted [] All)) → AreApart s t limit share ps
    are-apart limit share ps e = record { all = sorted [] All; are = are-all; first = e }

    pub are-cheapest : (n : ℕ) → AreCheapest s t n (keep_all (nothing n) All).pairings
    are-cheapest n = subst (AreCheapest s t n) (sym (kept-first n All)) (record {
      rise = firsts-rise All same-home n;
      few = firsts-few All same-home n;
      shown = λ p m. shown-out p (firsts-among All same-home n p m);
      least = λ q h. firsts-least All same-home n q (shown-in q h);
    })
