-- There is one list of the cheapest pairings.
use Rattle.std.proofs.Common.{◌≡◌, ◌∙◌, ℕ, List, [], ◌∷◌, ◌++◌, sym, ap, subst, ⊎_elim, arith, length-append}
use Rattle.std.specs.declared.cmp.Ordering.TheVariants.{Less}
use Rattle.std.specs.Ordering.{ordering_reverse}
use Rattle.crew_pairing.proofs.Tree.{Each-member}
use Rattle.crew_resource.proofs.Members.{Member-append}
use Rattle.crew_resource.proofs.Rising.{Rising, same-rising}
use Rattle.crew_resource.specs.Members.{Each, Member}
use Rattle.crew_fronts.proofs.crew_solve_lemmas.Within.{no-longer}
use Rattle.crew_plan.specs.Cheapest.{AreFirst, RiseByCost, pairing_cmp, pairing_total}
use Rattle.crew_fronts.specs.crew_solve.crew_vector.declared.priced.PricedPairing.{PricedPairing}

abbrev Ps : Type 0
Ps = List PricedPairing

pub rising : (ps : Ps) → RiseByCost ps → Rising pairing_cmp ps
rising [] h = tt
rising (p ∷ ps) h = (h.0, rising ps h.1)

never-both : (p q : PricedPairing) → pairing_cmp p q ≡ Less → pairing_cmp q p ≡ Less → ⊥
never-both p q h k = let e : Less ≡ ordering_reverse Less = sym h ∙ (pairing_total.antisymm p q ∙ ap ordering_reverse k) in (cc)

each-both : (P : PricedPairing → Type 0) (xs : Ps) (q : PricedPairing) → Each P xs → P q → Each P (xs ++ q ∷ [])
each-both P [] q h p = (p, tt)
each-both P (x ∷ xs) q h p = (h.0, each-both P xs q h.1 p)

rise-both : (xs : Ps) (q : PricedPairing) → RiseByCost xs → Each (λ p. pairing_cmp p q ≡ Less) xs → RiseByCost (xs ++ q ∷ [])
rise-both [] q h k = (tt, tt)
rise-both (x ∷ xs) q h k = (each-both (λ l. pairing_cmp x l ≡ Less) xs q h.0 k.0, rise-both xs q h.1 k.1)

module _ (Shown : PricedPairing → Type 0) (limit : ℕ) where
  in-both : (a b : Ps) → AreFirst Shown limit a → AreFirst Shown limit b → (q : PricedPairing) → Member a q → Member b q
  in-both a b h k q m =
      ⊎_elim {C = Member b q}
      (λ n. n)
      (λ c.
      let within : (p : PricedPairing) → Member b p → Member a p = λ p n.
      ⊎_elim {C = Member a p} (λ i. i) (λ d. absurd (never-both p q (Each-member (λ z. pairing_cmp z q ≡ Less) b p c.1 n) (Each-member (λ z. pairing_cmp z p ≡ Less) a q d.1 m))) (h.least p (k.shown p n)) in
      let all : (z : PricedPairing) → Member (b ++ q ∷ []) z → Member a z = λ z n.
      ⊎_elim {C = Member a z} (within z) (λ i. ⊎_elim {C = Member a z} (λ e. subst (Member a) e m) (λ j. absurd j) i) (Member-append b (q ∷ []) z n) in
      let long = no-longer pairing_cmp pairing_total a (b ++ q ∷ []) (rising (b ++ q ∷ []) (rise-both b q k.rise c.1)) (rising a h.rise) all in
      let few = h.few in
      let more = length-append b (q ∷ []) in
      let full = c.0 in
      absurd (omega (arith, long, few, more, full)))
      (k.least q (h.shown q m))

  pub one-list : (a b : Ps) → AreFirst Shown limit a → AreFirst Shown limit b → a ≡ b
  one-list a b h k = same-rising pairing_cmp pairing_total a b (rising a h.rise) (rising b k.rise) (in-both a b h k) (in-both b a k h)
