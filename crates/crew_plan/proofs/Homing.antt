-- What comes home is what the fronts show: the least of it is the best pairing, and the first of it are the cheapest.
use Rattle.std.proofs.Common.{◌≡◌, ◌∙◌, ℕ, ℤ, Bool, true, false, cond, pos, ◌+ℤ◌, ◌-ℤ◌, ◌*ℤ◌, List, [], ◌∷◌, Option, Some, None, inl, inr, refl, sym, ap, subst, arith, map, take}
use Rattle.std.specs.FinMap as fin
use Rattle.std.specs.Prelude.{◌≤ℤ◌}
use Rattle.std.specs.List.{flat_map}
use Rattle.std.specs.Ordering.{eq_by_cmp, is_eq}
use Rattle.std.specs.declared.cmp.Ordering.TheVariants.{Less, Equal}
use Rattle.std.proofs.lemmas.Int.{ints}
use Rattle.crew_fronts.specs.crew_answers.Bests.{AreFronts, IsBest, IsCleanPairing, IsHomeEntry}
use Rattle.crew_fronts.specs.crew_answers.Fronts.{IsFrontAt}
use Rattle.crew_fronts.specs.crew_answers.LongVectors.{LongVector, long_vector_of}
use Rattle.crew_fronts.proofs.crew_answers_lemmas.Cheapest.{entry-pairing, least-entry, no-entry}
use Rattle.crew_fronts.proofs.crew_answers_lemmas.Unique.{same-front}
use Rattle.crew_flights.specs.Codes.{code_cmp}
use Rattle.crew_flights.specs.Timetable.{IsSound, Timetable}
use Rattle.crew_fronts.specs.Fronts.{BaseFronts, Entries, front_at}
use Rattle.crew_net.specs.Nets.{IsNetOf, Net}
use Rattle.crew_pairing.proofs.Tree.{Each-member}
use Rattle.crew_pairing.specs.Duties.{AreDuties}
use Rattle.crew_pairing.specs.Legs.{Leg}
use Rattle.crew_pairing.specs.Pairings.{is_pairing, last_duty, minutes_away}
use Rattle.crew_pairing.specs.Vectors.{cost_of, pay_of, prices, reduced_cost, vector_of}
use Rattle.crew_pairing.specs.declared.duty.Duty.{Duty}
use Rattle.crew_plan.specs.Apart.{AreApart, AreApartOf, taken_from}
use Rattle.crew_plan.specs.Cheapest.{AreCheapest, AreCheapestOf, IsBestOf, IsShown, IsShownOf, pairing_cmp}
use Rattle.crew_plan.specs.Machinery.Homes.{IsPayable, alone, ended_by, home_at, home_of, pairing_of}
use Rattle.crew_plan.specs.Machinery.Kept.{IsSolved}
use Rattle.crew_plan.specs.Solutions.{front_among}
use Rattle.crew_plan.proofs.Among.{alone-out}
use Rattle.crew_plan.proofs.Below.{one-below}
use Rattle.crew_plan.proofs.Firsts.{are-first, are-taken}
use Rattle.crew_plan.proofs.Placed.{found, last-of-each}
use Rattle.crew_plan.proofs.Reach.{vector-pay}
use Rattle.crew_plan.proofs.Tied.{same-shown}
use Rattle.crew_resource.proofs.Members.{Member-flat_map_in, Member-flat_map_out, Member-map_in, Member-map_out}
use Rattle.crew_resource.specs.Members.{Each, Member}
use Rattle.crew_rules.specs.Settings.{IsChecked}
use Rattle.crew_rules.specs.declared.settings.Settings.{Settings}
use Rattle.crew_fronts.proofs.crew_solve_lemmas.Bases.{RiseByBase, entry-of, keys-rise, price-found}
use Rattle.crew_fronts.proofs.crew_solve_lemmas.Keeping.{sorted}
use Rattle.crew_fronts.proofs.crew_solve_lemmas.Least.{none-least, some-least}
use Rattle.crew_fronts.specs.crew_solve.Machinery.Homes.{HasPay, least_of}
use Rattle.crew_fronts.specs.crew_solve.Machinery.Keeps.{keep_all, nothing}
use Rattle.crew_fronts.proofs.crew_solve_lemmas.crew_vector_lemmas.Fitting.{cost-is}
use Rattle.crew_fronts.proofs.crew_solve_lemmas.crew_vector_lemmas.Orders.{code-itself, same-code}
use Rattle.crew_fronts.specs.crew_solve.crew_vector.Bests.{NoDearer}
use Rattle.crew_fronts.specs.crew_solve.crew_vector.declared.priced.PricedPairing.{PricedPairing}

abbrev Entry : Type 0
Entry = LongVector × List (List Leg)

-- what a cost and a trip rig each leave out is the same
pay-again : (cost pay prices rig rig_less : ℤ) → cost ≡ pay -ℤ prices → rig_less ≡ rig -ℤ prices → pay ≡ cost +ℤ (rig -ℤ rig_less)
pay-again cost pay prices rig rig_less h k = omega (arith, ints)

-- each base has its own fronts
own-front : (bases : List BaseFronts) → RiseByBase (map (λ (b : BaseFronts). b.base) bases) → (b : BaseFronts) → Member bases b → (d : Duty) → front_among bases b.base d ≡ front_at b d
own-front [] h b m d = absurd m
own-front (x ∷ xs) h b (inl e) d =
    ap (λ k. cond k (front_at x d) (front_among xs b.base d)) (code-itself x.base b.base (ap (λ (y : BaseFronts). y.base) e))
    ∙ ap (λ y. front_at y d) e
own-front (x ∷ xs) h b (inr m) d =
    let above = Each-member (λ l. code_cmp x.base l ≡ Less) (map (λ (y : BaseFronts). y.base) xs) b.base h.0 (Member-map_in (λ (y : BaseFronts). y.base) xs b m) in
    ap (λ r. cond (is_eq r) (front_at x d) (front_among xs b.base d)) above ∙ own-front xs h.1 b m d

-- ---- an entry at home

pub record IsHomeOf (rate : ℕ) (b : BaseFronts) (p : PricedPairing) : Type 0 where
  pub duty : Duty
  pub known : Member b.net.duties duty
  pub home : duty.to ≡ b.base
  pub entry : Entry
  pub held : Member (front_at b duty) entry
  pub is : pairing_of rate b.base entry ≡ p

home-if : (rate : ℕ) (b : BaseFronts) (d : Duty) (p : PricedPairing) (k : Bool) → Member b.net.duties d → eq_by_cmp code_cmp d.to b.base ≡ k → Member (cond k (ended_by rate b d) []) p → IsHomeOf rate b p
home-if rate b d p false known e m = absurd m
home-if rate b d p true known e m =
    let k = Member-map_out (pairing_of rate b.base) (front_at b d) p m in
    record { duty = d; known = known; home = same-code d.to b.base e; entry = k.0; held = k.1; is = k.2 }

home-out : (rate : ℕ) (b : BaseFronts) (p : PricedPairing) → Member (home_of rate b) p → IsHomeOf rate b p
home-out rate b p m =
    let k = Member-flat_map_out (home_at rate b) b.net.duties p m in
    home-if rate b k.0 p (eq_by_cmp code_cmp k.0.to b.base) k.1 refl k.2

home-in : (rate : ℕ) (b : BaseFronts) (d : Duty) (e : Entry) → Member b.net.duties d → d.to ≡ b.base → Member (front_at b d) e → Member (home_of rate b) (pairing_of rate b.base e)
home-in rate b d e known home held =
    let test : eq_by_cmp code_cmp d.to b.base ≡ true = code-itself d.to b.base home in
    let one = Member-map_in (pairing_of rate b.base) (front_at b d) e held in
    Member-flat_map_in (home_at rate b) b.net.duties d (pairing_of rate b.base e) known
    (subst (λ (k : Bool). Member (cond k (ended_by rate b d) []) (pairing_of rate b.base e)) (sym test) one)

-- what is no dearer costs no more than what costs as much or more
no-more : (a : ℤ) (w : List (List Leg)) (b : ℤ) (x : List (List Leg)) (c : ℤ) → NoDearer a w b x → b ≤ℤ c → a ≤ℤ c
no-more a w b x c (inl less) h = omega (arith, ints)
no-more a w b x c (inr same) h = subst (λ z. z ≤ℤ c) (sym same.0) h

module _ (s : Settings) (t : Timetable) (checked : IsChecked s) (sound : IsSound t) where
  -- a pairing is that of its vector and its walk
  of-vector : (price : ℤ) (first : Duty) (others : List Duty) (base : List ℕ) (w : List (List Leg)) → pairing_of s.trip_rig base (long_vector_of s price first others, w)
      ≡ (let p : PricedPairing = record { base = base; walk = w; cost = cost_of s price (first ∷ others); pay = pay_of s (first ∷ others); away = minutes_away (first ∷ others) } in p)
  of-vector price first others base w =
      let duties = first ∷ others in
      let v = vector_of s price duties in
      let cost : reduced_cost v ≡ cost_of s price duties = cost-is s price duties in
      let pay = pay-again (reduced_cost v) (pay_of s duties) (prices price duties) (pos s.trip_rig *ℤ v.away) v.trip_rig cost refl in
      λ i. record { base = base; walk = w; cost = cost i; pay = sym pay i; away = v.away }

  module _ (ds : List Duty) (net : Net) (bases : List BaseFronts) (solved : IsSolved net bases) (duties : AreDuties s t ds) (built : IsNetOf s t ds net) (fronts : AreFronts s t (front_among bases)) where
    net-of : (b : BaseFronts) → Member bases b → b.net ≡ net
    net-of b m = Each-member (λ (x : BaseFronts). x.net ≡ net) bases b solved.nets m

    duties-of : (b : BaseFronts) → Member bases b → b.net.duties ≡ ds
    duties-of b m = ap (λ (n : Net). n.duties) (net-of b m) ∙ built.duties

    keys : map (λ (b : BaseFronts). b.base) bases ≡ fin.keys t.bases
    keys = solved.all ∙ built.bases

    rise : RiseByBase (map (λ (b : BaseFronts). b.base) bases)
    rise = subst RiseByBase (sym keys) (keys-rise t)

    priced-of : (b : BaseFronts) → Member bases b → (price : ℤ) × (fin.get t.bases b.base ≡ Some price)
    priced-of b m =
        let known = Member-map_out (λ (e : List ℕ × ℤ). e.0) (fin.entries t.bases) b.base (subst (λ (l : List (List ℕ)). Member l b.base) keys (Member-map_in (λ (x : BaseFronts). x.base) bases b m)) in
        (known.0.1, price-found t known.0 b.base known.1 known.2)

    abbrev pub All : List PricedPairing
    All = flat_map (home_of s.trip_rig) bases

    -- of one base
    abbrev pub Own : List ℕ → List PricedPairing
    Own base = flat_map (home_of s.trip_rig) (alone base bases)

    own-all : (base : List ℕ) (p : PricedPairing) → Member (Own base) p → Member All p
    own-all base p m =
        let k = Member-flat_map_out (home_of s.trip_rig) (alone base bases) p m in
        Member-flat_map_in (home_of s.trip_rig) bases k.0 p (alone-out bases base k.0 k.1).0 k.2

    -- ---- the entry of a pairing that comes home

    record IsHome (p : PricedPairing) : Type 0 where
      pub base : List ℕ
      pub vector : LongVector
      pub walk : List (List Leg)
      pub entry : IsHomeEntry s t (front_among bases) base vector walk
      pub is : pairing_of s.trip_rig base (vector, walk) ≡ p

    entry-by : (b : BaseFronts) → Member bases b → (p : PricedPairing) → Member (home_of s.trip_rig b) p → IsHome p
    entry-by b m p k =
        let h = home-out s.trip_rig b p k in
        let legal = duties.sound h.duty (subst (λ (l : List Duty). Member l h.duty) (duties-of b m) h.known) in
        let priced = priced-of b m in
        record {
          base = b.base;
          vector = h.entry.0;
          walk = h.entry.1;
          entry = record {
            price = priced.0;
            based = priced.1;
            duty = h.duty;
            legal = legal;
            home = h.home;
            held = subst (λ (l : Entries). Member l h.entry) (sym (own-front bases rise b m h.duty)) h.held;
          };
          is = h.is;
        }

    entry-out : (p : PricedPairing) → Member All p → IsHome p
    entry-out p m = let k = Member-flat_map_out (home_of s.trip_rig) bases p m in entry-by k.0 k.1 p k.2

    entry-own : (base : List ℕ) (v : LongVector) (w : List (List Leg)) → IsHomeEntry s t (front_among bases) base v w → Member (Own base) (pairing_of s.trip_rig base (v, w))
    entry-own base v w h =
        let key = subst (λ (l : List (List ℕ)). Member l base) (sym keys) (Member-map_in (λ (e : List ℕ × ℤ). e.0) (fin.entries t.bases) (base, h.price) (entry-of t base h.price h.based)) in
        let some = Member-map_out (λ (x : BaseFronts). x.base) bases base key in
        let f = found bases base some.0 some.1 some.2 in
        let b = f.fronts in
        let d = h.duty in
        let known = subst (λ (l : List Duty). Member l d) (sym (duties-of b f.among)) (subst (Member ds) (sym h.legal.3) (duties.every h.legal.0 h.legal.1 h.legal.2)) in
        let held = subst (λ (l : Entries). Member l (v, w)) (f.shows d) h.held in
        let m = home-in s.trip_rig b d (v, w) known (h.home ∙ sym f.own) held in
        let there = subst (λ (l : List BaseFronts). Member l b) (sym f.only) (inl refl) in
        let k = Member-flat_map_in (home_of s.trip_rig) (alone base bases) b (pairing_of s.trip_rig b.base (v, w)) there m in
        subst (Member (Own base)) (λ i. pairing_of s.trip_rig (f.own i) (v, w)) k

    entry-in : (base : List ℕ) (v : LongVector) (w : List (List Leg)) → IsHomeEntry s t (front_among bases) base v w → Member All (pairing_of s.trip_rig base (v, w))
    entry-in base v w h = own-all base (pairing_of s.trip_rig base (v, w)) (entry-own base v w h)

    -- ---- the least of it is the best

    same-parts : (p q : PricedPairing) → p.base ≡ q.base → p.walk ≡ q.walk → p.cost ≡ q.cost → p.pay ≡ q.pay → p.away ≡ q.away → p ≡ q
    same-parts p q a b c d e = λ i. record { base = a i; walk = b i; cost = c i; pay = d i; away = e i }

    best-by : (o : Option PricedPairing) → least_of None All ≡ o → IsBest s t o
    best-by None e = no-entry s t checked sound (front_among bases) fronts (λ base v w h. none-least All e (pairing_of s.trip_rig base (v, w)) (entry-in base v w h))
    best-by (Some best) e =
        let least = some-least All best e in
        let home = entry-out best least.0 in
        let p = entry-pairing s t (front_among bases) fronts home.base home.vector home.walk home.entry in
        let same = same-parts p.0 (pairing_of s.trip_rig home.base (home.vector, home.walk)) p.2 p.3 p.4 p.5 p.6 ∙ home.is in
        let clean = subst (IsCleanPairing s t) same p.1 in
        least-entry s t checked sound (front_among bases) best fronts clean (λ base v w h. least.1 (pairing_of s.trip_rig base (v, w)) (entry-in base v w h))

    pub is-best : IsBest s t (least_of None All)
    is-best = best-by (least_of None All) refl

    -- ---- and it is what fronts show

    shown-out : (p : PricedPairing) → Member All p → IsShown s t p
    shown-out p m =
        let h = entry-out p m in
        let e = h.entry in
        let exact = fronts h.base e.price e.duty e.based e.legal in
        let at = (exact.clean h.vector h.walk e.held).at in
        let home : is_pairing h.base at.first at.others ≡ true = ap (λ (d : Duty). eq_by_cmp code_cmp d.to h.base) at.ends ∙ code-itself e.duty.to h.base e.home in
        let whole = ap (λ v. pairing_of s.trip_rig h.base (v, h.walk)) at.vector ∙ of-vector e.price at.first at.others h.base h.walk in
        subst (IsShown s t) (sym whole ∙ h.is) (record {
          pairing = record { price = e.price; based = e.based; first = at.first; others = at.others; partial = at.partial; returns = home; walk = at.walk; cost = refl; pay = refl; away = refl };
          front = front_among bases h.base e.duty;
          exact = subst (λ d. IsFrontAt s t h.base e.price d (front_among bases h.base e.duty)) (sym at.ends) exact;
          held = subst (λ v. Member (front_among bases h.base e.duty) (v, h.walk)) at.vector e.held;
        })

    shown-own : (p : PricedPairing) → IsShown s t p → Member (Own p.base) p
    shown-own p h =
        let is = h.pairing in
        let d = last_duty is.first is.others in
        let v = long_vector_of s is.price is.first is.others in
        let legal = last-of-each s t is.first is.others is.partial.legal in
        let held = same-front s t p.base is.price d h.front (front_among bases p.base d) h.exact (fronts p.base is.price d is.based legal) v p.walk h.held in
        let k = entry-own p.base v p.walk (record { price = is.price; based = is.based; duty = d; legal = legal; home = same-code d.to p.base is.returns; held = held }) in
        let whole : pairing_of s.trip_rig p.base (v, p.walk) ≡ p =
        of-vector is.price is.first is.others p.base p.walk ∙ (λ i. record { base = p.base; walk = p.walk; cost = sym is.cost i; pay = sym is.pay i; away = sym is.away i }) in
        subst (Member (Own p.base)) whole k

    shown-in : (p : PricedPairing) → IsShown s t p → Member All p
    shown-in p h = own-all p.base p (shown-own p h)

    same-home : (p q : PricedPairing) → Member All p → Member All q → pairing_cmp p q ≡ Equal → p ≡ q
    same-home p q m n e = same-shown s t sound p q (shown-out p m) (shown-out q n) e

    pub are-apart : (limit share : ℕ) (ps : List PricedPairing) → ps ≡ take limit (taken_from share [] (sorted [] All)) → AreApart s t limit share ps
    are-apart limit share ps e = are-taken (IsShown s t) All shown-out shown-in same-home limit share ps e

    pub are-cheapest : (n : ℕ) → AreCheapest s t n (keep_all (nothing n) All).pairings
    are-cheapest n = are-first (IsShown s t) All shown-out shown-in same-home n

    -- ---- of one base

    own-out : (base : List ℕ) (p : PricedPairing) → Member (Own base) p → IsShownOf s t base p
    own-out base p m =
        let k = Member-flat_map_out (home_of s.trip_rig) (alone base bases) p m in
        let among = alone-out bases base k.0 k.1 in
        let home = home-out s.trip_rig k.0 p k.2 in
        (shown-out p (own-all base p m), ap (λ (x : PricedPairing). x.base) (sym home.is) ∙ among.1)

    own-in : (base : List ℕ) (p : PricedPairing) → IsShownOf s t base p → Member (Own base) p
    own-in base p h = subst (λ (l : List ℕ). Member (Own l) p) h.1 (shown-own p h.0)

    same-own : (base : List ℕ) (p q : PricedPairing) → Member (Own base) p → Member (Own base) q → pairing_cmp p q ≡ Equal → p ≡ q
    same-own base p q m n e = same-home p q (own-all base p m) (own-all base q n) e

    pub are-apart-of : (base : List ℕ) (limit share : ℕ) (ps : List PricedPairing) → ps ≡ take limit (taken_from share [] (sorted [] (Own base))) → AreApartOf s t base limit share ps
    are-apart-of base limit share ps e = are-taken (IsShownOf s t base) (Own base) (own-out base) (own-in base) (same-own base) limit share ps e

    pub are-cheapest-of : (base : List ℕ) (n : ℕ) → AreCheapestOf s t base n (keep_all (nothing n) (Own base)).pairings
    are-cheapest-of base n = are-first (IsShownOf s t base) (Own base) (own-out base) (own-in base) (same-own base) n

    best-of-by : (base : List ℕ) (o : Option PricedPairing) → least_of None (Own base) ≡ o → IsBestOf s t base o
    best-of-by base None e = λ p is own.
        let q = one-below s t checked sound p is in
        none-least (Own base) e q.0 (own-in base q.0 (q.1, q.2 ∙ own))
    best-of-by base (Some best) e =
        let least = some-least (Own base) best e in
        let first : (p : PricedPairing) → IsShownOf s t base p → NoDearer best.cost best.walk p.cost p.walk = λ p h. least.1 p (own-in base p h) in (
          own-out base best least.0,
          first,
          λ p is own.
              let q = one-below s t checked sound p is in
              no-more best.cost best.walk q.0.cost q.0.walk p.cost (first q.0 (q.1, q.2 ∙ own)) q.4,
        )

    pub is-best-of : (base : List ℕ) → IsBestOf s t base (least_of None (Own base))
    is-best-of base = best-of-by base (least_of None (Own base)) refl

    -- ---- the amounts of all that is shown fit

    payable : (b : BaseFronts) → Member bases b → IsPayable s.trip_rig b
    payable b m = λ d e known held.
        let legal = duties.sound d (subst (λ (l : List Duty). Member l d) (duties-of b m) known) in
        let priced = priced-of b m in
        let exact = fronts b.base priced.0 d priced.1 legal in
        let at = (exact.clean e.0 e.1 (subst (λ (l : Entries). Member l e) (sym (own-front bases rise b m d)) held)).at in
        subst (HasPay s.trip_rig) (sym (ap (λ (v : LongVector). v.sums) at.vector))
        (vector-pay s t b.base priced.0 checked sound (sound.bases b.base priced.0 priced.1) at.first at.others at.partial)

    pub all-pay : Each (IsPayable s.trip_rig) bases
    all-pay = each-of bases (λ b m. m)
      where
        each-of : (bs : List BaseFronts) → ((b : BaseFronts) → Member bs b → Member bases b) → Each (IsPayable s.trip_rig) bs
        each-of [] f = tt
        each-of (b ∷ bs) f = (payable b (f b (inl refl)), each-of bs (λ c m. f c (inr m)))
