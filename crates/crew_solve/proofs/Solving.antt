-- Sweeps of all bases give the fronts, and the least of what comes home is the best pairing.
use Rattle.std.proofs.Common.{map, ◌≡◌, ◌∙◌, ℕ, ℤ, Bool, true, false, cond, List, [], ◌∷◌, Option, Some, None, inl, inr, refl, sym, ap, subst}
use Rattle.std.specs.FinMap as fin
use Rattle.std.specs.List.{flat_map}
use Rattle.std.specs.Ordering.{eq_by_cmp}
use Rattle.crew_flights.specs.Codes.{code_cmp}
use Rattle.crew_flights.specs.Timetable.{Timetable}
use Rattle.crew_net.specs.Nets.{Net}
use Rattle.crew_pairing.specs.Duties.{flights_of}
use Rattle.crew_pairing.specs.Legs.{Leg}
use Rattle.crew_pairing.specs.Pairings.{IsDuty}
use Rattle.crew_pairing.specs.declared.duty.Duty.{Duty}
use Rattle.crew_pairing.specs.declared.vector.PairingVector.{PairingVector}
use Rattle.crew_pairing.proofs.Tree.{Each-member}
use Rattle.crew_resource.proofs.Members.{Member-flat_map_in, Member-flat_map_out, Member-map_in, Member-map_out}
use Rattle.crew_resource.specs.Members.{Member}
use Rattle.crew_solve.specs.Machinery.Homes.{home_of, least_of, priced}
use Rattle.crew_solve.specs.Machinery.Solved.{AreSweeps}
use Rattle.crew_solve.specs.Solutions.{front_among}
use Rattle.crew_solve.proofs.Bases.{entry-of, price-of}
use Rattle.crew_solve.specs.Machinery.Planned.{IsOver}
use Rattle.crew_solve.proofs.Homing.{home-in, home-out}
use Rattle.crew_solve.proofs.Least.{none-least, some-least}
use Rattle.crew_sweep.specs.Sweeps.{BaseSweep, ShowsFronts, front_at}
use Rattle.crew_vector.proofs.Cheapest.{entry-pairing, least-entry, no-entry}
use Rattle.crew_vector.proofs.Orders.{code-itself, same-code}
use Rattle.crew_vector.proofs.Unique.{same-front}
use Rattle.crew_vector.specs.Bests.{AreFronts, IsBest, IsCleanPairing, IsHomeEntry}
use Rattle.crew_vector.specs.Fronts.{IsFrontAt}
use Rattle.crew_vector.specs.declared.priced.PricedPairing.{PricedPairing}

-- the sweep of a base
pub record IsFound (sweeps : List BaseSweep) (base : List ℕ) : Type 0 where
  pub sweep : BaseSweep
  pub among : Member sweeps sweep
  pub own : sweep.base ≡ base
  pub fronts : (d : Duty) → front_among sweeps base d ≡ front_at sweep d

found-by : (b : BaseSweep) (bs : List BaseSweep) (base : List ℕ) (k : Bool) → eq_by_cmp code_cmp b.base base ≡ k → ((c : BaseSweep) → Member bs c → c.base ≡ base → IsFound bs base)
    → (c : BaseSweep) → Member (b ∷ bs) c → c.base ≡ base → IsFound (b ∷ bs) base
found-by b bs base true e later c m h = record {
  sweep = b;
  among = inl refl;
  own = same-code b.base base e;
  fronts = λ d. ap (λ k. cond k (front_at b d) (front_among bs base d)) e;
}
found-by b bs base false e later c (inl i) h = absurd (let t = code-itself b.base base (ap (λ (x : BaseSweep). x.base) i ∙ h) in let both = sym t ∙ e in let z : ⊥ = (cc) in z)
found-by b bs base false e later c (inr m) h =
    let k = later c m h in
    record {
      sweep = k.sweep;
      among = inr k.among;
      own = k.own;
      fronts = λ d. ap (λ x. cond x (front_at b d) (front_among bs base d)) e ∙ k.fronts d;
    }

pub found : (sweeps : List BaseSweep) (base : List ℕ) (c : BaseSweep) → Member sweeps c → c.base ≡ base → IsFound sweeps base
found [] base c m h = absurd m
found (b ∷ bs) base c m h = found-by b bs base (eq_by_cmp code_cmp b.base base) refl (found bs base) c m h

module _ (t : Timetable) (net : Net) (sweeps : List BaseSweep) (over : IsOver t net) (are : AreSweeps t net sweeps) where
  net-of : (b : BaseSweep) → Member sweeps b → b.net ≡ net
  net-of b m = Each-member (λ (x : BaseSweep). x.net ≡ net) sweeps b are.nets m

  over-of : (b : BaseSweep) → Member sweeps b → IsOver t b.net
  over-of b m = subst (IsOver t) (sym (net-of b m)) over

  shows-of : (b : BaseSweep) → Member sweeps b → ShowsFronts t b
  shows-of b m = Each-member (ShowsFronts t) sweeps b are.fronts m

  abbrev pair : BaseSweep → List ℕ × ℤ
  pair b = (b.base, b.price)

  based-of : (b : BaseSweep) → Member sweeps b → fin.get t.bases b.base ≡ Some b.price
  based-of b m = price-of t (pair b) (subst (λ (es : List (List ℕ × ℤ)). Member es (pair b)) are.bases (Member-map_in pair sweeps b m))

  sweep-of : (base : List ℕ) (price : ℤ) → fin.get t.bases base ≡ Some price → IsFound sweeps base
  sweep-of base price h =
      let m = subst (λ (es : List (List ℕ × ℤ)). Member es (base, price)) (sym are.bases) (entry-of t base price h) in
      let k = Member-map_out pair sweeps (base, price) m in
      found sweeps base k.0 k.1 (ap (λ (e : List ℕ × ℤ). e.0) k.2)

  price-is : (base : List ℕ) (price : ℤ) → fin.get t.bases base ≡ Some price → (f : IsFound sweeps base) → f.sweep.price ≡ price
  price-is base price h f = let both = sym (based-of f.sweep f.among) ∙ (ap (fin.get t.bases) f.own ∙ h) in (cc)

  front-is : (base : List ℕ) (price : ℤ) (d : Duty) → fin.get t.bases base ≡ Some price → IsDuty net.settings (flights_of t) d → (f : IsFound sweeps base)
      → IsFrontAt net.settings t base price d (front_at f.sweep d)
  front-is base price d h legal f =
      let n = net-of f.sweep f.among in
      let l = subst (λ (x : Net). IsDuty x.settings (flights_of t) d) (sym n) legal in
      let k = shows-of f.sweep f.among d l in
      let one = subst (λ (x : Net). IsFrontAt x.settings t f.sweep.base f.sweep.price d (front_at f.sweep d)) n k in
      subst (λ z. IsFrontAt net.settings t base z d (front_at f.sweep d)) (price-is base price h f) (subst (λ z. IsFrontAt net.settings t z f.sweep.price d (front_at f.sweep d)) f.own one)

  pub fronts-are : AreFronts net.settings t (front_among sweeps)
  fronts-are base price d h legal =
      let f = sweep-of base price h in
      subst (IsFrontAt net.settings t base price d) (sym (f.fronts d)) (front-is base price d h legal f)

  abbrev all : List PricedPairing
  all = flat_map home_of sweeps

  -- what comes home is an entry at home
  entry-out : (p : PricedPairing) → Member all p → (v : PairingVector) × IsHomeEntry net.settings t (front_among sweeps) p.base v p.walk × (p ≡ priced net.settings.trip_rig p.base v p.walk)
  entry-out p m =
      let k = Member-flat_map_out home_of sweeps p m in
      let b = k.0 in
      let h = home-out t b (over-of b k.1).built (over-of b k.1).duties p k.2 in
      let n = net-of b k.1 in
      let legal = subst (λ (x : Net). IsDuty x.settings (flights_of t) h.duty) n h.legal in
      let one : IsFrontAt net.settings t b.base b.price h.duty (front_at b h.duty) = subst (λ (x : Net). IsFrontAt x.settings t b.base b.price h.duty (front_at b h.duty)) n (shows-of b k.1 h.duty h.legal) in
      let held = same-front net.settings t b.base b.price h.duty (front_at b h.duty) (front_among sweeps b.base h.duty) one (fronts-are b.base b.price h.duty (based-of b k.1) legal) h.vector h.walk h.held in
      let base : p.base ≡ b.base = ap (λ (q : PricedPairing). q.base) h.is in
      let walk : p.walk ≡ h.walk = ap (λ (q : PricedPairing). q.walk) h.is in
      let home : IsHomeEntry net.settings t (front_among sweeps) b.base h.vector h.walk = record { price = b.price; based = based-of b k.1; duty = h.duty; legal = legal; home = h.home; held = held } in (
        h.vector,
        subst (λ w. IsHomeEntry net.settings t (front_among sweeps) p.base h.vector w) (sym walk) (subst (λ z. IsHomeEntry net.settings t (front_among sweeps) z h.vector h.walk) (sym base) home),
        h.is ∙ (ap (λ (x : Net). priced x.settings.trip_rig b.base h.vector h.walk) n ∙ (λ i. priced net.settings.trip_rig (sym base i) h.vector (sym walk i))),
      )

  -- and each entry at home comes home
  entry-in : (base : List ℕ) (v : PairingVector) (w : List (List Leg)) → IsHomeEntry net.settings t (front_among sweeps) base v w → Member all (priced net.settings.trip_rig base v w)
  entry-in base v w h =
      let f = sweep-of base h.price h.based in
      let b = f.sweep in
      let n = net-of b f.among in
      let legal = subst (λ (x : Net). IsDuty x.settings (flights_of t) h.duty) (sym n) h.legal in
      let held = subst (λ (es : List (PairingVector × List (List Leg))). Member es (v, w)) (f.fronts h.duty) h.held in
      let m = home-in t b (over-of b f.among).built (over-of b f.among).duties h.duty legal (h.home ∙ sym f.own) v w held in
      let k = Member-flat_map_in home_of sweeps b (priced b.net.settings.trip_rig b.base v w) f.among m in
      subst (Member all) ((λ i. priced (n i).settings.trip_rig (f.own i) v w)) k

  best-of : (o : Option PricedPairing) → least_of None all ≡ o → IsBest net.settings t o
  best-of None e = no-entry net.settings t (front_among sweeps) over.checked over.sound fronts-are (λ base v w h. none-least all e _ (entry-in base v w h))
  best-of (Some r) e =
      let k = some-least all r e in
      let h = entry-out r k.0 in
      let p = entry-pairing net.settings t (front_among sweeps) fronts-are r.base h.0 r.walk h.1 in
      let same : p.0 ≡ r = (λ i. record { base = p.2 i; walk = p.3 i; cost = p.4 i; pay = p.5 i; away = p.6 i }) ∙ sym h.2 in
      least-entry net.settings t (front_among sweeps) r over.checked over.sound fronts-are (subst (IsCleanPairing net.settings t) same p.1) (λ base v w m. k.1 (priced net.settings.trip_rig base v w) (entry-in base v w m))

  pub least-is-best : IsBest net.settings t (least_of None all)
  least-is-best = best-of (least_of None all) refl

pub base-keys : (ss : List BaseSweep) → map (λ (b : BaseSweep). b.base) ss ≡ map (λ (e : List ℕ × ℤ). e.0) (map (λ (b : BaseSweep). (b.base, b.price)) ss)
base-keys [] = refl
base-keys (b ∷ ss) = ap (λ l. b.base ∷ l) (base-keys ss)
