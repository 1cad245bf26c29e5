-- The values of a pass's labels, by induction on the lengths of their walks.
use Rattle.std.proofs.Common.{◌≡◌, ◌∙◌, ◌≤◌, ◌+◌, ℕ, zero, suc, Bool, true, false, cond, List, [], ◌∷◌, ◌++◌, None, Option, Some, inl, inr, length, sym, ap, subst, ⊎_elim, arith, length-append}
use Rattle.crew_forgetful.specs.Sweeps.{IsCoveredPass, Schedule, network_of}
use Rattle.crew_resource.proofs.Members.{Member-flat_map_out}
use Rattle.crew_resource.specs.Events.{labelled}
use Rattle.crew_resource.specs.Members.{Member}

-- a value that boards, with its walk
labelled-is : {V W : Type 0} (o : Option V) (w : W) (v : V) (y : W) → Member (labelled o w) (v, y) → (o ≡ Some v) × (w ≡ y)
labelled-is None w v y m = absurd m
labelled-is {V} {W} (Some u) w v y (inl q) = (ap (λ (z : V × W). Some z.0) q, ap (λ (z : V × W). z.1) q)
labelled-is (Some u) w v y (inr m) = absurd m

idle-is : {V : Type 0} (b : Bool) (u v : V) → cond b (Some u) None ≡ Some v → u ≡ v
idle-is true u v e = (cc)
idle-is false u v e = absurd (let q : ⊥ = (cc) in q)

-- what holds of the empty value at each departure, stays while a value waits, and of a value that
-- boards gives what holds of the next, holds of all
module _ {V I X G K : Type 0} (s : Schedule I X G K) (leaves : I → G) (arrives : I → X) (idle : G → V) (wait : V → X → G → V) (board : V → I → Option V) (le same : V → V → Bool) (wle : List K → List K → Bool)
    (pools : G → List (V × List K)) (arrivals : G → X → List (V × List K)) (fronts : I → List (V × List K)) (covered : IsCoveredPass (network_of s leaves arrives idle wait board) le same wle pools arrivals fronts)
    (Stands : G → V → ℕ → Type 0) (Has : V → ℕ → Type 0) (idles : (g : G) → Stands g (idle g) 0) (waits : (g : G) (x : X) (u : V) (n : ℕ) → Has u n → Stands g (wait u x g) n)
    (boards : (d : I) (u v : V) (n : ℕ) → Stands (leaves d) u n → board u d ≡ Some v → Has v (n + 1)) where
  longer : (k : List K) (d : I) (w : List K) → k ++ s.key d ∷ [] ≡ w → length w ≡ length k + 1
  longer k d w e = sym (ap length e) ∙ length-append k (s.key d ∷ [])

  -- at a departure, of walks shorter than a bound, where the fronts have it below the bound
  stands : (m : ℕ) → ((d : I) (v : V) (w : List K) → Member s.known d → Member (fronts d) (v, w) → length w ≤ m → Has v (length w))
      → (d : I) (v : V) (w : List K) → Member s.known d → Member (pools (leaves d)) (v, w) → length w ≤ m → Stands (leaves d) v (length w)
  stands m below d v w known here short =
      ⊎_elim {C = Stands (leaves d) v (length w)}
      (λ e.
      let g = leaves d in
      let value = idle-is (s.at_base g) (idle g) v e.1 in
      subst (λ (y : List K). Stands g v (length y)) (sym e.0) (subst (λ z. Stands g z 0) value (idles g)))
      (λ e.
      let x = e.0 in
      let u = e.1 in
      let from = (covered.arrived d x known e.2).part u w e.3 in
      subst (λ z. Stands (leaves d) z (length w)) (sym e.4) (waits (leaves d) x u (length w) (below from.0 u w from.1 from.3 short)))
      ((covered.pooled d known).part v w here)

  has-by : (m : ℕ) → ((d : I) (v : V) (w : List K) → Member s.known d → Member (fronts d) (v, w) → length w ≤ m → Has v (length w))
      → (d : I) (v : V) (w : List K) → Member s.known d → Member (fronts d) (v, w) → length w ≤ m + 1 → Has v (length w)
  has-by m below d v w known here short =
      let among = (covered.filtered d known).among v w here in
      let from = Member-flat_map_out (λ (e : V × List K). labelled (board e.0 d) (e.1 ++ s.key d ∷ [])) (pools (leaves d)) (v, w) among in
      let e = from.0 in
      let out = labelled-is (board e.0 d) (e.1 ++ s.key d ∷ []) v w from.2 in
      let long = longer e.1 d w out.1 in
      subst (Has v) (sym long) (boards d e.0 v (length e.1) (stands m below d e.0 e.1 known from.1 (omega (arith, short, long))) out.0)

  none-by : (d : I) (v : V) (w : List K) → Member s.known d → Member (fronts d) (v, w) → length w ≤ 0 → Has v (length w)
  none-by d v w known here short =
      let among = (covered.filtered d known).among v w here in
      let from = Member-flat_map_out (λ (e : V × List K). labelled (board e.0 d) (e.1 ++ s.key d ∷ [])) (pools (leaves d)) (v, w) among in
      let e = from.0 in
      let out = labelled-is (board e.0 d) (e.1 ++ s.key d ∷ []) v w from.2 in
      let long = longer e.1 d w out.1 in
      absurd (omega (arith, short, long))

  has-below : (m : ℕ) (d : I) (v : V) (w : List K) → Member s.known d → Member (fronts d) (v, w) → length w ≤ m → Has v (length w)
  has-below zero d v w known here short = none-by d v w known here short
  has-below (suc m) d v w known here short = has-by m (has-below m) d v w known here (omega (arith, short))

  pub has-all : (d : I) (v : V) (w : List K) → Member s.known d → Member (fronts d) (v, w) → Has v (length w)
  has-all d v w known here = has-below (length w) d v w known here (omega arith)
