-- The layers of duties, one departure after another in order of report.
use Rattle.std.proofs.Common.{◌≡◌, ◌<◌, ◌≤◌, ◌+◌, ◌∷◌, ◌⊎◌, [], inl, inr, ℕ, zero, suc, ℤ, pos, ◌≤ℤ◌, true, false, List, Option, Some, length, get_or, refl, sym, ap, subst, ◌∙◌, arith, ⊎_elim}
use Rattle.std.specs.Prelude.{slice_get, ◌==◌, ◌-ℤ◌}
use Rattle.std.specs.Cmp.{int_cmp_total, signed_Decides, tied_itself}
use Rattle.std.specs.List.{AllByRecursion, IsDistinct, range_with_len}
use Rattle.std.specs.Ordering.{eq_by_cmp, int_cmp, int_eq, ordering_then}
use Rattle.std.specs.declared.cmp.Ordering.{Ordering}
use Rattle.std.specs.declared.cmp.Ordering.TheVariants.{Equal, Less}
use Rattle.std.proofs.lemmas.Bool.{and_from, and_parts}
use Rattle.std.proofs.lemmas.Bool.Decides.{eqb_tells}
use Rattle.std.proofs.lemmas.Int.{ints}
use Rattle.std.proofs.lemmas.List.FromFn.{get_or-range_with_len, length-range_with_len}
use Rattle.std.proofs.lemmas.Map.Keys.{IsDistinct-IsPermutation, IsDistinct-from_apart, IsDistinct-head, IsDistinct-tail}
use Rattle.crew_flights.specs.Codes.{code_cmp}
use Rattle.crew_pairing.proofs.Shuffled.{Member-shuffled}
use Rattle.crew_pairing.proofs.Tree.{slice_get-within}
use Rattle.crew_pairing.specs.Events.{arrival_of, departure_of, may_wait}
use Rattle.crew_pairing.specs.Pairings.{may_stand_after}
use Rattle.crew_pairing.specs.declared.duty.Duty.{Duty}
use Rattle.crew_pairing.specs.declared.events.Arrival.{Arrival}
use Rattle.crew_pairing.specs.declared.events.Departure.{Departure}
use Rattle.crew_resource.specs.Members.{Member}
use Rattle.crew_resource.proofs.Members.{Member-at, Member-get}
use Rattle.crew_net.specs.Events.{AreEvents, IsWindow, arrival_cmp, departure_cmp, leaves_at}
use Rattle.crew_net.specs.Layers.{AreLayers}
use Rattle.crew_net.specs.Machinery.Raised.{IsRaised}
use Rattle.crew_net.specs.Nets.{AreArrivalPlaces, AreByReport, Net}
use Rattle.crew_net.specs.Ranks.{ranks_where}
use Rattle.crew_net.specs.declared.window.Window.{Window}
use Rattle.crew_net.proofs.ArrivalPlaces.{ranks-in, ranks-out}
use Rattle.crew_net.proofs.EventOrder.{code-tie}
use Rattle.crew_net.proofs.Geometry.{code-equal, equal-code, rests-parts}
use Rattle.crew_net.proofs.Longest.{IsNextLayer, is-layer, stands}
use Rattle.crew_net.proofs.Segments.{le-or-lt}

-- what the network shows of its events, in order of time
pub record IsInTime (net : Net) : Type 0 where
  pub departs : AreEvents departure_of departure_cmp net.duties net.departures
  pub arrives : AreEvents arrival_of arrival_cmp net.duties net.arrivals
  pub ordered : AreByReport net.departures net.by_report
  pub forward : (d : Duty) → Member net.duties d → d.report ≤ℤ d.release

-- the duty leaves at the departure of a place in order of report
abbrev pub IsAt : Net → ℕ → Duty → Type 0
IsAt net i d = (p : ℕ) × (slice_get net.by_report i ≡ Some p) × (slice_get net.departures p ≡ Some (departure_of d))

abbrev pub IsDone : Net → ℕ → Duty → Type 0
IsDone net count d = (i : ℕ) × (i < count) × IsAt net i d

-- a done duty that arrives there has one less
abbrev pub IsLed : Net → ℕ → List ℕ → ℕ → ℕ → Type 0
IsLed net count layers k n = (rank : ℕ) × (d : Duty) × (slice_get net.duties rank ≡ Some d) × IsDone net count d
    × (slice_get net.arrivals k ≡ Some (arrival_of d)) × (n ≡ get_or layers rank 0 + 1)

-- the duties of so many departures have their layers, and each arrival has that to which they lead
pub record AreLaid (net : Net) (count : ℕ) (layers next : List ℕ) : Type 0 where
  pub long : length layers ≡ length net.duties
  pub next_long : length next ≡ length net.arrivals
  pub rising : (a b : ℕ) (d e : Duty) → slice_get net.duties a ≡ Some d → slice_get net.duties b ≡ Some e → may_stand_after net.settings d e ≡ true → IsDone net count e → get_or layers a 0 < get_or layers b 0
  pub least : (b : ℕ) (e : Duty) → slice_get net.duties b ≡ Some e → IsDone net count e → (get_or layers b 0 ≡ 0) ⊎ IsNextLayer net layers e (get_or layers b 0)
  pub above : (b : ℕ) (e : Duty) (k : ℕ) → slice_get net.duties b ≡ Some e → IsDone net count e → slice_get net.arrivals k ≡ Some (arrival_of e) → get_or layers b 0 < get_or next k 0
  pub tied : (k : ℕ) → (get_or next k 0 ≡ 0) ⊎ IsLed net count layers k (get_or next k 0)
  pub few : (k : ℕ) → get_or next k 0 ≤ count

some-is : {X : Type 0} (o : Option X) (a b : X) → o ≡ Some a → o ≡ Some b → a ≡ b
some-is o a b p q = let e : Some a ≡ Some b = sym p ∙ q in (cc)

-- events that rise stand in one place each
one-place : {E : Type 0} (cmp : E → E → Ordering) (itself : (e : E) → cmp e e ≡ Less → ⊥) (events : List E)
    → ((i j : ℕ) (a b : E) → i < j → slice_get events i ≡ Some a → slice_get events j ≡ Some b → cmp a b ≡ Less)
    → (i j : ℕ) (e : E) → slice_get events i ≡ Some e → slice_get events j ≡ Some e → i ≡ j
one-place cmp itself events rising i j e p q = elim (le-or-lt i j) [
  | inl l ↦ elim (le-or-lt j i) [
    | inl m ↦ omega (arith, l, m)
    | inr m ↦ absurd (itself e (rising i j e e m p q))
  ]
  | inr l ↦ absurd (itself e (rising j i e e l q p))
]

tie-not-less : (c d : Ordering) → c ≡ Equal → d ≡ Equal → ordering_then c d ≡ Less → ⊥
tie-not-less c d e f h = let z : ordering_then Equal Equal ≡ Less = subst (λ (o : Ordering). ordering_then Equal o ≡ Less) f (subst (λ (o : Ordering). ordering_then o d ≡ Less) e h) in let q : ⊥ = (cc) in q

arrival-itself : (x : Arrival) → arrival_cmp x x ≡ Less → ⊥
arrival-itself x h = tie-not-less (code_cmp x.airport x.airport) (int_cmp x.release x.release) (code-tie x.airport x.airport refl) (tied_itself int_cmp_total x.release) h

departure-itself : (g : Departure) → departure_cmp g g ≡ Less → ⊥
departure-itself g h = tie-not-less (code_cmp g.airport g.airport) (int_cmp g.report g.report) (code-tie g.airport g.airport refl) (tied_itself int_cmp_total g.report) h

-- numbers in order, and in any other, are distinct
all-at : (P : ℕ → Type 0) (xs : List ℕ) → AllByRecursion P xs → (n : ℕ) → Member xs n → P n
all-at P [] h n m = absurd m
all-at P (x ∷ xs) h n (inl e) = subst P e h.0
all-at P (x ∷ xs) h n (inr m) = all-at P xs h.1 n m

not-itself : (n : ℕ) → (n == n) ≡ false → ⊥
not-itself n h = grind (arith, h)

not-twice : (xs : List ℕ) → IsDistinct ◌==◌ xs → (i j n : ℕ) → i < j → slice_get xs i ≡ Some n → slice_get xs j ≡ Some n → ⊥
not-twice [] h i j n l p q = absurd (let z : ⊥ = (cc) in z)
not-twice (x ∷ xs) h zero zero n l p q = absurd (omega (arith, l))
not-twice (x ∷ xs) h zero (suc j) n l p q =
    let same : x ≡ n = (cc) in
    let apart = all-at (λ (m : ℕ). (x == m) ≡ false) xs (IsDistinct-head ◌==◌ x xs h) n (Member-at xs j n q) in
    not-itself n (subst (λ (m : ℕ). (m == n) ≡ false) same apart)
not-twice (x ∷ xs) h (suc i) zero n l p q = absurd (omega (arith, l))
not-twice (x ∷ xs) h (suc i) (suc j) n l p q = not-twice xs (IsDistinct-tail ◌==◌ x xs h) i j n (omega (arith, l)) p q

range-apart : (count : ℕ) → IsDistinct ◌==◌ (range_with_len 0 count)
range-apart count = IsDistinct-from_apart ◌==◌ (range_with_len 0 count) (λ i j d a b.
    let long = length-range_with_len 0 count in
    let p = get_or-range_with_len 0 count i d (omega (arith, a, b, long)) in
    let q = get_or-range_with_len 0 count j d (omega (arith, b, long)) in
    different (get_or (range_with_len 0 count) i d) (get_or (range_with_len 0 count) j d) (omega (arith, a, p, q)))
  where
    different : (m n : ℕ) → m < n → (m == n) ≡ false
    different m n h = grind (arith, h)

flips : (x y : ℕ) → (x == y) ≡ (y == x)
flips x y = grind arith

-- a duty leaves at its own departure, and at no other
own-departure : (g : Departure) (d : Duty) → leaves_at g d ≡ true → departure_of d ≡ g
own-departure g d h =
    let p = and_parts (eq_by_cmp code_cmp g.airport d.from) (int_eq g.report d.report) h in
    let airport : g.airport ≡ d.from = code-equal g.airport d.from p.0 in
    let report : g.report ≡ d.report = (signed_Decides g.report d.report).0 p.1 in
    sym (λ i. record { airport = airport i; report = report i })

leaves : (g : Departure) (d : Duty) → departure_of d ≡ g → leaves_at g d ≡ true
leaves g d e = and_from _ _ (equal-code g.airport d.from (ap (λ (h : Departure). h.airport) (sym e))) ((signed_Decides g.report d.report).1 (ap (λ (h : Departure). h.report) (sym e)))

-- what may stand just before reports earlier
earlier : (m : ℕ) (from to : ℤ) (release : ℤ) → from ≤ℤ release → pos 600 ≤ℤ (to -ℤ release) → to ≤ℤ from → ⊥
earlier m from to release a b c = omega (arith, ints, a, b, c)

module _ (net : Net) (timed : IsInTime net) where
  order-apart : IsDistinct ◌==◌ net.by_report
  order-apart = IsDistinct-IsPermutation ◌==◌ flips (range_with_len 0 (length net.departures)) net.by_report timed.ordered.all (range-apart (length net.departures))

  -- each duty leaves at a departure
  pub leaves-once : (d : Duty) → Member net.duties d → (i : ℕ) × IsAt net i d
  leaves-once d m =
      let k = stands net.departures (departure_of d) (timed.departs.every d m) in
      let count = length net.departures in
      let within = slice_get-within net.departures k.0 (departure_of d) k.1 in
      let long = length-range_with_len 0 count in
      let here : get_or (range_with_len 0 count) k.0 0 ≡ k.0 = (let e = get_or-range_with_len 0 count k.0 0 within in omega (arith, e)) in
      let home = subst (Member (range_with_len 0 count)) here (Member-get (range_with_len 0 count) k.0 0 (omega (arith, within, long))) in
      let i = stands net.by_report k.0 (Member-shuffled (range_with_len 0 count) net.by_report k.0 timed.ordered.all home) in
      (i.0, (k.0, i.1, k.1))

  -- what may stand just before a duty leaves at an earlier departure
  earlier-done : (j : ℕ) (d e : Duty) → IsAt net j e → Member net.duties d → may_stand_after net.settings d e ≡ true → IsDone net j d
  earlier-done j d e at m may =
      let own = leaves-once d m in
      elim (le-or-lt j own.0) [
        | inl l ↦ absurd (
            let rest = (rests-parts net.settings.max_rest d.to e.from d.release e.report may).1 in
            let rise = timed.ordered.rising j own.0 at.0 own.1.0 (departure_of e) (departure_of d) l at.1 own.1.1 at.2 own.1.2 in
            earlier 0 d.report e.report d.release (timed.forward d m) rest rise)
        | inr l ↦ (own.0, l, own.1)
      ]

  done-once : (i : ℕ) (d : Duty) → IsDone net i d → IsAt net i d → ⊥
  done-once i d done at =
      let same : done.2.0 ≡ at.0 = one-place departure_cmp departure-itself net.departures timed.departs.rising done.2.0 at.0 (departure_of d) done.2.2 at.2 in
      not-twice net.by_report order-apart done.0 i at.0 done.1 (done.2.1 ∙ ap (λ (n : ℕ). Some n) same) at.1

  done-later : (i j : ℕ) (d : Duty) → i ≤ j → IsDone net i d → IsDone net j d
  done-later i j d l done = let b = done.1 in (done.0, omega (arith, l, b), done.2)

  -- the departure at a place in order of report, and what it may wait on
  module _ (i p : ℕ) (g : Departure) (at : slice_get net.by_report i ≡ Some p) (here : slice_get net.departures p ≡ Some g)
      (w : Window) (window : IsWindow (λ x. may_wait net.settings x g) net.arrivals w)
      (layers next : List ℕ) (laid : AreLaid net i layers next) (layer : ℕ)
      (most : (k : ℕ) → w.from ≤ k → k < w.end → get_or next k 0 ≤ layer)
      (tied : (layer ≡ 0) ⊎ ((k : ℕ) × (w.from ≤ k) × (k < w.end) × (get_or next k 0 ≡ layer))) where
    pub layer-few : layer ≤ i
    layer-few = elim tied [
      | inl z ↦ omega (arith, z)
      | inr t ↦ (let few = laid.few t.0 in let e = t.3 in omega (arith, few, e))
    ]

    leaves-here : (d : Duty) → departure_of d ≡ g → IsAt net i d
    leaves-here d e = (p, at, here ∙ ap (λ (h : Departure). Some h) (sym e))

    -- done by now: before, or just now
    split : (d : Duty) → IsDone net (i + 1) d → IsDone net i d ⊎ (departure_of d ≡ g)
    split d done = elim (eqb_tells done.0 i) [
      | inl t ↦ inr (
          let place : done.2.0 ≡ p = some-is (slice_get net.by_report i) done.2.0 p (ap (slice_get net.by_report) (sym t.1) ∙ done.2.1) at in
          some-is (slice_get net.departures p) (departure_of d) g (ap (slice_get net.departures) (sym place) ∙ done.2.2) here)
      | inr f ↦ inl (done.0, (let b = done.1 in let ne = f.1 in omega (arith, b, ne)), done.2)
    ]

    before : (d e : Duty) → Member net.duties d → may_stand_after net.settings d e ≡ true → IsDone net i e ⊎ (departure_of e ≡ g) → IsDone net i d
    before d e m may s = elim s [
      | inl old ↦ done-later old.0 i d (let b = old.1 in omega (arith, b)) (earlier-done old.0 d e old.2 m may)
      | inr new ↦ earlier-done i d e (leaves-here e new) m may
    ]

    waits : (d e : Duty) → departure_of e ≡ g → may_stand_after net.settings d e ≡ true → may_wait net.settings (arrival_of d) g ≡ true
    waits d e own may = subst (λ (h : Departure). may_wait net.settings (arrival_of d) h ≡ true) own may

    follows : (d e : Duty) → departure_of e ≡ g → may_wait net.settings (arrival_of d) g ≡ true → may_stand_after net.settings d e ≡ true
    follows d e own may = subst (λ (h : Departure). may_wait net.settings (arrival_of d) h ≡ true) (sym own) may

    -- what leaves there gets its layer, and leads one further
    module _ (places : List ℕ) (reach : AreArrivalPlaces net places) (ranks : List ℕ) (ranks-are : ranks ≡ ranks_where (leaves_at g) net.duties)
        (layers' next' : List ℕ) (long : length layers' ≡ length layers)
        (there : (rank : ℕ) → Member ranks rank → get_or layers' rank 0 ≡ layer)
        (elsewhere : (rank : ℕ) → (Member ranks rank → ⊥) → get_or layers' rank 0 ≡ get_or layers rank 0)
        (next-long : length next' ≡ length next)
        (kept : (k : ℕ) → get_or next k 0 ≤ get_or next' k 0)
        (raised : (rank : ℕ) → Member ranks rank → layer + 1 ≤ get_or next' (get_or places rank 0) 0)
        (from : (k : ℕ) → (get_or next' k 0 ≡ get_or next k 0) ⊎ IsRaised ranks places (layer + 1) k (get_or next' k 0)) where
      is-rank : (a : ℕ) (d : Duty) → slice_get net.duties a ≡ Some d → departure_of d ≡ g → Member ranks a
      is-rank a d known own = subst (λ (rs : List ℕ). Member rs a) (sym ranks-are) (ranks-in (leaves_at g) net.duties a d known (leaves g d own))

      rank-is : (a : ℕ) → Member ranks a → (d : Duty) × (slice_get net.duties a ≡ Some d) × (departure_of d ≡ g)
      rank-is a m =
          let x = ranks-out (leaves_at g) net.duties a (subst (λ (rs : List ℕ). Member rs a) ranks-are m) in
          (x.0, x.1, own-departure g x.0 x.2)

      new : (a : ℕ) (d : Duty) → slice_get net.duties a ≡ Some d → departure_of d ≡ g → get_or layers' a 0 ≡ layer
      new a d known own = there a (is-rank a d known own)

      old : (a : ℕ) (d : Duty) → slice_get net.duties a ≡ Some d → IsDone net i d → get_or layers' a 0 ≡ get_or layers a 0
      old a d known done = elsewhere a (λ m.
          let x = rank-is a m in
          let same : x.0 ≡ d = some-is (slice_get net.duties a) x.0 d x.1 known in
          done-once i d done (leaves-here d (ap departure_of (sym same) ∙ x.2)))

      rising : (a b : ℕ) (d e : Duty) → slice_get net.duties a ≡ Some d → slice_get net.duties b ≡ Some e → may_stand_after net.settings d e ≡ true → IsDone net (i + 1) e → get_or layers' a 0 < get_or layers' b 0
      rising a b d e da eb may done =
          let m = Member-at net.duties a d da in
          let s = split e done in
          let first = before d e m may s in
          let low = old a d da first in
          elim s [
            | inl was ↦ (let high = old b e eb was in let rise = laid.rising a b d e da eb may was in omega (arith, low, high, rise))
            | inr own ↦ (
                let high = new b e eb own in
                let k = stands net.arrivals (arrival_of d) (timed.arrives.every d m) in
                let inside = (window.exact k.0 (arrival_of d) k.1).0 (waits d e own may) in
                let rise = laid.above a d k.0 da first k.1 in
                let top = most k.0 inside.0 inside.1 in
                omega (arith, low, high, rise, top))
          ]

      next-layer : (e : Duty) (n n' : ℕ) → n' ≡ n → IsDone net i e ⊎ (departure_of e ≡ g) → IsNextLayer net layers e n → IsNextLayer net layers' e n'
      next-layer e n n' same s t =
          let d = t.1 in
          let first = before d e (Member-at net.duties t.0 d t.2) t.3 s in
          (t.0, d, t.2, t.3, same ∙ (t.4 ∙ ap (λ (m : ℕ). m + 1) (sym (old t.0 d t.2 first))))

      abbrev Least : ℕ → Duty → Type 0
      Least b e = (get_or layers' b 0 ≡ 0) ⊎ IsNextLayer net layers' e (get_or layers' b 0)

      least-new : (b : ℕ) (e : Duty) → slice_get net.duties b ≡ Some e → departure_of e ≡ g → Least b e
      least-new b e eb own =
          let high = new b e eb own in
          ⊎_elim {C = Least b e} (λ z. inl (high ∙ z))
          (λ t. ⊎_elim {C = Least b e} (λ z. inl (high ∙ (sym t.3 ∙ z)))
          (λ led.
          let may = follows led.1 e own ((window.exact t.0 (arrival_of led.1) led.4).1 (t.1, t.2)) in
          inr (next-layer e layer (get_or layers' b 0) high (inr own) (led.0, led.1, led.2, may, sym t.3 ∙ led.5)))
          (laid.tied t.0))
          tied

      least : (b : ℕ) (e : Duty) → slice_get net.duties b ≡ Some e → IsDone net (i + 1) e → Least b e
      least b e eb done = ⊎_elim {C = Least b e}
          (λ was.
          let same = old b e eb was in
          ⊎_elim {C = Least b e} (λ z. inl (same ∙ z)) (λ t. inr (next-layer e (get_or layers b 0) (get_or layers' b 0) same (inl was) t)) (laid.least b e eb was))
          (λ own. least-new b e eb own)
          (split e done)

      above : (b : ℕ) (e : Duty) (k : ℕ) → slice_get net.duties b ≡ Some e → IsDone net (i + 1) e → slice_get net.arrivals k ≡ Some (arrival_of e) → get_or layers' b 0 < get_or next' k 0
      above b e k eb done ak = elim (split e done) [
        | inl was ↦ (let same = old b e eb was in let rise = laid.above b e k eb was ak in let keep = kept k in omega (arith, same, rise, keep))
        | inr own ↦ (
            let same = new b e eb own in
            let place : get_or places b 0 ≡ k = one-place arrival_cmp arrival-itself net.arrivals timed.arrives.rising (get_or places b 0) k (arrival_of e) (reach.exact b e eb) ak in
            let rise = subst (λ (n : ℕ). layer + 1 ≤ get_or next' n 0) place (raised b (is-rank b e eb own)) in
            omega (arith, same, rise))
      ]

      abbrev Tied : ℕ → Type 0
      Tied k = (get_or next' k 0 ≡ 0) ⊎ IsLed net (i + 1) layers' k (get_or next' k 0)

      tied-more : (k : ℕ) → Tied k
      tied-more k = ⊎_elim {C = Tied k}
          (λ same. ⊎_elim {C = Tied k} (λ z. inl (same ∙ z))
          (λ led. inr (led.0, led.1, led.2, done-later i (i + 1) led.1 (omega arith) led.3, led.4, same ∙ (led.5 ∙ ap (λ (n : ℕ). n + 1) (sym (old led.0 led.1 led.2 led.3)))))
          (laid.tied k))
          (λ up.
          let x = rank-is up.1 up.2 in
          inr (up.1, x.0, x.1, (i, omega arith, leaves-here x.0 x.2), subst (λ (n : ℕ). slice_get net.arrivals n ≡ Some (arrival_of x.0)) up.3 (reach.exact up.1 x.0 x.1), up.0 ∙ ap (λ (n : ℕ). n + 1) (sym (new up.1 x.0 x.1 x.2))))
          (from k)

      few : (k : ℕ) → get_or next' k 0 ≤ i + 1
      few k = elim (from k) [
        | inl same ↦ (let f = laid.few k in omega (arith, same, f))
        | inr up ↦ (let e = up.0 in let f = layer-few in omega (arith, e, f))
      ]

      pub laid-more : AreLaid net (i + 1) layers' next'
      laid-more = record {
        long = long ∙ laid.long;
        next_long = next-long ∙ laid.next_long;
        rising = rising;
        least = least;
        above = above;
        tied = tied-more;
        few = few;
      }

  -- after all departures
  pub all-laid : (count : ℕ) (layers next : List ℕ) → length net.by_report ≤ count → AreLaid net count layers next → AreLayers net layers
  all-laid count layers next all laid =
      let done : (b : ℕ) (e : Duty) → slice_get net.duties b ≡ Some e → IsDone net count e = λ b e eb.
      (let own = leaves-once e (Member-at net.duties b e eb) in
      let within = slice_get-within net.by_report own.0 own.1.0 own.1.1 in
      (own.0, omega (arith, within, all), own.1)) in
      let rising = λ (a b : ℕ) (d e : Duty) (da : slice_get net.duties a ≡ Some d) (eb : slice_get net.duties b ≡ Some e) (may : may_stand_after net.settings d e ≡ true). laid.rising a b d e da eb may (done b e eb) in
      let least = λ (b : ℕ) (e : Duty) (eb : slice_get net.duties b ≡ Some e). laid.least b e eb (done b e eb) in
      record {
        long = laid.long;
        exact = is-layer net layers rising least;
        rising = rising;
      }

-- before any departure
pub none-laid : (net : Net) (layers next : List ℕ) → length layers ≡ length net.duties → length next ≡ length net.arrivals → ((k : ℕ) → get_or next k 0 ≡ 0) → AreLaid net 0 layers next
none-laid net layers next long next-long zeros = record {
  long = long;
  next_long = next-long;
  rising = λ a b d e da eb may done. absurd (let z = done.1 in omega (arith, z));
  least = λ b e eb done. absurd (let z = done.1 in omega (arith, z));
  above = λ b e k eb done ak. absurd (let z = done.1 in omega (arith, z));
  tied = λ k. inl (zeros k);
  few = λ k. (let z = zeros k in omega (arith, z));
}
