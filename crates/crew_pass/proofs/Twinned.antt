-- Twins: lists of them that are made one by one, and what a twin tells.
use Rattle.std.proofs.Common.{◌≡◌, ◌∙◌, ◌+◌, ◌<◌, ◌≤◌, ◌++◌, ◌⊎◌, ℕ, Bool, true, List, [], ◌∷◌, Some, length, get_or, inl, inr, refl, ap, sym, subst, ⊎_elim, arith, length-append}
use Rattle.std.specs.Prelude.{slice_get}
use Rattle.std.specs.FinMap.{int_cmp-IsAntisymmetric}
use Rattle.std.specs.Ordering.{int_cmp, is_eq, ordering_then}
use Rattle.std.specs.declared.cmp.Ordering.{Ordering}
use Rattle.std.specs.declared.cmp.Ordering.TheVariants.{Equal, Greater, Less}
use Rattle.crew_flights.specs.Codes.{code_cmp}
use Rattle.crew_labelling.specs.Terms.{AreNumbers}
use Rattle.crew_net.specs.Events.{arrives_at, leaves_at}
use Rattle.crew_net.specs.Nets.{Net}
use Rattle.crew_net.specs.Positions.{ArePositions, in_order}
use Rattle.crew_net.specs.Ranks.{ranks_where}
use Rattle.crew_net.proofs.ArrivalPlaces.{ranks-out}
use Rattle.crew_net.proofs.Geometry.{code-equal}
use Rattle.crew_net.proofs.Numbers.{get-within, same-departure}
use Rattle.crew_net.proofs.Orders.{in-order-of, place-within}
use Rattle.crew_net.proofs.Slices.{at-within, get-at, member-got, some-same, stands}
use Rattle.crew_numbers.proofs.Gets.{earlier-or-same, none-below, pushed-cases}
use Rattle.crew_pairing.specs.Events.{departure_of}
use Rattle.crew_pairing.specs.declared.duty.Duty.{Duty}
use Rattle.crew_pairing.specs.declared.events.Arrival.{Arrival}
use Rattle.crew_pairing.specs.declared.events.Departure.{Departure}
use Rattle.crew_resource.specs.Members.{Member}
use Rattle.crew_pass.specs.Machinery.Passing.{IsCharted}
use Rattle.crew_pass.specs.Machinery.Twins.{AreFed, ArePaired, AreTwinsByNumber, AreTwinsIn, IsTwinByNumber, IsTwin}

-- the first so many, each as it should be at its place
pub record AreSoFar {X : Type 0} (P : ℕ → X → Type 0) (n : ℕ) (xs : List X) : Type 0 where
  pub long : length xs ≡ n
  pub each : (i : ℕ) (x : X) → slice_get xs i ≡ Some x → P i x

module _ {X : Type 0} (P : ℕ → X → Type 0) where
  pub none-so-far : (xs : List X) → xs ≡ [] → AreSoFar P 0 xs
  none-so-far xs is = subst (AreSoFar P 0) (sym is) (record { long = refl; each = λ i x e. absurd (none-below i x e) })

  pub one-so-far : (n : ℕ) (xs more : List X) (x : X) → more ≡ xs ++ x ∷ [] → P n x → AreSoFar P n xs → AreSoFar P (n + 1) more
  one-so-far n xs more x is here so =
      let long = length-append xs (x ∷ []) in
      let before = so.long in
      subst (AreSoFar P (n + 1)) (sym is) (record {
        long = omega (arith, long, before);
        each = λ i y e.
            ⊎_elim {C = P i y}
            (λ last. subst (λ (z : X). P i z) last.1 (subst (λ (k : ℕ). P k x) (sym last.0) here))
            (λ earlier. so.each i y earlier.1)
            (pushed-cases xs x n i y before e);
      })

-- where events tie, both their parts do
both-equal : (o p : Ordering) → ordering_then o p ≡ Equal → (o ≡ Equal) × (p ≡ Equal)
both-equal Less p e = absurd (let q : ⊥ = (cc) in q)
both-equal Equal p e = (refl, e)
both-equal Greater p e = absurd (let q : ⊥ = (cc) in q)

same-code : (a b : List ℕ) → code_cmp a b ≡ Equal → a ≡ b
same-code a b e = code-equal a b (ap is_eq e)

pub tied-arrivals : (x y : Arrival) → ordering_then (code_cmp x.airport y.airport) (int_cmp x.release y.release) ≡ Equal → x ≡ y
tied-arrivals x y e =
    let p = both-equal (code_cmp x.airport y.airport) (int_cmp x.release y.release) e in
    let airport = same-code x.airport y.airport p.0 in
    let release = int_cmp-IsAntisymmetric x.release y.release p.1 in
    (λ i. record { airport = airport i; release = release i })

pub tied-departures : (g h : Departure) → ordering_then (code_cmp g.airport h.airport) (int_cmp g.report h.report) ≡ Equal → g ≡ h
tied-departures g h e =
    let p = both-equal (code_cmp g.airport h.airport) (int_cmp g.report h.report) e in
    let airport = same-code g.airport h.airport p.0 in
    let report = int_cmp-IsAntisymmetric g.report h.report p.1 in
    (λ i. record { airport = airport i; report = report i })

-- what stands at both places
pub twin-of : {X : Type 0} (here there : List X) (place other : ℕ) (x : X) → slice_get here place ≡ Some x
    → (other ≡ 4_294_967_295) ⊎ (slice_get there other ≡ Some x) → IsTwin here there place other
twin-of {X} here there place other x at found =
    ⊎_elim {C = IsTwin here there place other} (λ none. inl none) (λ e. inr (x, at, e)) found

-- what stands at a place stands at its twin
pub twin-there : {X : Type 0} (here there : List X) (place other : ℕ) → IsTwin here there place other → (other ≡ 4_294_967_295 → ⊥)
    → (x : X) → slice_get here place ≡ Some x → slice_get there other ≡ Some x
twin-there {X} here there place other twin some x at =
    ⊎_elim {C = slice_get there other ≡ Some x} (λ none. absurd (some none))
    (λ y. y.2 ∙ ap (λ (z : X). Some z) (some-same (slice_get here place) y.0 x y.1 at)) twin

-- a duty whose twin has the rank that its number tells
pub told-twin : (here there : List Duty) (numbers ranks : List ℕ) (rank told other : ℕ)
    → (told ≡ 4_294_967_295) ⊎ (slice_get ranks (get_or numbers rank 0) ≡ Some told)
    → IsTwin here there rank other → (other ≡ 4_294_967_295) ⊎ (other ≡ told) → IsTwinByNumber here there numbers ranks rank other
told-twin here there numbers ranks rank told other tells twin is =
    ⊎_elim {C = IsTwinByNumber here there numbers ranks rank other} (λ none. inl none)
    (λ same. ⊎_elim {C = IsTwinByNumber here there numbers ranks rank other} (λ none. inl (same ∙ none))
    (λ number. ⊎_elim {C = IsTwinByNumber here there numbers ranks rank other} (λ none. inl none)
    (λ d. inr (d.0, d.1, d.2, number ∙ ap (λ (k : ℕ). Some k) (sym same))) twin) tells) is

-- the first so many have these twins
abbrev pub PairedSo : List ℕ → List ℕ → List ℕ → ℕ → Type 0
PairedSo duties ranks others n = (k rank other : ℕ) → k < n → slice_get ranks k ≡ Some rank → slice_get others k ≡ Some other
    → slice_get duties rank ≡ Some other

pub none-paired : (duties ranks others : List ℕ) → PairedSo duties ranks others 0
none-paired duties ranks others k rank other l p q = absurd (omega (arith, l))

pub one-paired : (duties ranks others : List ℕ) (n : ℕ) → n < length ranks → n < length others → get_or ranks n 0 < length duties
    → get_or duties (get_or ranks n 0) 0 ≡ get_or others n 0 → PairedSo duties ranks others n → PairedSo duties ranks others (n + 1)
one-paired duties ranks others n inside within there same so k rank other l p q =
    ⊎_elim {C = slice_get duties rank ≡ Some other}
    (λ earlier. so k rank other earlier p q)
    (λ last.
    let r = some-same (slice_get ranks n) (get_or ranks n 0) rank (at-within ranks n 0 inside) (ap (slice_get ranks) (sym last) ∙ p) in
    let o = some-same (slice_get others n) (get_or others n 0) other (at-within others n 0 within) (ap (slice_get others) (sym last) ∙ q) in
    ap (slice_get duties) (sym r) ∙ (at-within duties (get_or ranks n 0) 0 there ∙ ap (λ (x : ℕ). Some x) (same ∙ o)))
    (earlier-or-same k n l)

-- the duties that arrive at a place and at its twin
pub fed-from : (net earlier : Net) (duties : List ℕ) (place other : ℕ) → IsTwin net.arrivals earlier.arrivals place other
    → (other ≡ 4_294_967_295 → ⊥) → (ranks others : List ℕ)
    → ((x : Arrival) → slice_get net.arrivals place ≡ Some x → ranks ≡ ranks_where (arrives_at x) net.duties)
    → ((x : Arrival) → slice_get earlier.arrivals other ≡ Some x → others ≡ ranks_where (arrives_at x) earlier.duties)
    → ArePaired duties ranks others → AreFed net earlier duties place other
fed-from net earlier duties place other twin some ranks others here there paired = record {
  some = some;
  paired = λ x at.
      subst (λ (rs : List ℕ). ArePaired duties rs (ranks_where (arrives_at x) earlier.duties)) (here x at)
      (subst (λ (os : List ℕ). ArePaired duties ranks os) (there x (twin-there net.arrivals earlier.arrivals place other twin some x at)) paired);
}

-- an arrival whose twin is told to be fed
abbrev pub IsFedWhere : Net → Net → List ℕ → List ℕ → ℕ → Bool → Type 0
IsFedWhere net earlier duties arrivals place fed = (other : ℕ) → slice_get arrivals place ≡ Some other → fed ≡ true → AreFed net earlier duties place other

pub fed-where : (net earlier : Net) (duties arrivals : List ℕ) (place : ℕ) (fed : Bool) → place < length arrivals
    → (fed ≡ true → AreFed net earlier duties place (get_or arrivals place 0)) → IsFedWhere net earlier duties arrivals place fed
fed-where net earlier duties arrivals place fed within is other at t =
    subst (λ (o : ℕ). AreFed net earlier duties place o) (some-same (slice_get arrivals place) (get_or arrivals place 0) other (at-within arrivals place 0 within) at) (is t)

-- the first duty that leaves at a departure tells the departure's position
pub first-leaves : (net : Net) (positions : List ℕ) → ArePositions net positions → (g : Departure) (ranks : List ℕ) → ranks ≡ ranks_where (leaves_at g) net.duties
    → (rank : ℕ) → Some rank ≡ slice_get ranks 0 → (rank < length positions) × (slice_get (in_order net) (get_or positions rank 0) ≡ Some g)
first-leaves net positions are g ranks is rank first =
    let among = subst (λ (rs : List ℕ). Member rs rank) is (member-got ranks 0 rank (sym first)) in
    let d = ranks-out (leaves_at g) net.duties rank among in
    let inside = get-within net.duties rank d.0 d.1 in
    let long = are.long in (
      omega (arith, inside, long),
      are.exact rank d.0 d.1 ∙ ap (λ (h : Departure). Some h) (sym (same-departure g (departure_of d.0) d.2)),
    )

-- the twin of a departure in order of report is that of its place
pub in-order-twin : (net earlier : Net) → IsCharted net → length earlier.departures ≤ 200_000
    → (places : List ℕ) → length places ≡ length net.departures → AreTwinsIn net.departures earlier.departures places
    → (i p j : ℕ) → slice_get net.by_report i ≡ Some p
    → (j ≡ 4_294_967_295) ⊎ ((g : Departure) × (slice_get earlier.departures (get_or places p 0) ≡ Some g) × (slice_get (in_order earlier) j ≡ Some g))
    → IsTwin (in_order net) (in_order earlier) i j
in-order-twin net earlier charted few places long twins i p j at found =
    let within = place-within net charted.departs charted.ordered i p at in
    let q = get_or places p 0 in
    let twin = twins p q (at-within places p 0 (omega (arith, within, long))) in
    let here = stands net.departures p within in
    ⊎_elim {C = IsTwin (in_order net) (in_order earlier) i j} (λ none. inl none)
    (λ g.
    let inside = get-within earlier.departures q g.0 g.1 in
    let there = twin-there net.departures earlier.departures p q twin (λ e. omega (arith, inside, few, e)) here.0 here.1 in
    let same = some-same (slice_get earlier.departures q) here.0 g.0 there g.1 in
    inr (here.0, in-order-of net charted.departs charted.ordered i p here.0 at here.1, g.2 ∙ ap (λ (h : Departure). Some h) (sym same)))
    found

-- a duty's twin has its number
pub told-duties : (net earlier : Net) (numbers before ranks twins : List ℕ) → AreNumbers earlier before ranks
    → AreTwinsByNumber net.duties earlier.duties numbers ranks twins → (rank other : ℕ) → slice_get twins rank ≡ Some other
    → (other ≡ 4_294_967_295) ⊎ ((d : Duty) × (slice_get net.duties rank ≡ Some d) × (slice_get earlier.duties other ≡ Some d) × (get_or numbers rank 0 ≡ get_or before other 0))
told-duties net earlier numbers before ranks twins are told rank other at =
    ⊎_elim {C = (other ≡ 4_294_967_295) ⊎ ((d : Duty) × (slice_get net.duties rank ≡ Some d) × (slice_get earlier.duties other ≡ Some d) × (get_or numbers rank 0 ≡ get_or before other 0))}
    (λ none. inl none)
    (λ d.
    let own = are.own other (get_or numbers rank 0) (get-within earlier.duties other d.0 d.2) d.3 in
    inr (d.0, d.1, d.2, sym (get-at before other (get_or numbers rank 0) 0 own)))
    (told rank other at)
