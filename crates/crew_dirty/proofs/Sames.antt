-- Which duties are the same: rank by rank, and departure by departure.
use Rattle.std.proofs.Common.{◌≡◌, ◌<◌, ◌≤◌, ◌+◌, ◌&&◌, ◌||◌, ◌⊎◌, inl, inr, ℕ, Bool, true, false, List, Option, Some, length, get_or, set, refl, sym, ap, subst, ◌∙◌, arith}
use Rattle.std.specs.Prelude.{◌↔◌, slice_get}
use Rattle.std.proofs.lemmas.Bool.{and_from, and_parts}
use Rattle.std.proofs.lemmas.Bool.Decides.{eqb_tells}
use Rattle.std.proofs.lemmas.Grind.{get_or-set_at}
use Rattle.std.proofs.lemmas.List.{get_or-set_other}
use Rattle.std.specs.Cmp.{signed_Decides}
use Rattle.std.specs.Ordering.{eq_by_cmp, int_eq}
use Rattle.crew_carry.proofs.Pushed.{some-is}
use Rattle.crew_dirty.specs.Carried.{AreFlags}
use Rattle.crew_dirty.proofs.Flagged.{or-left, or-right, or-true}
use Rattle.crew_dirty.specs.Dirty.{IsSameDuty}
use Rattle.crew_dirty.specs.Machinery.Windows.{WaitsAlike}
use Rattle.crew_flights.specs.Codes.{code_cmp}
use Rattle.crew_net.proofs.ArrivalPlaces.{ranks-in, ranks-out}
use Rattle.crew_net.proofs.Geometry.{code-equal, equal-code}
use Rattle.crew_net.proofs.Longest.{stands}
use Rattle.crew_net.specs.Events.{AreEvents, departure_cmp, leaves_at}
use Rattle.crew_net.specs.Nets.{Net}
use Rattle.crew_net.specs.Ranks.{ranks_where}
use Rattle.crew_pairing.proofs.Tree.{slice_get-within}
use Rattle.crew_pairing.specs.Events.{arrival_of, departure_of, may_wait}
use Rattle.crew_pairing.specs.declared.duty.Duty.{Duty}
use Rattle.crew_pairing.specs.declared.events.Departure.{Departure}
use Rattle.crew_resource.specs.Members.{Member}
use Rattle.crew_resource.proofs.Members.{Member-at}

-- a duty leaves at its own departure, and at no other
pub own-departure : (g : Departure) (d : Duty) → leaves_at g d ≡ true → departure_of d ≡ g
own-departure g d h =
    let p = and_parts (eq_by_cmp code_cmp g.airport d.from) (int_eq g.report d.report) h in
    let airport : g.airport ≡ d.from = code-equal g.airport d.from p.0 in
    let report : g.report ≡ d.report = (signed_Decides g.report d.report).0 p.1 in
    sym (λ i. record { airport = airport i; report = report i })

pub leaves : (g : Departure) (d : Duty) → departure_of d ≡ g → leaves_at g d ≡ true
leaves g d e = and_from _ _ (equal-code g.airport d.from (ap (λ (h : Departure). h.airport) (sym e))) ((signed_Decides g.report d.report).1 (ap (λ (h : Departure). h.report) (sym e)))

pub decide : (b : Bool) → (b ≡ true) ⊎ (b ≡ false)
decide true = inl refl
decide false = inr refl

pub not-both : (b : Bool) → b ≡ true → b ≡ false → ⊥
not-both b p q = cc

-- it leaves there, or it doesn't
pub leaves-or : (g : Departure) (d : Duty) → (departure_of d ≡ g) ⊎ (departure_of d ≡ g → ⊥)
leaves-or g d = elim (decide (leaves_at g d)) as (λ _. (departure_of d ≡ g) ⊎ (departure_of d ≡ g → ⊥)) [
  | inl t ↦ inl (own-departure g d t)
  | inr f ↦ inr (λ e. not-both (leaves_at g d) (leaves g d e) f)
]

-- the ranks of what leaves at a departure
module _ (net : Net) (g : Departure) (ranks : List ℕ) (ranks-are : ranks ≡ ranks_where (leaves_at g) net.duties) (rank : ℕ) where
  pub is-leaver : (d : Duty) → slice_get net.duties rank ≡ Some d → departure_of d ≡ g → Member ranks rank
  is-leaver d known own = subst (λ (rs : List ℕ). Member rs rank) (sym ranks-are) (ranks-in (leaves_at g) net.duties rank d known (leaves g d own))

  pub leaver : Member ranks rank → (d : Duty) × (slice_get net.duties rank ≡ Some d) × (departure_of d ≡ g)
  leaver m =
      let x = ranks-out (leaves_at g) net.duties rank (subst (λ (rs : List ℕ). Member rs rank) ranks-are m) in
      (x.0, x.1, own-departure g x.0 x.2)

  pub no-leaver : (d : Duty) → slice_get net.duties rank ≡ Some d → (departure_of d ≡ g → ⊥) → Member ranks rank → ⊥
  no-leaver d known none m = let x = leaver m in none (ap departure_of (some-is net.duties rank d x.0 known x.1) ∙ x.2)

-- the duties of so many departures have their places
abbrev pub HavePlaces : Net → ℕ → List ℕ → Type 0
HavePlaces net count places = (rank : ℕ) (d : Duty) (k : ℕ) → slice_get net.duties rank ≡ Some d → k < count → slice_get net.departures k ≡ Some (departure_of d)
    → slice_get net.departures (get_or places rank 0) ≡ Some (departure_of d)

-- the duties of so many departures have their flags
abbrev pub AreSameTo : Net → Net → ℕ → List Bool → Type 0
AreSameTo old new count flags = (rank : ℕ) (d : Duty) (k : ℕ) → slice_get new.duties rank ≡ Some d → k < count → slice_get new.departures k ≡ Some (departure_of d)
    → (get_or flags rank false ≡ true) ↔ IsSameDuty old new d

-- one departure more
module _ (net : Net) (count : ℕ) (g : Departure) (at : slice_get net.departures count ≡ Some g) (ranks : List ℕ) (ranks-are : ranks ≡ ranks_where (leaves_at g) net.duties) where
  -- a departure that comes later than so many, and isn't the next
  below : (d : Duty) (k : ℕ) → k < count + 1 → slice_get net.departures k ≡ Some (departure_of d) → (departure_of d ≡ g → ⊥) → k < count
  below d k l here none = elim (eqb_tells k count) as (λ _. k < count) [
    | inl t ↦ absurd (none (some-is net.departures count (departure_of d) g (ap (slice_get net.departures) (sym t.1) ∙ here) at))
    | inr f ↦ (let ne = f.1 in omega (arith, l, ne))
  ]

  pub places-more : (was now : List ℕ) → ((rank : ℕ) → Member ranks rank → get_or now rank 0 ≡ count)
      → ((rank : ℕ) → (Member ranks rank → ⊥) → get_or now rank 0 ≡ get_or was rank 0) → HavePlaces net count was → HavePlaces net (count + 1) now
  places-more was now there elsewhere old rank d k known l here = elim (leaves-or g d) as (λ _. slice_get net.departures (get_or now rank 0) ≡ Some (departure_of d)) [
    | inl own ↦ ap (slice_get net.departures) (there rank (is-leaver net g ranks ranks-are rank d known own)) ∙ (at ∙ ap (λ (h : Departure). Some h) (sym own))
    | inr none ↦ ap (slice_get net.departures) (elsewhere rank (no-leaver net g ranks ranks-are rank d known none)) ∙ old rank d k known (below d k l here none) here
  ]

  pub same-more : (old : Net) (was now held : List Bool) (alike : Bool) → AreEvents departure_of departure_cmp old.duties old.departures
      → AreFlags (Member old.duties) net.duties held
      → (alike ≡ true → WaitsAlike old net g) → (Member old.departures g → WaitsAlike old net g → alike ≡ true)
      → ((rank : ℕ) → Member ranks rank → get_or now rank false ≡ (alike && get_or held rank false))
      → ((rank : ℕ) → (Member ranks rank → ⊥) → get_or now rank false ≡ get_or was rank false) → AreSameTo old net count was → AreSameTo old net (count + 1) now
  same-more old was now held alike events flags sound full there elsewhere so-far rank d k known l here =
      elim (leaves-or g d) as (λ _. (get_or now rank false ≡ true) ↔ IsSameDuty old net d) [
        | inl own ↦
            let value = there rank (is-leaver net g ranks ranks-are rank d known own) in (
              λ e. (
                  let p = and_parts alike (get_or held rank false) (sym value ∙ e) in
                  record {
                    there = (flags rank d known).0 p.1;
                    before = λ x may. sound p.0 x (subst (λ (h : Departure). may_wait net.settings (arrival_of x) h ≡ true) own may);
                  }),
              λ same. (
                  let was-there = subst (Member old.departures) own (events.every d same.there) in
                  let waits : WaitsAlike old net g = λ x may. same.before x (subst (λ (h : Departure). may_wait net.settings (arrival_of x) h ≡ true) (sym own) may) in
                  value ∙ and_from alike (get_or held rank false) (full was-there waits) ((flags rank d known).1 same.there)),
            )
        | inr none ↦
            let value = elsewhere rank (no-leaver net g ranks ranks-are rank d known none) in
            let old-flag = so-far rank d k known (below d k l here none) here in
            (λ e. old-flag.0 (sym value ∙ e), λ same. value ∙ old-flag.1 same)
      ]

-- all departures
module _ (net : Net) (events : AreEvents departure_of departure_cmp net.duties net.departures) (count : ℕ) (all : length net.departures ≤ count) where
  home : (rank : ℕ) (d : Duty) → slice_get net.duties rank ≡ Some d → (k : ℕ) × (k < count) × (slice_get net.departures k ≡ Some (departure_of d))
  home rank d known =
      let k = stands net.departures (departure_of d) (events.every d (Member-at net.duties rank d known)) in
      let within = slice_get-within net.departures k.0 (departure_of d) k.1 in
      (k.0, omega (arith, within, all), k.1)

  pub places-all : (places : List ℕ) → HavePlaces net count places → (rank : ℕ) (d : Duty) → slice_get net.duties rank ≡ Some d → slice_get net.departures (get_or places rank 0) ≡ Some (departure_of d)
  places-all places have rank d known = let k = home rank d known in have rank d k.0 known k.1 k.2

  pub same-all : (old : Net) (flags : List Bool) → AreSameTo old net count flags → AreFlags (IsSameDuty old net) net.duties flags
  same-all old flags so-far rank d known = let k = home rank d known in so-far rank d k.0 known k.1 k.2

-- the twins of so many old ranks have their flags
abbrev pub AreHeldTo : List Duty → List Duty → ℕ → List Bool → Type 0
AreHeldTo olds news count flags =
    ((rank : ℕ) (d : Duty) → slice_get news rank ≡ Some d → get_or flags rank false ≡ true → Member olds d)
    × ((rank r : ℕ) (d : Duty) → r < count → slice_get news rank ≡ Some d → slice_get olds r ≡ Some d → get_or flags rank false ≡ true)

-- one old rank more
module _ (olds news : List Duty) (ranks : List (Option ℕ))
    (all : (r k : ℕ) (d e : Duty) → slice_get olds r ≡ Some d → slice_get news k ≡ Some e → d.key ≡ e.key → slice_get ranks r ≡ Some (Some k)) (count : ℕ) (new : Option ℕ) (at : slice_get ranks count ≡ Some new) (was now : List Bool)
    (kept : (k : ℕ) → get_or was k false ≡ true → get_or now k false ≡ true)
    (there : (k : ℕ) → new ≡ Some k → slice_get olds count ≡ slice_get news k → get_or now k false ≡ true)
    (from : (k : ℕ) → get_or now k false ≡ true → (get_or was k false ≡ true) ⊎ (slice_get olds count ≡ slice_get news k)) where
  pub held-more : AreHeldTo olds news count was → AreHeldTo olds news (count + 1) now
  held-more old = (
    λ rank d known t. elim (from rank t) as (λ _. Member olds d) [
      | inl before ↦ old.0 rank d known before
      | inr same ↦ Member-at olds count d (same ∙ known)
    ],
    λ rank r d below known here. elim (eqb_tells r count) as (λ _. get_or now rank false ≡ true) [
      | inl e ↦
          let own : slice_get olds count ≡ Some d = ap (slice_get olds) (sym e.1) ∙ here in
          let is : slice_get ranks count ≡ Some (Some rank) = all count rank d d own known refl in
          there rank (some-is ranks count new (Some rank) at is) (own ∙ sym known)
      | inr f ↦ kept rank (old.1 rank r d (let ne = f.1 in omega (arith, below, ne)) known here)
    ],
  )

pub held-all : (olds news : List Duty) (count : ℕ) (flags : List Bool) → length olds ≤ count → AreHeldTo olds news count flags → AreFlags (Member olds) news flags
held-all olds news count flags all held rank d known = (
  held.0 rank d known,
  λ m. (let r = stands olds d m in let within = slice_get-within olds r.0 d r.1 in held.1 rank r.0 d (omega (arith, within, all)) known r.1),
)

-- a flag that is put where it stands or the duties are the same
module _ (flags : List Bool) (new : ℕ) (same : Bool) (bound : new < length flags) where
  abbrev put : List Bool
  put = set flags new (get_or flags new false || same)

  put-at : (k : ℕ) → new ≡ k → get_or put k false ≡ (get_or flags new false || same)
  put-at k e = get_or-set_at flags new k (get_or flags new false || same) false (sym e) bound

  put-other : (k : ℕ) → (new ≡ k → ⊥) → get_or put k false ≡ get_or flags k false
  put-other k ne = get_or-set_other flags new k (get_or flags new false || same) false (λ e. ne (sym e))

  pub put-kept : (k : ℕ) → get_or flags k false ≡ true → get_or put k false ≡ true
  put-kept k t = elim (eqb_tells new k) as (λ _. get_or put k false ≡ true) [
    | inl e ↦ put-at k e.1 ∙ or-left (get_or flags new false) same (ap (λ (n : ℕ). get_or flags n false) e.1 ∙ t)
    | inr f ↦ put-other k f.1 ∙ t
  ]

  pub put-there : (k : ℕ) → new ≡ k → same ≡ true → get_or put k false ≡ true
  put-there k e t = put-at k e ∙ or-right (get_or flags new false) same t

  pub put-from : (k : ℕ) → get_or put k false ≡ true → (get_or flags k false ≡ true) ⊎ ((new ≡ k) × (same ≡ true))
  put-from k t = elim (eqb_tells new k) as (λ _. (get_or flags k false ≡ true) ⊎ ((new ≡ k) × (same ≡ true))) [
    | inl e ↦
        elim (or-true (get_or flags new false) same (sym (put-at k e.1) ∙ t)) as (λ _. (get_or flags k false ≡ true) ⊎ ((new ≡ k) × (same ≡ true))) [
          | inl was ↦ inl (ap (λ (n : ℕ). get_or flags n false) (sym e.1) ∙ was)
          | inr own ↦ inr (e.1, own)
        ]
    | inr f ↦ inl (sym (put-other k f.1) ∙ t)
  ]
