-- Where duties arrive: the places of their arrivals, by rank.
use Rattle.std.proofs.Common.{◌≡◌, ◌<◌, ◌≤◌, ◌+◌, ◌++◌, ◌∷◌, [], inl, inr, ℕ, zero, suc, Bool, true, false, List, Option, Some, cond, length, set, take, get_or, refl, sym, ap, subst, ◌∙◌, arith, ⊎_elim}
use Rattle.std.specs.Prelude.{slice_get}
use Rattle.std.specs.Cmp.{int_cmp_total, signed_Decides, tied_itself}
use Rattle.std.specs.Ordering.{eq_by_cmp, int_cmp, int_eq, ordering_then}
use Rattle.std.specs.declared.cmp.Ordering.{Ordering}
use Rattle.std.specs.declared.cmp.Ordering.TheVariants.{Equal, Less}
use Rattle.std.proofs.lemmas.Bool.{and_from, and_parts}
use Rattle.std.proofs.lemmas.Bool.Decides.{eqb_tells}
use Rattle.std.proofs.lemmas.Grind.{get_or-set_at}
use Rattle.std.proofs.lemmas.List.{get_or-set_other, take_more}
use Rattle.std.proofs.lemmas.Option.{slice_get-get_or, slice_get_within}
use Rattle.crew_flights.specs.Codes.{code_cmp}
use Rattle.crew_pairing.specs.Events.{arrival_of}
use Rattle.crew_pairing.specs.declared.duty.Duty.{Duty}
use Rattle.crew_pairing.specs.declared.events.Arrival.{Arrival}
use Rattle.crew_resource.specs.Members.{Member}
use Rattle.crew_resource.proofs.Members.{Member-append, Member-at, Member-append_left, Member-append_right}
use Rattle.crew_net.specs.Events.{AreEvents, arrival_cmp, arrives_at}
use Rattle.crew_net.specs.Ranks.{places_from, ranks_where}
use Rattle.crew_net.proofs.EventOrder.{Member-index, code-tie}
use Rattle.crew_net.proofs.Geometry.{code-equal, equal-code}

-- one rank more has the place
module _ (first places ranks : List ℕ) (i place : ℕ) (h : i < length ranks) (bound : get_or ranks i 0 < length places) where
  abbrev now : List ℕ
  now = set places (get_or ranks i 0) place

  more : take (i + 1) ranks ≡ take i ranks ++ get_or ranks i 0 ∷ []
  more = take_more ranks i 0 h

  here : (rank : ℕ) → get_or ranks i 0 ≡ rank → get_or now rank 0 ≡ place
  here rank e = get_or-set_at places (get_or ranks i 0) rank place 0 (sym e) bound

  other : (rank : ℕ) → (get_or ranks i 0 ≡ rank → ⊥) → get_or now rank 0 ≡ get_or places rank 0
  other rank ne = get_or-set_other places (get_or ranks i 0) rank place 0 (λ e. ne (sym e))

  pub put-there : ((rank : ℕ) → Member (take i ranks) rank → get_or places rank 0 ≡ place) → (rank : ℕ) → Member (take (i + 1) ranks) rank → get_or now rank 0 ≡ place
  put-there there rank m =
      ⊎_elim {C = get_or now rank 0 ≡ place}
      (λ k. ⊎_elim {C = get_or now rank 0 ≡ place} (λ t. here rank t.1) (λ f. other rank f.1 ∙ there rank k) (eqb_tells (get_or ranks i 0) rank))
      (λ k. ⊎_elim {C = get_or now rank 0 ≡ place} (λ e. here rank e) (λ z. absurd z) k)
      (Member-append (take i ranks) (get_or ranks i 0 ∷ []) rank (subst (λ (rs : List ℕ). Member rs rank) more m))

  pub put-elsewhere : ((rank : ℕ) → (Member (take i ranks) rank → ⊥) → get_or places rank 0 ≡ get_or first rank 0)
      → (rank : ℕ) → (Member (take (i + 1) ranks) rank → ⊥) → get_or now rank 0 ≡ get_or first rank 0
  put-elsewhere elsewhere rank out =
      let none = λ (k : Member (take i ranks ++ get_or ranks i 0 ∷ []) rank). out (subst (λ (rs : List ℕ). Member rs rank) (sym more) k) in
      other rank (λ e. none (Member-append_right (take i ranks) (get_or ranks i 0 ∷ []) rank (inl e)))
      ∙ elsewhere rank (λ k. none (Member-append_left (take i ranks) (get_or ranks i 0 ∷ []) rank k))

-- the place of what passes is there
places-in : {X : Type 0} (p : X → Bool) (i : ℕ) (xs : List X) (k n : ℕ) (x : X) → n ≡ i + k → slice_get xs k ≡ Some x → p x ≡ true → Member (places_from i p xs) n
places-in p i [] k n x e s t = absurd (let q : ⊥ = (cc) in q)
places-in {X} p i (z ∷ zs) zero n x e s t =
    let same : z ≡ x = (cc) in
    let passes : p z ≡ true = ap p same ∙ t in
    let first : i ≡ n = omega (arith, e) in
    subst (λ (b : Bool). Member (cond b (i ∷ places_from (suc i) p zs) (places_from (suc i) p zs)) n) (sym passes) (inl first)
places-in p i (z ∷ zs) (suc k) n x e s t = by (p z) (places-in p (suc i) zs k n x (omega (arith, e)) s t)
  where
    by : (b : Bool) → Member (places_from (suc i) p zs) n → Member (cond b (i ∷ places_from (suc i) p zs) (places_from (suc i) p zs)) n
    by true m = inr m
    by false m = m

-- what stands at a place and passes
abbrev Passing : {X : Type 0} → (X → Bool) → ℕ → List X → ℕ → Type 0
Passing {X} p i xs n = (k : ℕ) × (x : X) × (n ≡ i + k) × (slice_get xs k ≡ Some x) × (p x ≡ true)

later : {X : Type 0} (p : X → Bool) (i : ℕ) (z : X) (zs : List X) (n : ℕ) → Passing p (suc i) zs n → Passing p i (z ∷ zs) n
later p i z zs n r = let e = r.2 in (suc r.0, r.1, omega (arith, e), r.3, r.4)

pub places-out : {X : Type 0} (p : X → Bool) (i : ℕ) (xs : List X) (n : ℕ) → Member (places_from i p xs) n → Passing p i xs n
places-out p i [] n m = absurd m
places-out {X} p i (z ∷ zs) n m = by (λ k. later p i z zs n (places-out p (suc i) zs n k)) (p z) refl m
  where
    by : (Member (places_from (suc i) p zs) n → Passing p i (z ∷ zs) n) → (b : Bool) → p z ≡ b → Member (cond b (i ∷ places_from (suc i) p zs) (places_from (suc i) p zs)) n → Passing p i (z ∷ zs) n
    by rest true e (inl f) = (0, z, omega (arith, f), refl, e)
    by rest true e (inr k) = rest k
    by rest false e k = rest k

some-is : {X : Type 0} (a b : X) (o : Option X) → o ≡ Some a → o ≡ Some b → a ≡ b
some-is a b o p q = cc

pub ranks-in : {X : Type 0} (p : X → Bool) (xs : List X) (rank : ℕ) (x : X) → slice_get xs rank ≡ Some x → p x ≡ true → Member (ranks_where p xs) rank
ranks-in p xs rank x s t = places-in p 0 xs rank rank x (omega arith) s t

pub ranks-out : {X : Type 0} (p : X → Bool) (xs : List X) (rank : ℕ) → Member (ranks_where p xs) rank → (x : X) × (slice_get xs rank ≡ Some x) × (p x ≡ true)
ranks-out {X} p xs rank m =
    let r = places-out p 0 xs rank m in
    let e = r.2 in
    let same : r.0 ≡ rank = omega (arith, e) in
    (r.1, subst (λ (n : ℕ). slice_get xs n ≡ Some r.1) same r.3, r.4)

-- such a rank is that of a duty
pub rank-within : (x : Arrival) (duties : List Duty) (rank : ℕ) → Member (ranks_where (arrives_at x) duties) rank → rank < length duties
rank-within x duties rank m = let r = ranks-out (arrives_at x) duties rank m in slice_get_within duties rank r.0 r.1

-- the arrival at a place
pub arrival-at : (arrivals : List Arrival) (k : ℕ) → k < length arrivals → (x : Arrival) × (slice_get arrivals k ≡ Some x)
arrival-at [] k h = absurd (omega (arith, h))
arrival-at (x ∷ xs) k h = (get_or (x ∷ xs) k x, slice_get-get_or (x ∷ xs) k x h)

-- a duty arrives at its own arrival, and at no other
pub own-arrival : (x : Arrival) (d : Duty) → arrives_at x d ≡ true → x ≡ arrival_of d
own-arrival x d h =
    let p = and_parts (eq_by_cmp code_cmp x.airport d.to) (int_eq x.release d.release) h in
    let airport : x.airport ≡ d.to = code-equal x.airport d.to p.0 in
    let release : x.release ≡ d.release = (signed_Decides x.release d.release).0 p.1 in
    (λ i. record { airport = airport i; release = release i })

pub arrives : (x : Arrival) (d : Duty) → x ≡ arrival_of d → arrives_at x d ≡ true
arrives x d e = and_from _ _ (equal-code x.airport d.to (ap (λ (a : Arrival). a.airport) e)) ((signed_Decides x.release d.release).1 (ap (λ (a : Arrival). a.release) e))

not-before : (x : Arrival) → arrival_cmp x x ≡ Less → ⊥
not-before x h =
    let tie : ordering_then (code_cmp x.airport x.airport) (int_cmp x.release x.release) ≡ ordering_then Equal (int_cmp x.release x.release) = ap (λ (o : Ordering). ordering_then o (int_cmp x.release x.release)) (code-tie x.airport x.airport refl) in
    let equal : int_cmp x.release x.release ≡ Equal = tied_itself int_cmp_total x.release in
    let q : ⊥ = (cc) in q

-- the duties of the arrivals so far have their places
abbrev pub AreSoFar : List Duty → List Arrival → ℕ → List ℕ → Type 0
AreSoFar duties arrivals count places = (rank : ℕ) (d : Duty) (k : ℕ) → slice_get duties rank ≡ Some d → k < count → slice_get arrivals k ≡ Some (arrival_of d) → get_or places rank 0 ≡ k

module _ (duties : List Duty) (arrivals : List Arrival) (events : AreEvents arrival_of arrival_cmp duties arrivals) where
  -- no later arrival is the same
  not-again : (j k : ℕ) (x : Arrival) → j < k → slice_get arrivals j ≡ Some x → slice_get arrivals k ≡ Some x → ⊥
  not-again j k x l p q = not-before x (events.rising j k x x l p q)

  -- one arrival more
  pub arrival-more : (k : ℕ) (x : Arrival) (was now : List ℕ) → slice_get arrivals k ≡ Some x
      → ((rank : ℕ) → Member (ranks_where (arrives_at x) duties) rank → get_or now rank 0 ≡ k)
      → ((rank : ℕ) → (Member (ranks_where (arrives_at x) duties) rank → ⊥) → get_or now rank 0 ≡ get_or was rank 0)
      → AreSoFar duties arrivals k was → AreSoFar duties arrivals (k + 1) now
  arrival-more k x was now at there elsewhere so-far rank d j known below here =
      ⊎_elim {C = get_or now rank 0 ≡ j}
      (λ t.
      let j-is : j ≡ k = t.1 in
      let same : x ≡ arrival_of d = some-is x (arrival_of d) (slice_get arrivals k) at (ap (slice_get arrivals) (sym j-is) ∙ here) in
      there rank (ranks-in (arrives_at x) duties rank d known (arrives x d same)) ∙ sym j-is)
      (λ f.
      let ne = f.1 in
      let before : j < k = omega (arith, below, ne) in
      elsewhere rank (λ m.
      let r = ranks-out (arrives_at x) duties rank m in
      let duty : r.0 ≡ d = some-is r.0 d (slice_get duties rank) r.1 known in
      let same : x ≡ arrival_of d = own-arrival x r.0 r.2 ∙ ap arrival_of duty in
      not-again j k (arrival_of d) before here (at ∙ ap (λ (a : Arrival). Some a) same))
      ∙ so-far rank d j known before here)
      (eqb_tells j k)

  -- all arrivals
  pub arrivals-all : (count : ℕ) (places : List ℕ) → length arrivals ≤ count → AreSoFar duties arrivals count places
      → (rank : ℕ) (d : Duty) → slice_get duties rank ≡ Some d → slice_get arrivals (get_or places rank 0) ≡ Some (arrival_of d)
  arrivals-all count places all so-far rank d known =
      let at = Member-index arrivals (arrival_of d) (events.every d (Member-at duties rank d known)) in
      let k = at.0 in
      let within = at.1 in
      let here : slice_get arrivals k ≡ Some (arrival_of d) = slice_get-get_or arrivals k (arrival_of d) within ∙ ap (λ (a : Arrival). Some a) (at.2 (arrival_of d)) in
      ap (slice_get arrivals) (so-far rank d k known (omega (arith, within, all)) here) ∙ here
