-- Two networks with the same duties, laid out alike, are one.
use Rattle.std.proofs.Common.{◌≡◌, ◌∙◌, ◌<◌, ◌≤◌, ℕ, suc, List, [], ◌∷◌, Some, length, arith, ap, refl, sym, subst, inl, inr, ⊎_elim}
use Rattle.std.specs.Prelude.{slice_get}
use Rattle.std.specs.Cmp.{IsTotalOrder, int_cmp_total, on_total, then_total}
use Rattle.std.specs.declared.cmp.Ordering.{Ordering}
use Rattle.std.specs.declared.cmp.Ordering.TheVariants.{Less}
use Rattle.std.proofs.lemmas.Cmp.{tied_itself}
use Rattle.crew_sweep.specs.crew_carry.Twins.{AreTwins, Twins}
use Rattle.crew_flights.specs.Codes.{code_cmp_total}
use Rattle.crew_net.specs.Events.{AreEvents, arrival_cmp, departure_cmp}
use Rattle.crew_net.specs.Nets.{Net}
use Rattle.crew_pairing.specs.Duties.{RiseByKey}
use Rattle.crew_pairing.specs.Events.{arrival_of, departure_of}
use Rattle.crew_pairing.specs.Keys.{key_cmp, key_total}
use Rattle.crew_pairing.specs.declared.duty.Duty.{Duty}
use Rattle.crew_pairing.specs.declared.events.Arrival.{Arrival}
use Rattle.crew_pairing.specs.declared.events.Departure.{Departure}
use Rattle.crew_pairing.proofs.Tree.{Each-member}
use Rattle.crew_resource.specs.Members.{Each, Member}
use Rattle.crew_solve.proofs.Departing.{member-at}
use Rattle.crew_solve.specs.Machinery.Planned.{AreAlike, IsLaidOut}
use Rattle.crew_net.proofs.Numbers.{get-within}

module _ {E : Type 0} (cmp : E → E → Ordering) (order : IsTotalOrder cmp) where
  -- each stands before all later ones
  abbrev pub Rise : List E → Type 0
  Rise [] = Unit {0}
  Rise (x ∷ xs) = Each (λ e. cmp x e ≡ Less) xs × Rise xs

  not-below : (x y : E) → x ≡ y → cmp x y ≡ Less → ⊥
  not-below x y same less =
      let tied = ap (cmp x) (sym same) ∙ tied_itself order x in
      let both = sym less ∙ tied in
      let q : ⊥ = (cc) in
      q

  -- what stands after a first one stands among the others' later ones
  later : (x : E) (xs : List E) (y : E) (ys : List E) → Rise (x ∷ xs) → Rise (y ∷ ys) → ((e : E) → Member (y ∷ ys) e → Member (x ∷ xs) e) → (e : E) → Member ys e → Member xs e
  later x xs y ys up on among e m =
      let below = Each-member (λ z. cmp y z ≡ Less) ys e on.0 m in
      ⊎_elim {C = Member xs e}
      (λ same. absurd (⊎_elim {C = ⊥} (λ first. not-below y e (sym first ∙ same) below) (λ k. not-below x e same (order.trans x y e (Each-member (λ z. cmp x z ≡ Less) xs y up.0 k) below)) (among y (inl refl))))
      (λ k. k)
      (among e (inr m))

  fewer : (xs ys : List E) → Rise xs → Rise ys → ((e : E) → Member ys e → Member xs e) → length ys ≤ length xs
  fewer xs [] up on among = omega arith
  fewer [] (y ∷ ys) up on among = absurd (among y (inl refl))
  fewer (x ∷ xs) (y ∷ ys) up on among = let k = fewer xs ys up.1 on.1 (later x xs y ys up on among) in omega (arith, k)

  -- as many, and all of them there: one list
  pub one-list : (xs ys : List E) → Rise xs → Rise ys → length xs ≡ length ys → ((e : E) → Member ys e → Member xs e) → xs ≡ ys
  one-list [] [] up on many among = refl
  one-list [] (y ∷ ys) up on many among = absurd (among y (inl refl))
  one-list (x ∷ xs) [] up on many among = absurd (omega (arith, many))
  one-list (x ∷ xs) (y ∷ ys) up on many among =
      let rest = one-list xs ys up.1 on.1 (omega (arith, many)) (later x xs y ys up on among) in
      ⊎_elim {C = x ∷ xs ≡ y ∷ ys}
      (λ same. λ i. same i ∷ rest i)
      (λ k. absurd (let q = fewer xs (y ∷ ys) up.1 on (λ e m. ⊎_elim {C = Member xs e} (λ first. subst (Member xs) first k) (later x xs y ys up on among e) m) in omega (arith, many, q)))
      (among y (inl refl))

  rise-by : (xs : List E) → ((i j : ℕ) (a b : E) → i < j → slice_get xs i ≡ Some a → slice_get xs j ≡ Some b → cmp a b ≡ Less) → Rise xs
  rise-by [] up = tt
  rise-by (x ∷ xs) up = (each-by xs (λ j b h. up 0 (suc j) x b (omega arith) refl h), rise-by xs (λ i j a b h. up (suc i) (suc j) a b (omega (arith, h))))
    where
      each-by : (ys : List E) → ((j : ℕ) (b : E) → slice_get ys j ≡ Some b → cmp x b ≡ Less) → Each (λ e. cmp x e ≡ Less) ys
      each-by [] f = tt
      each-by (y ∷ ys) f = (f 0 y refl, each-by ys (λ j b h. f (suc j) b h))

departure-total : IsTotalOrder departure_cmp
departure-total = then_total (on_total (λ (g : Departure). g.airport) code_cmp_total) (on_total (λ (g : Departure). g.report) int_cmp_total)

arrival-total : IsTotalOrder arrival_cmp
arrival-total = then_total (on_total (λ (x : Arrival). x.airport) code_cmp_total) (on_total (λ (x : Arrival). x.release) int_cmp_total)

abbrev by_key : Duty → Duty → Ordering
by_key d e = key_cmp d.key e.key

-- the same duties have the same events
one-events : {E : Type 0} (event_of : Duty → E) (cmp : E → E → Ordering) (order : IsTotalOrder cmp) (ds : List Duty) (xs ys : List E) → AreEvents event_of cmp ds xs → AreEvents event_of cmp ds ys → xs ≡ ys
one-events {E} event_of cmp order ds xs ys a b =
    let there : (e : E) → Member ys e → Member xs e = λ e m. (let k = b.some e m in subst (Member xs) k.2 (a.every k.0 k.1)) in
    let back : (e : E) → Member xs e → Member ys e = λ e m. (let k = a.some e m in subst (Member ys) k.2 (b.every k.0 k.1)) in
    let up = rise-by cmp order xs a.rising in
    let on = rise-by cmp order ys b.rising in
    let more = fewer cmp order xs ys up on there in
    let less = fewer cmp order ys xs on up back in
    one-list cmp order xs ys up on (omega (arith, more, less)) there

rise-keys : (ds : List Duty) → RiseByKey ds → Rise by_key (on_total (λ (d : Duty). d.key) key_total) ds
rise-keys [] h = tt
rise-keys (d ∷ ds) h = (h.0, rise-keys ds h.1)

pub one-net : (old net : Net) (t : Twins) → old.settings ≡ net.settings → AreTwins old net t → IsLaidOut old → IsLaidOut net → AreAlike old net
    → ((place : ℕ) → place < length net.arrivals → (twin : ℕ) × (slice_get t.arrivals place ≡ Some (Some twin))) → old ≡ net
one-net old net t settings twins before now alike all =
    let among : (d : Duty) → Member net.duties d → Member old.duties d = λ d m.
    let at = member-at net.arrivals (arrival_of d) (now.arrivals.every d m) in
    let twin = all at.0 (get-within net.arrivals at.0 (arrival_of d) at.1) in
    let k = twins.arrivals at.0 twin.0 twin.1 in
    let own : arrival_of d ≡ k.0 = (let both = sym at.1 ∙ k.2 in (cc)) in
    (k.3 d own).1 m in
    let duties = one-list by_key (on_total (λ (d : Duty). d.key) key_total) old.duties net.duties (rise-keys old.duties before.rise) (rise-keys net.duties now.rise) alike.many among in
    let departures = one-events departure_of departure_cmp departure-total net.duties old.departures net.departures (subst (λ (ds : List Duty). AreEvents departure_of departure_cmp ds old.departures) duties before.departures) now.departures in
    let arrivals = one-events arrival_of arrival_cmp arrival-total net.duties old.arrivals net.arrivals (subst (λ (ds : List Duty). AreEvents arrival_of arrival_cmp ds old.arrivals) duties before.arrivals) now.arrivals in
    λ i. record { settings = settings i; bases = alike.bases i; duties = duties i; departures = departures i; arrivals = arrivals i; by_report = alike.by_report i }
