-- A sweep over the events by number shows the fronts.
use Rattle.std.proofs.Common.{◌≡◌, ◌∙◌, ◌<◌, ◌+◌, ℕ, Bool, true, cond, ℤ, pos, List, [], ◌&&◌, length, get_or, Option, Some, None, inl, inr, refl, sym, ap, subst, ⊎_elim, arith}
use Rattle.std.specs.Prelude.{slice_get, int_le, ◌<ℤ◌, ◌+ℤ◌}
use Rattle.std.proofs.Math.Dec.{eqb}
use Rattle.std.specs.List.{filter, flat_map}
use Rattle.std.proofs.lemmas.Bool.{and_parts, eq-eqb, eqb-true}
use Rattle.std.proofs.lemmas.Int.{ints}
use Rattle.std.proofs.lemmas.Option.{cond_some}
use Rattle.crew_anchor.specs.Stages.{anchored_board, anchored_resource, flown, is_within_caps_at}
use Rattle.crew_anchor.specs.Sweeps.{anchored_network, shown_labels}
use Rattle.crew_anchor.specs.declared.resource.AnchoredResource.{AnchoredResource}
use Rattle.crew_anchor.proofs.Sweeping.{to-spare}
use Rattle.crew_net.specs.Machinery.Numbered.{AreDistinct, arrival_place, departure_place}
use Rattle.crew_net.proofs.Numbers.{arrival-at, at-arrival, at-departure, get-within, place-arrival}
use Rattle.crew_pairing.specs.Events.{arrival_of, departure_of, may_wait}
use Rattle.crew_flights.specs.Timetable.{IsSound, Timetable}
use Rattle.crew_pairing.specs.Duties.{AreDuties, flights_of}
use Rattle.crew_pairing.specs.Keys.{walk_at_most}
use Rattle.crew_pairing.specs.Legs.{Leg}
use Rattle.crew_pairing.specs.Pairings.{IsDuty}
use Rattle.crew_pairing.specs.declared.duty.Duty.{Duty}
use Rattle.crew_pairing.specs.declared.events.Arrival.{Arrival}
use Rattle.crew_pairing.specs.declared.events.Departure.{Departure}
use Rattle.crew_pairing.specs.declared.vector.PairingVector.{PairingVector}
use Rattle.crew_resource.specs.Events.{Arriving, FromFronts, FromPools, Network, Views, WaitLaws, view}
use Rattle.crew_resource.specs.Labels.{IsLocal}
use Rattle.crew_resource.specs.Members.{Member}
use Rattle.crew_resource.proofs.Covering.{local_of_part}
use Rattle.crew_resource.proofs.Members.{Member-filter_in, Member-filter_out, Member-flat_map_in, Member-flat_map_out}
use Rattle.crew_resource.proofs.Pools.{pools_cover, view_in, view_out}
use Rattle.crew_resource.proofs.Scratch.{local_of}
use Rattle.crew_rules.specs.Settings.{IsChecked}
use Rattle.crew_rules.specs.declared.settings.Settings.{Settings}
use Rattle.crew_vector.specs.Dominance.{is_at_most}
use Rattle.crew_vector.specs.Events.{ArrivedToSpare}
use Rattle.crew_vector.specs.Fronts.{IsFrontAt}
use Rattle.crew_vector.proofs.Orders.{walk-either, walk-order}
use Rattle.crew_vector.proofs.Paths.{legal-in-range}
use Rattle.crew_vector.proofs.Pooled.{left-before}
use Rattle.crew_vector.proofs.Steps.{vector-order}
use Rattle.crew_sweep.specs.Machinery.Numbered.{idle_at, numbered, window_at}

abbrev Labelled : Type 0
Labelled = List (PairingVector × List (List Leg))

-- candidates that are the same leave the same
pub local-same : {V W : Type 0} (le : V → V → Bool) (wle : W → W → Bool) (C D : V → W → Type 0) (es : List (V × W)) → ((v : V) (w : W) → C v w → D v w)
    → ((v : V) (w : W) → D v w → C v w) → IsLocal le wle C es → IsLocal le wle D es
local-same le wle C D es to back local = record {
  among = λ v w m. to v w (local.among v w m);
  covers = λ x y c. local.covers x y (back x y c);
  alone = local.alone;
}

-- with one duty less, what boards is what boards with a duty to spare
less-then : (d : ℤ) (most max : ℕ) → most + 1 ≡ max → int_le d (pos most) ≡ true → (int_le d (pos max) ≡ true) × (d <ℤ pos max)
less-then d most max e h = grind (arith, ints)

then-less : (d : ℤ) (most max : ℕ) → most + 1 ≡ max → d <ℤ pos max → int_le d (pos most) ≡ true
then-less d most max e h = grind (arith, ints)

abbrev lesser : Settings → ℤ → ℕ → AnchoredResource
lesser s price most = record (anchored_resource s price) { max_duties = most }

within-more : (f g m n z : Bool) → (f && (g && (m && z))) ≡ true → n ≡ true → (f && (g && (n && z))) ≡ true
within-more f g m n z h k =
    let a = and_parts f (g && (m && z)) h in
    let b = and_parts g (m && z) a.1 in
    let c = and_parts m z b.1 in
    rw (a.0, b.0, k, c.1) refl

third : (f g m z : Bool) → (f && (g && (m && z))) ≡ true → m ≡ true
third f g m z h = (and_parts m z (and_parts g (m && z) (and_parts f (g && (m && z)) h).1).1).0

chosen : {A : Type 0} (b c : Bool) (x v : A) → cond b (Some x) None ≡ Some v → c ≡ true → cond c (Some x) None ≡ Some v
chosen b c x v h k = ap (λ z. cond z (Some x) None) k ∙ ap Some (cond_some b x v h).1

pub board-less : (s : Settings) (price : ℤ) (most : ℕ) → most + 1 ≡ s.max_duties → (u v : PairingVector) (e : Duty) → anchored_board (lesser s price most) u e ≡ Some v
    → (anchored_board (anchored_resource s price) u e ≡ Some v) × (v.duties <ℤ pos s.max_duties)
board-less s price most less u v e h =
    let full = anchored_resource s price in
    let x = flown full u e in
    let k = cond_some (is_within_caps_at (lesser s price most) e.release x) x v h in
    let few = less-then x.duties most s.max_duties less (third (int_le x.fdp (pos full.fdp_cap)) (int_le x.fly (pos full.fly_cap)) (int_le x.duties (pos most)) (int_le (x.away +ℤ e.release) (pos full.away_cap)) k.0) in (
      chosen (is_within_caps_at (lesser s price most) e.release x) (is_within_caps_at full e.release x) x v h (within-more (int_le x.fdp (pos full.fdp_cap)) (int_le x.fly (pos full.fly_cap)) (int_le x.duties (pos most)) (int_le x.duties (pos s.max_duties)) (int_le (x.away +ℤ e.release) (pos full.away_cap)) k.0 few.0),
      subst (λ (z : PairingVector). z.duties <ℤ pos s.max_duties) k.1 few.1,
    )

pub board-more : (s : Settings) (price : ℤ) (most : ℕ) → most + 1 ≡ s.max_duties → (u v : PairingVector) (e : Duty) → anchored_board (anchored_resource s price) u e ≡ Some v
    → v.duties <ℤ pos s.max_duties → anchored_board (lesser s price most) u e ≡ Some v
board-more s price most less u v e h room =
    let full = anchored_resource s price in
    let x = flown full u e in
    let k = cond_some (is_within_caps_at full e.release x) x v h in
    let few = then-less x.duties most s.max_duties less (subst (λ (z : PairingVector). z.duties <ℤ pos s.max_duties) (sym k.1) room) in
    chosen (is_within_caps_at full e.release x) (is_within_caps_at (lesser s price most) e.release x) x v h (within-more (int_le x.fdp (pos full.fdp_cap)) (int_le x.fly (pos full.fly_cap)) (int_le x.duties (pos s.max_duties)) (int_le x.duties (pos most)) (int_le (x.away +ℤ e.release) (pos full.away_cap)) k.0 few)

pub waits : WaitLaws {V = PairingVector} {G = ℕ} {X = ℕ} is_at_most (λ v x g. v)
waits = record { monotone = λ a b x g h. h; strict = λ a b x g h e. e }

module _ (s : Settings) (t : Timetable) (base : List ℕ) (price : ℤ) (duties : List Duty) (departures : List Departure) (arrivals : List Arrival) (most : ℕ) (pools : List Labelled)
    (checked : IsChecked s) (sound : IsSound t) (exactly : AreDuties s t duties) (xs-distinct : AreDistinct arrivals)
    (leaves-in : (d : Duty) → Member duties d → Member departures (departure_of d)) (arrives-in : (d : Duty) → Member duties d → Member arrivals (arrival_of d))
    (less : most + 1 ≡ s.max_duties)
    (pooled : (i : ℕ) → i < length departures → IsLocal is_at_most walk_at_most (FromFronts (numbered s (lesser s price most) base duties departures arrivals) (Views (numbered s (lesser s price most) base duties departures arrivals) pools) i) (get_or pools i [])) where
  abbrev Num : Network Duty PairingVector (List (List Leg)) ℕ ℕ
  Num = numbered s (lesser s price most) base duties departures arrivals

  abbrev Net : Network Duty PairingVector (List (List Leg)) Departure Arrival
  Net = anchored_network s base price duties

  abbrev pool_of : Departure → Labelled
  pool_of g = get_or pools (departure_place departures g) []

  -- what the duties that arrive there leave
  abbrev bringing : ℕ → Labelled
  bringing x = flat_map (Views Num pools) (filter (λ e. eqb (Num.arrives e) x) duties)

  bringing-out : (x : ℕ) (v : PairingVector) (w : List (List Leg)) → Member (bringing x) (v, w) → Arriving Num (Views Num pools) x v w
  bringing-out x v w m =
      let k = Member-flat_map_out (Views Num pools) (filter (λ e. eqb (Num.arrives e) x) duties) (v, w) m in
      let f = Member-filter_out (λ e. eqb (Num.arrives e) x) duties k.0 k.1 in
      (k.0, f.0, eqb-true (Num.arrives k.0) x f.1, k.2)

  bringing-in : (x : ℕ) (v : PairingVector) (w : List (List Leg)) → Arriving Num (Views Num pools) x v w → Member (bringing x) (v, w)
  bringing-in x v w c = Member-flat_map_in (Views Num pools) (filter (λ e. eqb (Num.arrives e) x) duties) c.0 (v, w)
      (Member-filter_in (λ e. eqb (Num.arrives e) x) duties c.0 c.1 (eq-eqb (Num.arrives c.0) x c.2)) c.3

  held_at : ℕ → Labelled
  held_at x = (local_of PairingVector (List (List Leg)) is_at_most walk_at_most vector-order walk-order walk-either (bringing x)).0

  held-local : (x : ℕ) → IsLocal is_at_most walk_at_most (Arriving Num (Views Num pools) x) (held_at x)
  unfolding held_at
  held-local x = local-same is_at_most walk_at_most (λ v w. Member (bringing x) (v, w)) (Arriving Num (Views Num pools) x) (held_at x) (bringing-out x) (bringing-in x)
      (local_of PairingVector (List (List Leg)) is_at_most walk_at_most vector-order walk-order walk-either (bringing x)).1

  abbrev arrived_of : Arrival → Labelled
  arrived_of x = held_at (arrival_place arrivals x)

  -- what is held at a place arrives there
  reached : (i : ℕ) (v : PairingVector) (w : List (List Leg)) → Member (held_at i) (v, w) → (x : Arrival) × (slice_get arrivals i ≡ Some x)
  reached i v w m =
      let c = (held-local i).among v w m in
      (arrival_of c.0, ap (slice_get arrivals) (sym c.2) ∙ at-arrival arrivals (arrival_of c.0) (arrives-in c.0 c.1))

  listed : (d : Duty) → IsDuty s (flights_of t) d → Member duties d
  listed d l = subst (Member duties) (sym l.3) (exactly.every l.0 l.1 l.2)

  left : (d : Duty) → Member duties d → slice_get departures (departure_place departures (departure_of d)) ≡ Some (departure_of d)
  left d m = at-departure departures (departure_of d) (leaves-in d m)

  left-within : (d : Duty) → Member duties d → departure_place departures (departure_of d) < length departures
  left-within d m = get-within departures (departure_place departures (departure_of d)) (departure_of d) (left d m)

  pools-from : (i : ℕ) → i < length departures → IsLocal is_at_most walk_at_most (FromPools Num held_at i) (get_or pools i [])
  pools-from i lt = local_of_part PairingVector (List (List Leg)) is_at_most walk_at_most vector-order walk-order (FromPools Num held_at i) (FromFronts Num (Views Num pools) i)
      (pools_cover Duty PairingVector (List (List Leg)) ℕ ℕ Num is_at_most walk_at_most vector-order walk-order waits (Views Num pools) held_at i (λ x open'. held-local x))
      (get_or pools i []) (pooled i lt)

  -- the candidates of a departure, by number and by event
  from-number : (g : Departure) (i : ℕ) → slice_get departures i ≡ Some g → (v : PairingVector) (w : List (List Leg)) → FromPools Num held_at i v w → FromPools Net arrived_of g v w
  from-number g i at v w = ⊎_elim
      (λ c. inl (c.0, ap (λ (o : Option Departure). idle_at (lesser s price most) base o) (sym at) ∙ c.1))
      (λ c.
      let x = reached c.0 c.1 w c.3 in
      let open' : window_at s (Some x.0) (Some g) ≡ true = ap (λ (o : Option Arrival). window_at s o (Some g)) (sym x.1) ∙ (ap (λ (o : Option Departure). window_at s (slice_get arrivals c.0) o) (sym at) ∙ c.2) in
      let place = place-arrival arrivals x.0 c.0 xs-distinct x.1 in
      inr (x.0, c.1, open', subst (λ (k : ℕ). Member (held_at k) (c.1, w)) (sym place) c.3, c.4))

  to-number : (g : Departure) (i : ℕ) → slice_get departures i ≡ Some g → (v : PairingVector) (w : List (List Leg)) → FromPools Net arrived_of g v w → FromPools Num held_at i v w
  to-number g i at v w = ⊎_elim
      (λ c. inl (c.0, ap (λ (o : Option Departure). idle_at (lesser s price most) base o) at ∙ c.1))
      (λ c.
      let place = arrival_place arrivals c.0 in
      let x = reached place c.1 w c.3 in
      let is : slice_get arrivals place ≡ Some c.0 = x.1 ∙ ap Some (arrival-at arrivals c.0 x.0 x.1) in
      let open' : window_at s (slice_get arrivals place) (slice_get departures i) ≡ true = ap (λ (o : Option Arrival). window_at s o (slice_get departures i)) is ∙ (ap (λ (o : Option Departure). window_at s (Some c.0) o) at ∙ c.2) in
      inr (place, c.1, open', c.3, c.4))

  pool-local : (d : Duty) → IsDuty s (flights_of t) d → IsLocal is_at_most walk_at_most (FromPools Net arrived_of (departure_of d)) (pool_of (departure_of d))
  pool-local d l =
      let m = listed d l in
      let g = departure_of d in
      let i = departure_place departures g in
      local-same is_at_most walk_at_most (FromPools Num held_at i) (FromPools Net arrived_of g) (get_or pools i [])
      (from-number g i (left d m)) (to-number g i (left d m)) (pools-from i (left-within d m))

  -- what arrives, by number and by event
  seen-less : (e : Duty) (pool : Labelled) (v : PairingVector) (w : List (List Leg)) → Member (view Num e pool) (v, w) → Member (view Net e pool) (v, w) × (v.duties <ℤ pos s.max_duties)
  seen-less e pool v w m =
      let k = view_out Duty PairingVector (List (List Leg)) ℕ ℕ Num e pool v w m in
      let b = board-less s price most less k.0 v e k.3 in
      let there = view_in Duty PairingVector (List (List Leg)) Departure Arrival Net e pool k.0 k.1 v k.2 b.0 in
      (subst (λ (y : List (List Leg)). Member (view Net e pool) (v, y)) (sym k.4) there, b.1)

  seen-more : (e : Duty) (pool : Labelled) (v : PairingVector) (w : List (List Leg)) → Member (view Net e pool) (v, w) → v.duties <ℤ pos s.max_duties → Member (view Num e pool) (v, w)
  seen-more e pool v w m room =
      let k = view_out Duty PairingVector (List (List Leg)) Departure Arrival Net e pool v w m in
      let b = board-more s price most less k.0 v e k.3 room in
      let there = view_in Duty PairingVector (List (List Leg)) ℕ ℕ Num e pool k.0 k.1 v k.2 b in
      subst (λ (y : List (List Leg)). Member (view Num e pool) (v, y)) (sym k.4) there

  arrived-there : (e : Duty) (x : Arrival) → Member duties e → arrival_place arrivals (arrival_of e) ≡ arrival_place arrivals x → arrival_of e ≡ x
  arrived-there e x m q = arrival-at arrivals x (arrival_of e) (ap (slice_get arrivals) (sym q) ∙ at-arrival arrivals (arrival_of e) (arrives-in e m))

  arrival-local : (d : Duty) (x : Arrival) → IsDuty s (flights_of t) d → may_wait s x (departure_of d) ≡ true
      → IsLocal is_at_most walk_at_most (ArrivedToSpare s Net (λ e. view Net e (pool_of (departure_of e))) d.report x) (arrived_of x)
  arrival-local d x l window =
      local-same is_at_most walk_at_most (Arriving Num (Views Num pools) (arrival_place arrivals x)) (ArrivedToSpare s Net (λ e. view Net e (pool_of (departure_of e))) d.report x) (arrived_of x)
      (λ v w c.
      let e = c.0 in
      let to = arrived-there e x c.1 c.2 in
      let in-range = legal-in-range s t base price checked sound e (exactly.sound e c.1) in
      let k = seen-less e (pool_of (departure_of e)) v w c.3 in
      ((e, c.1, left-before s e x (departure_of d) in-range to window, to, k.0), k.1))
      (λ v w c.
      let e = c.0.0 in
      (e, c.0.1, ap (arrival_place arrivals) c.0.3, seen-more e (pool_of (departure_of e)) v w c.0.4 c.1))
      (held-local (arrival_place arrivals x))

  pub swept-fronts : (d : Duty) → IsDuty s (flights_of t) d → IsFrontAt s t base price d (shown_labels s.trip_rig d.release (view Net d (pool_of (departure_of d))))
  swept-fronts d l = to-spare s t base price duties checked sound exactly pool_of (λ g x. arrived_of x) pool-local arrival-local d l
