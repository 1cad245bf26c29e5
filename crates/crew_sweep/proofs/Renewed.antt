-- A pass that keeps what an earlier one has.
use Rattle.std.proofs.Common.{◌≡◌, ◌∙◌, ◌<◌, ◌≤◌, ◌+◌, ◌-◌, ℕ, Bool, true, false, List, [], ◌∷◌, ◌++◌, ◌⊎◌, Option, length, map, get_or, set, Some, inl, inr, refl, sym, ap, subst, ⊎_elim, arith, length-append, zero, suc}
use Rattle.std.specs.Prelude.{slice_get}
use Rattle.std.proofs.lemmas.List.{length-map, map-append}
use Rattle.crew_anchor.specs.declared.resource.AnchoredResource.{AnchoredResource}
use Rattle.crew_carry.specs.Twins.{AreTwins, Twins}
use Rattle.crew_net.specs.Events.{IsWindow}
use Rattle.crew_net.specs.Machinery.Numbered.{arrival_place, departure_place}
use Rattle.crew_net.specs.Nets.{Net}
use Rattle.crew_net.specs.Positions.{in_order}
use Rattle.crew_net.specs.declared.window.Window.{Window}
use Rattle.crew_net.proofs.Numbers.{at-arrival, at-departure, place-arrival}
use Rattle.crew_net.proofs.Orders.{arrivals-distinct, leaves-in}
use Rattle.crew_net.proofs.Slices.{at-within, get-at, set-long, some-same}
use Rattle.crew_pairing.specs.Events.{arrival_of, departure_of, may_wait}
use Rattle.crew_pairing.specs.Keys.{walk_at_most}
use Rattle.crew_pairing.specs.Legs.{Leg}
use Rattle.crew_pairing.specs.declared.duty.Duty.{Duty}
use Rattle.crew_pairing.specs.declared.events.Arrival.{Arrival}
use Rattle.crew_pairing.specs.declared.events.Departure.{Departure}
use Rattle.crew_pairing.specs.declared.vector.PairingVector.{PairingVector}
use Rattle.crew_pool.specs.Counted.{AreCounted}
use Rattle.crew_pool.specs.declared.label_walk.LabelWalk.{LabelWalk}
use Rattle.crew_resource.specs.Events.{Arriving, FromFronts, Network, Views, view}
use Rattle.crew_resource.specs.Labels.{IsLocal}
use Rattle.crew_resource.specs.Members.{Member}
use Rattle.crew_resource.proofs.Loop.{get_new, get_old}
use Rattle.crew_resource.proofs.Pools.{view_in, view_out}
use Rattle.crew_rules.specs.declared.settings.Settings.{Settings}
use Rattle.crew_carry.specs.crew_step.Walks.{HasGrown}
use Rattle.crew_sweep.specs.Machinery.Kept.{keyed_pools, sparing_of}
use Rattle.crew_sweep.specs.Machinery.Numbered.{AreLocal, idle_at, window_at}
use Rattle.crew_sweep.specs.Machinery.Passing.{passed_network}
use Rattle.crew_sweep.specs.Machinery.Renewing.{Arrived, HasSameLabels, HaveSame, IsAsItWas, IsLaid, IsRenewing, IsWindowKept, ShowsSame}
use Rattle.crew_sweep.specs.Sweeps.{BaseSweep, keyed}
use Rattle.crew_sweep.proofs.Fronts.{local-same}
use Rattle.crew_sweep.proofs.Shown.{keyed-grown, same-map}
use Rattle.crew_sweep.proofs.Unders.{Under, itself, local-under}
use Rattle.crew_vector.specs.Dominance.{is_at_most}

abbrev Labels : Type 0
Labels = List (PairingVector × LabelWalk)

abbrev Shown : Type 0
Shown = List (PairingVector × List (List Leg))

-- where a duty's crew may be waited for
pub may-wait : (net : Net) → IsLaid net → (i : ℕ) (g : Departure) → slice_get (in_order net) i ≡ Some g → (e : Duty) → Member net.duties e
    → window_at net.settings (slice_get net.arrivals (arrival_place net.arrivals (arrival_of e))) (slice_get (in_order net) i) ≡ may_wait net.settings (arrival_of e) g
may-wait net laid i g at e m =
    ap (λ o. window_at net.settings o (slice_get (in_order net) i)) (at-arrival net.arrivals (arrival_of e) (laid.arrives.every e m))
    ∙ ap (λ o. window_at net.settings (Some (arrival_of e)) o) at

pub same-settings : (s t : Settings) → s ≡ t → (x : Arrival) (g : Departure) → may_wait s x g ≡ may_wait t x g
same-settings s t e x g = ap (λ z. may_wait z x g) e

module _ (old : BaseSweep) (net : Net) (settings : old.net.settings ≡ net.settings) (laid-old : IsLaid old.net) (laid : IsLaid net) (r : AnchoredResource) (walks : List (List ℕ)) (pools : List Labels) where
  abbrev Num : Network Duty PairingVector (List (List Leg)) ℕ ℕ
  Num = passed_network net old.base r

  abbrev Old : Network Duty PairingVector (List (List Leg)) ℕ ℕ
  Old = passed_network old.net old.base r

  abbrev now-pools : List Shown
  now-pools = map (keyed net walks) pools

  -- what a duty with the same labels before it shows
  pub seen-old : (e : Duty) → HasSameLabels old net walks pools e → (v : PairingVector) (w : List (List Leg)) → Member (Views Num now-pools e) (v, w) → Member (Views Old (keyed_pools old) e) (v, w)
  seen-old e same v w m =
      let k = view_out Duty PairingVector (List (List Leg)) ℕ ℕ Num e (get_or now-pools (departure_place (in_order net) (departure_of e)) []) v w m in
      let there = (same (k.0, k.1)).0 k.2 in
      subst (λ (y : List (List Leg)). Member (Views Old (keyed_pools old) e) (v, y)) (sym k.4)
      (view_in Duty PairingVector (List (List Leg)) ℕ ℕ Old e (get_or (keyed_pools old) (departure_place (in_order old.net) (departure_of e)) []) k.0 k.1 v there k.3)

  pub seen-now : (e : Duty) → HasSameLabels old net walks pools e → (v : PairingVector) (w : List (List Leg)) → Member (Views Old (keyed_pools old) e) (v, w) → Member (Views Num now-pools e) (v, w)
  seen-now e same v w m =
      let k = view_out Duty PairingVector (List (List Leg)) ℕ ℕ Old e (get_or (keyed_pools old) (departure_place (in_order old.net) (departure_of e)) []) v w m in
      let there = (same (k.0, k.1)).1 k.2 in
      subst (λ (y : List (List Leg)). Member (Views Num now-pools e) (v, y)) (sym k.4)
      (view_in Duty PairingVector (List (List Leg)) ℕ ℕ Num e (get_or now-pools (departure_place (in_order net) (departure_of e)) []) k.0 k.1 v there k.3)

  -- an arrival that shows what it showed, under a resource
  module _ (resource : r ≡ sparing_of old) (p q : ℕ) (shows : ShowsSame old net walks pools p q) where
    at-now : Arrived net old.base r now-pools p shows.labels
    at-now = subst (λ (z : AnchoredResource). Arrived net old.base z now-pools p shows.labels) (sym resource) shows.now

    at-old : Arrived old.net old.base r (keyed_pools old) q shows.labels
    at-old = subst (λ (z : AnchoredResource). Arrived old.net old.base z (keyed_pools old) q shows.labels) (sym resource) shows.was

    pub over-old : (v : PairingVector) (w : List (List Leg)) → Arriving Num (Views Num now-pools) p v w → Under (Arriving Old (Views Old (keyed_pools old)) q) v w
    over-old v w a =
        let k = at-now.covers v w a in
        (k.0, k.1, at-old.among k.0 k.1 k.2, k.3, k.4)

    pub over-now : (v : PairingVector) (w : List (List Leg)) → Arriving Old (Views Old (keyed_pools old)) q v w → Under (Arriving Num (Views Num now-pools) p) v w
    over-now v w a =
        let k = at-old.covers v w a in
        (k.0, k.1, at-now.among k.0 k.1 k.2, k.3, k.4)

  -- what arrives at a place is the event there
  event-at : (n : Net) → IsLaid n → (e : Duty) → Member n.duties e → (place : ℕ) (x : Arrival) → slice_get n.arrivals place ≡ Some x → arrival_place n.arrivals (arrival_of e) ≡ place → arrival_of e ≡ x
  event-at n laid-n e m place x at here = some-same (slice_get n.arrivals place) (arrival_of e) x (ap (slice_get n.arrivals) (sym here) ∙ at-arrival n.arrivals (arrival_of e) (laid-n.arrives.every e m)) at

  -- it is there in both networks, and leaves from pools that have the labels that they had
  abbrev pub IsStill : Net → Duty → Type 0
  IsStill other e = Member other.duties e × HasSameLabels old net walks pools e

  -- it arrives where what is shown is what was
  abbrev pub ArrivesAlike : Duty → Type 0
  ArrivesAlike e = (p q : ℕ) × ShowsSame old net walks pools p q × (arrival_place net.arrivals (arrival_of e) ≡ p)

  abbrev pub ArrivedAlike : Duty → Type 0
  ArrivedAlike e = (p q : ℕ) × ShowsSame old net walks pools p q × (arrival_place old.net.arrivals (arrival_of e) ≡ q)

  -- a departure that both have, which waits on the same duties from pools that have the labels that
  -- they had, or where what is shown is what was
  module _ (resource : r ≡ sparing_of old) (i j : ℕ) (g : Departure) (at : slice_get (in_order net) i ≡ Some g) (old-at : slice_get (in_order old.net) j ≡ Some g)
      (kept-in : (e : Duty) → Member net.duties e → may_wait net.settings (arrival_of e) g ≡ true → IsStill old.net e ⊎ ArrivesAlike e)
      (kept-out : (e : Duty) → Member old.net.duties e → may_wait net.settings (arrival_of e) g ≡ true → IsStill net e ⊎ ArrivedAlike e) where
    abbrev Now : PairingVector → List (List Leg) → Type 0
    Now = FromFronts Num (Views Num now-pools) i

    abbrev Was : PairingVector → List (List Leg) → Type 0
    Was = FromFronts Old (Views Old (keyed_pools old)) j

    now-waits : (e : Duty) → Member net.duties e → may_wait net.settings (arrival_of e) g ≡ true → window_at net.settings (slice_get net.arrivals (arrival_place net.arrivals (arrival_of e))) (slice_get (in_order net) i) ≡ true
    now-waits e m waits = may-wait net laid i g at e m ∙ waits

    old-waits : (e : Duty) → Member old.net.duties e → may_wait net.settings (arrival_of e) g ≡ true
        → window_at old.net.settings (slice_get old.net.arrivals (arrival_place old.net.arrivals (arrival_of e))) (slice_get (in_order old.net) j) ≡ true
    old-waits e m waits = may-wait old.net laid-old j g old-at e m ∙ (same-settings old.net.settings net.settings settings (arrival_of e) g ∙ waits)

    -- what an arrival shows now is waited on
    from-now : (p q : ℕ) → ShowsSame old net walks pools p q → (x : Arrival) → slice_get net.arrivals p ≡ Some x → may_wait net.settings x g ≡ true → (v : PairingVector) (w : List (List Leg))
        → Arriving Num (Views Num now-pools) p v w → Now v w
    from-now p q shows x there waits v w a =
        let same = event-at net laid a.0 a.1 p x there a.2 in
        inr (a.0, v, a.1, now-waits a.0 a.1 (subst (λ (z : Arrival). may_wait net.settings z g ≡ true) (sym same) waits), a.3, refl)

    from-old : (p q : ℕ) → ShowsSame old net walks pools p q → (x : Arrival) → slice_get old.net.arrivals q ≡ Some x → may_wait net.settings x g ≡ true → (v : PairingVector) (w : List (List Leg))
        → Arriving Old (Views Old (keyed_pools old)) q v w → Was v w
    from-old p q shows x there waits v w a =
        let same = event-at old.net laid-old a.0 a.1 q x there a.2 in
        inr (a.0, v, a.1, old-waits a.0 a.1 (subst (λ (z : Arrival). may_wait net.settings z g ≡ true) (sym same) waits), a.3, refl)

    to-now : (v : PairingVector) (w : List (List Leg)) → Was v w → Under Now v w
    to-now v w = ⊎_elim
        (λ c. itself Now v w (inl (c.0, ap (idle_at r old.base) (at ∙ sym old-at) ∙ c.1)))
        (λ c.
        let e = c.0 in
        let waits : may_wait net.settings (arrival_of e) g ≡ true = same-settings net.settings old.net.settings (sym settings) (arrival_of e) g ∙ (sym (may-wait old.net laid-old j g old-at e c.2) ∙ c.3) in
        subst (λ (z : PairingVector). Under Now z w) (sym c.5)
        (⊎_elim {C = Under Now c.1 w}
        (λ k. itself Now c.1 w (inr (e, c.1, k.0, now-waits e k.0 waits, seen-now e k.1 c.1 w c.4, refl)))
        (λ k.
        let shows = k.2 in
        let same = event-at old.net laid-old e c.2 k.1 shows.event shows.old_at k.3 in
        let u = over-now resource k.0 k.1 shows c.1 w (e, c.2, k.3, c.4) in
        (u.0, u.1, from-now k.0 k.1 shows shows.event shows.at (subst (λ (z : Arrival). may_wait net.settings z g ≡ true) same waits) u.0 u.1 u.2, u.3, u.4))
        (kept-out e c.2 waits)))

    to-old : (v : PairingVector) (w : List (List Leg)) → Now v w → Under Was v w
    to-old v w = ⊎_elim
        (λ c. itself Was v w (inl (c.0, ap (idle_at r old.base) (old-at ∙ sym at) ∙ c.1)))
        (λ c.
        let e = c.0 in
        let waits : may_wait net.settings (arrival_of e) g ≡ true = sym (may-wait net laid i g at e c.2) ∙ c.3 in
        subst (λ (z : PairingVector). Under Was z w) (sym c.5)
        (⊎_elim {C = Under Was c.1 w}
        (λ k. itself Was c.1 w (inr (e, c.1, k.0, old-waits e k.0 waits, seen-old e k.1 c.1 w c.4, refl)))
        (λ k.
        let shows = k.2 in
        let same = event-at net laid e c.2 k.0 shows.event shows.at k.3 in
        let u = over-old resource k.0 k.1 shows c.1 w (e, c.2, k.3, c.4) in
        (u.0, u.1, from-old k.0 k.1 shows shows.event shows.old_at (subst (λ (z : Arrival). may_wait net.settings z g ≡ true) same waits) u.0 u.1 u.2, u.3, u.4))
        (kept-in e c.2 waits)))

    pub kept-local : AreLocal Old (length old.pools) (keyed_pools old) → j < length old.pools → (labels : Shown) → labels ≡ get_or (keyed_pools old) j []
        → IsLocal is_at_most walk_at_most (FromFronts Num (Views Num now-pools) i) labels
    kept-local local within labels is = subst (IsLocal is_at_most walk_at_most Now) (sym is) (local-under Was Now to-now to-old (get_or (keyed_pools old) j []) (local j within))

  -- where a window is kept, so is what is waited on
  module _ (t : Twins) (twins : AreTwins old.net net t) (changed : List Bool) (alike : List (Option ℕ)) (renewing : IsRenewing old net walks pools changed alike) (g : Departure) (w o : Window)
      (window : IsWindow (λ x. may_wait net.settings x g) net.arrivals w) (old-window : IsWindow (λ x. may_wait old.net.settings x g) old.net.arrivals o) (kept : IsWindowKept t changed alike w o)
      (sealed : (e : Duty) → Member net.duties e → may_wait net.settings (arrival_of e) g ≡ true → departure_place (in_order net) (departure_of e) < length pools) where
    same-at : (e : Duty) (p : ℕ) → get_or changed p true ≡ false → Member net.duties e → arrival_place net.arrivals (arrival_of e) ≡ p → may_wait net.settings (arrival_of e) g ≡ true → HasSameLabels old net walks pools e
    same-at e p free m place waits = renewing.same p free e m place (sealed e m waits)

    offset : (from end p : ℕ) → from ≤ p → p < end → (k : ℕ) × (p ≡ from + k) × (k < end - from)
    offset from end p a b = (p - from, omega (arith, a), omega (arith, a, b))

    pub window-in : (e : Duty) → Member net.duties e → may_wait net.settings (arrival_of e) g ≡ true → IsStill old.net e ⊎ ArrivesAlike e
    window-in e m waits =
        let place = arrival_place net.arrivals (arrival_of e) in
        let there = at-arrival net.arrivals (arrival_of e) (laid.arrives.every e m) in
        let inside = (window.exact place (arrival_of e) there).0 waits in
        let k = offset w.from w.end place inside.0 inside.1 in
        let p = w.from + k.0 in
        let q = o.from + k.0 in
        ⊎_elim {C = IsStill old.net e ⊎ ArrivesAlike e}
        (λ h.
        let twin = twins.arrivals p q h.1 in
        let is : twin.0 ≡ arrival_of e = some-same (slice_get net.arrivals p) twin.0 (arrival_of e) twin.2 (ap (slice_get net.arrivals) (sym k.1) ∙ there) in
        inl ((twin.3 e (sym is)).1 m, same-at e p h.0 m k.1 waits))
        (λ h. inr (p, q, renewing.shows p q h, k.1))
        (kept.kept k.0 k.2)

    pub window-out : (e : Duty) → Member old.net.duties e → may_wait net.settings (arrival_of e) g ≡ true → IsStill net e ⊎ ArrivedAlike e
    window-out e m waits =
        let place = arrival_place old.net.arrivals (arrival_of e) in
        let there = at-arrival old.net.arrivals (arrival_of e) (laid-old.arrives.every e m) in
        let inside = (old-window.exact place (arrival_of e) there).0 (same-settings old.net.settings net.settings settings (arrival_of e) g ∙ waits) in
        let k = offset o.from o.end place inside.0 inside.1 in
        let within : k.0 < w.end - w.from = subst (λ n. k.0 < n) (sym kept.long) k.2 in
        let p = w.from + k.0 in
        let q = o.from + k.0 in
        ⊎_elim {C = IsStill net e ⊎ ArrivedAlike e}
        (λ h.
        let twin = twins.arrivals p q h.1 in
        let is : twin.0 ≡ arrival_of e = some-same (slice_get old.net.arrivals q) twin.0 (arrival_of e) twin.1 (ap (slice_get old.net.arrivals) (sym k.1) ∙ there) in
        let known = (twin.3 e (sym is)).0 m in
        let at-place = place-arrival net.arrivals (arrival_of e) p (arrivals-distinct net laid.arrives) (twin.2 ∙ ap Some is) in
        inl (known, same-at e p h.0 known at-place waits))
        (λ h. inr (p, q, renewing.shows p q h, k.1))
        (kept.kept k.0 within)

-- over walks that have grown
pub renewing-grown : (old : BaseSweep) (net : Net) (before after : List (List ℕ)) (pools : List Labels) (changed : List Bool) (alike : List (Option ℕ)) → HasGrown before after
    → ((labels : Labels) → Member pools labels → AreCounted (λ (v : PairingVector). v.duties) before true labels) → IsRenewing old net before pools changed alike → IsRenewing old net after pools changed alike
renewing-grown old net before after pools changed alike grown whole renewing =
    let same : map (keyed net after) pools ≡ map (keyed net before) pools = same-map (keyed net after) (keyed net before) pools (λ labels m. keyed-grown before after grown net true labels (whole labels m)) in
    record {
      long = renewing.long;
      same = λ p h d m at lt. subst (λ (ps : List Shown). HaveSame (get_or ps (departure_place (in_order net) (departure_of d)) []) (get_or (keyed_pools old) (departure_place (in_order old.net) (departure_of d)) [])) (sym same) (renewing.same p h d m at lt);
      alike_long = renewing.alike_long;
      shows = λ p q h.
          let was = renewing.shows p q h in
          record {
            event = was.event;
            at = was.at;
            old_at = was.old_at;
            sealed = was.sealed;
            labels = was.labels;
            now = subst (λ (ps : List Shown). Arrived net old.base (sparing_of old) ps p was.labels) (sym same) was.now;
            was = was.was;
          };
    }

before-or-at : (k n : ℕ) → k < n + 1 → (k < n) ⊎ (k ≡ n)
before-or-at k n h = grind arith

-- with one pool more
module _ (old : BaseSweep) (net : Net) (laid : IsLaid net) (walks : List (List ℕ)) (pools : List Labels) (changed after : List Bool) (alike : List (Option ℕ)) (renewing : IsRenewing old net walks pools changed alike)
    (long : length after ≡ length changed) (less : (p : ℕ) → get_or after p true ≡ false → get_or changed p true ≡ false) (pool : Labels) (g : Departure) (at : slice_get (in_order net) (length pools) ≡ Some g)
    (own : (p : ℕ) → get_or after p true ≡ false → (d : Duty) → Member net.duties d → arrival_place net.arrivals (arrival_of d) ≡ p → departure_of d ≡ g
    → HaveSame (keyed net walks pool) (get_or (keyed_pools old) (departure_place (in_order old.net) g) [])) where
  abbrev Goal : ℕ → Duty → Type 0
  Goal n d = HaveSame (get_or (map (keyed net walks) (pools ++ pool ∷ [])) n []) (get_or (keyed_pools old) (departure_place (in_order old.net) (departure_of d)) [])

  pushed : map (keyed net walks) (pools ++ pool ∷ []) ≡ map (keyed net walks) pools ++ keyed net walks pool ∷ []
  pushed = map-append (keyed net walks) pools (pool ∷ [])

  as-long : length (map (keyed net walks) pools) ≡ length pools
  as-long = length-map pools (keyed net walks)

  -- what will come to an arrival no more shows the same
  abbrev Net-now : Network Duty PairingVector (List (List Leg)) ℕ ℕ
  Net-now = passed_network net old.base (sparing_of old)

  abbrev few : List Shown
  few = map (keyed net walks) pools

  abbrev more : List Shown
  more = map (keyed net walks) (pools ++ pool ∷ [])

  same-view : (e : Duty) → departure_place (in_order net) (departure_of e) < length pools → Views Net-now more e ≡ Views Net-now few e
  same-view e lt = ap (view Net-now e) (ap (λ (ps : List Shown). get_or ps (departure_place (in_order net) (departure_of e)) []) pushed
      ∙ get_old few (keyed net walks pool) [] (departure_place (in_order net) (departure_of e)) (omega (arith, lt, as-long)))

  shows-more : (p q : ℕ) → ShowsSame old net walks pools p q → ShowsSame old net walks (pools ++ pool ∷ []) p q
  shows-more p q was = record {
    event = was.event;
    at = was.at;
    old_at = was.old_at;
    sealed = λ d m is.
        let lt = was.sealed d m is in
        let longer : length (pools ++ pool ∷ []) ≡ length pools + 1 = length-append pools (pool ∷ []) in
        omega (arith, lt, longer);
    labels = was.labels;
    now = local-same is_at_most walk_at_most (Arriving Net-now (Views Net-now few) p) (Arriving Net-now (Views Net-now more) p) was.labels
        (λ v w s. (s.0, s.1, s.2, subst (λ (es : Shown). Member es (v, w)) (sym (same-view s.0 (was.sealed s.0 s.1 s.2))) s.3))
        (λ v w s. (s.0, s.1, s.2, subst (λ (es : Shown). Member es (v, w)) (same-view s.0 (was.sealed s.0 s.1 s.2)) s.3)) was.now;
    was = was.was;
  }

  pub renewing-more : IsRenewing old net walks (pools ++ pool ∷ []) after alike
  renewing-more = record {
    long = long ∙ renewing.long;
    same = λ p h d m is lt.
        let place = departure_place (in_order net) (departure_of d) in
        let at-d = at-departure (in_order net) (departure_of d) (leaves-in net laid.departs laid.ordered d m) in
        ⊎_elim {C = Goal place d}
        (λ k. subst (λ (ls : Shown). HaveSame ls (get_or (keyed_pools old) (departure_place (in_order old.net) (departure_of d)) []))
        (sym (ap (λ (ps : List Shown). get_or ps place []) pushed ∙ get_old (map (keyed net walks) pools) (keyed net walks pool) [] place (omega (arith, k, as-long))))
        (renewing.same p (less p h) d m is k))
        (λ k.
        let leaves : departure_of d ≡ g = some-same (slice_get (in_order net) place) (departure_of d) g at-d (ap (slice_get (in_order net)) k ∙ at) in
        subst (λ (ls : Shown). HaveSame ls (get_or (keyed_pools old) (departure_place (in_order old.net) (departure_of d)) []))
        (sym (ap (λ (ps : List Shown). get_or ps place []) pushed ∙ get_new (map (keyed net walks) pools) (keyed net walks pool) [] place (omega (arith, k, as-long))))
        (subst (λ (z : Departure). HaveSame (keyed net walks pool) (get_or (keyed_pools old) (departure_place (in_order old.net) z) [])) (sym leaves) (own p h d m is leaves)))
        (before-or-at place (length pools) (subst (λ n. place < n) (length-append pools (pool ∷ [])) lt));
    alike_long = renewing.alike_long;
    shows = λ p q h. shows-more p q (renewing.shows p q h);
  }

-- a mark that isn't set
pub mark-at : (changed : List Bool) (p : ℕ) → p < length changed → get_or changed p false ≡ false → get_or changed p true ≡ false
mark-at changed p within h = get-at changed p false true (at-within changed p false within ∙ ap Some h)

-- so many of a window are seen to be kept
abbrev pub AreKeptTo : Twins → List Bool → List (Option ℕ) → Window → Window → ℕ → Type 0
AreKeptTo t changed alike now old count = (k : ℕ) → k < count → IsAsItWas t changed alike (now.from + k) (old.from + k)

pub kept-more : (t : Twins) (changed : List Bool) (alike : List (Option ℕ)) (now old : Window) (count : ℕ) → AreKeptTo t changed alike now old count → IsAsItWas t changed alike (now.from + count) (old.from + count)
    → AreKeptTo t changed alike now old (count + 1)
kept-more t changed alike now old count so-far one k lt = ⊎_elim {C = IsAsItWas t changed alike (now.from + k) (old.from + k)}
    (so-far k)
    (λ e. subst (λ (n : ℕ). IsAsItWas t changed alike (now.from + n) (old.from + n)) (sym e) one)
    (before-or-at k count lt)

put-at : (xs : List (Option ℕ)) (i p : ℕ) (o : Option ℕ) (q : ℕ) → slice_get (set xs i o) p ≡ Some (Some q) → ((p ≡ i) × (o ≡ Some q)) ⊎ (slice_get xs p ≡ Some (Some q))
put-at [] i p o q h = inr h
put-at (x ∷ xs) zero zero o q h = inl (refl, (cc))
put-at (x ∷ xs) zero (suc p) o q h = inr h
put-at (x ∷ xs) (suc i) zero o q h = inr h
put-at (x ∷ xs) (suc i) (suc p) o q h = ⊎_elim {C = ((suc p ≡ suc i) × (o ≡ Some q)) ⊎ (slice_get xs p ≡ Some (Some q))} (λ k. inl (ap suc k.0, k.1)) (λ k. inr k) (put-at xs i p o q h)

-- an arrival more was seen to show what it showed
pub renewing-seen : (old : BaseSweep) (net : Net) (walks : List (List ℕ)) (pools : List Labels) (changed : List Bool) (alike : List (Option ℕ)) → IsRenewing old net walks pools changed alike → (place was : ℕ) → ShowsSame old net walks pools place was
    → IsRenewing old net walks pools changed (set alike place (Some was))
renewing-seen old net walks pools changed alike renewing place was one = record {
  long = renewing.long;
  same = renewing.same;
  alike_long = set-long alike place (Some was) ∙ renewing.alike_long;
  shows = λ p q h. ⊎_elim {C = ShowsSame old net walks pools p q}
      (λ k.
      let there : was ≡ q = some-same (Some was) was q refl k.1 in
      subst (λ (n : ℕ). ShowsSame old net walks pools p n) there (subst (λ (n : ℕ). ShowsSame old net walks pools n was) (sym k.0) one))
      (renewing.shows p q) (put-at alike place p (Some was) q h);
}
