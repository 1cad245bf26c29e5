-- What waits for a departure, by rank and by key.
use Rattle.std.proofs.Common.{◌≡◌, ◌∙◌, ◌<◌, ◌-◌, ℕ, true, List, [], ◌∷◌, ◌++◌, length, map, take, drop, get_or, Option, Some, None, inl, inr, refl, sym, ap, subst, ⊎_elim, zero, suc, arith}
use Rattle.std.specs.Prelude.{slice_get}
use Rattle.crew_anchor.specs.Machinery.Bounds.{is_ready}
use Rattle.crew_anchor.specs.declared.resource.AnchoredResource.{AnchoredResource}
use Rattle.crew_net.specs.Events.{IsWindow}
use Rattle.crew_net.specs.Nets.{Net}
use Rattle.crew_net.specs.Positions.{in_order}
use Rattle.crew_net.specs.declared.window.Window.{Window}
use Rattle.crew_net.proofs.Numbers.{get-within}
use Rattle.crew_net.proofs.Slices.{get-at, listed-at, map-get, map-got, member-got, part-in, part-out}
use Rattle.crew_pairing.specs.Duties.{RiseByKey}
use Rattle.crew_pairing.specs.Events.{may_wait}
use Rattle.crew_pairing.specs.Keys.{walk_at_most}
use Rattle.crew_pairing.specs.Legs.{Leg}
use Rattle.crew_pairing.specs.declared.events.Arrival.{Arrival}
use Rattle.crew_pairing.specs.declared.events.Departure.{Departure}
use Rattle.crew_pairing.specs.declared.vector.PairingVector.{PairingVector}
use Rattle.crew_pool.specs.LabelWalks.{IsPoolOf, shown}
use Rattle.crew_pool.specs.Ranks.{by_key}
use Rattle.crew_pool.specs.declared.label_walk.LabelWalk.{LabelWalk}
use Rattle.crew_pool.proofs.RankLemmas.{pool_of_rising}
use Rattle.crew_resource.specs.Events.{FromPools, labelled}
use Rattle.crew_resource.specs.Labels.{IsLocal}
use Rattle.crew_resource.specs.Members.{Member}
use Rattle.crew_resource.proofs.Members.{Member-append, Member-append_left, Member-append_right, Member-flat_map_in, Member-flat_map_out, Member-map_in, Member-map_out}
use Rattle.crew_carry.specs.crew_step.Pools.{waiting}
use Rattle.crew_sweep.specs.Machinery.Numbered.{idle_at, window_at}
use Rattle.crew_sweep.specs.Machinery.Passing.{AreLabels, IsLabel, passed_network}
use Rattle.crew_sweep.specs.Sweeps.{keyed}
use Rattle.crew_sweep.proofs.Fronts.{local-same}
use Rattle.crew_sweep.proofs.Shown.{by_rank, keyed-in, keyed-out}
use Rattle.crew_vector.specs.Dominance.{is_at_most}

abbrev Labels : Type 0
Labels = List (PairingVector × LabelWalk)

pub labelled-out : {V W : Type 0} (o : Option V) (w : W) (x : V × W) → Member (labelled o w) x → (o ≡ Some x.0) × (x.1 ≡ w)
labelled-out None w x m = absurd m
labelled-out (Some v) w x (inl e) = (ap (λ p. Some p.0) e, ap (λ p. p.1) (sym e))
labelled-out (Some v) w x (inr m) = absurd m

pub labelled-in : {V W : Type 0} (o : Option V) (w : W) (v : V) → o ≡ Some v → Member (labelled o w) (v, w)
labelled-in o w v e = subst (λ z. Member (labelled z w) (v, w)) (sym e) (inl refl)

module _ (net : Net) (base : List ℕ) (r : AnchoredResource) (i : ℕ) (g : Departure) (at : slice_get (in_order net) i ≡ Some g)
    (w : Window) (window : IsWindow (λ x. may_wait net.settings x g) net.arrivals w) (walks : List (List ℕ)) (held : List Labels) (long : length held ≡ length net.arrivals)
    (idle : Option PairingVector) (idle-is : idle ≡ idle_at r base (Some g)) where
  abbrev pub waited : List Labels
  waited = take (w.end - w.from) (drop w.from held)

  abbrev pub arrived : ℕ → List (PairingVector × List (List Leg))
  arrived x = get_or (map (keyed net walks) held) x []

  abbrev cands : List (PairingVector × List ℕ)
  cands = waiting walks waited idle

  open-at : (x : ℕ) (a : Arrival) → slice_get net.arrivals x ≡ Some a → may_wait net.settings a g ≡ true → window_at net.settings (slice_get net.arrivals x) (slice_get (in_order net) i) ≡ true
  open-at x a p h = ap (λ o. window_at net.settings o (slice_get (in_order net) i)) p ∙ (ap (window_at net.settings (Some a)) at ∙ h)

  at-open : (x : ℕ) (a : Arrival) → slice_get net.arrivals x ≡ Some a → window_at net.settings (slice_get net.arrivals x) (slice_get (in_order net) i) ≡ true → may_wait net.settings a g ≡ true
  at-open x a p h = sym (ap (λ o. window_at net.settings o (slice_get (in_order net) i)) p ∙ ap (window_at net.settings (Some a)) at) ∙ h

  arrival-of : (x : ℕ) (labels : Labels) → slice_get held x ≡ Some labels → (a : Arrival) × (slice_get net.arrivals x ≡ Some a)
  arrival-of x labels h = stands net.arrivals x (subst (λ n. x < n) long (get-within held x labels h))
    where
      stands : (xs : List Arrival) (x : ℕ) → x < length xs → (a : Arrival) × (slice_get xs x ≡ Some a)
      stands [] x h = absurd (omega (arith, h))
      stands (a ∷ xs) zero h = (a, refl)
      stands (a ∷ xs) (suc x) h = stands xs x (omega (arith, h))

  from-arrival : (e : PairingVector × List ℕ) (labels : Labels) → Member waited labels → Member (map (shown walks) labels) e → FromPools (passed_network net base r) arrived i e.0 (by_rank net.duties e).1
  from-arrival e labels m n =
      let p = part-out held w.from w.end labels window.ordered m in
      let a = arrival-of p.0 labels p.3 in
      let waits = (window.exact p.0 a.0 a.1).1 (p.1, p.2) in
      let there : arrived p.0 ≡ keyed net walks labels = get-at (map (keyed net walks) held) p.0 (keyed net walks labels) [] (map-get (keyed net walks) held p.0 labels p.3) in
      inr (p.0, e.0, open-at p.0 a.0 a.1 waits, subst (λ es. Member es (by_rank net.duties e)) (sym there) (keyed-in net walks labels e n), refl)

  from-idle : (e : PairingVector × List ℕ) → Member (labelled idle []) e → FromPools (passed_network net base r) arrived i e.0 (by_rank net.duties e).1
  from-idle e m =
      let k = labelled-out idle [] e m in
      let none : (by_rank net.duties e).1 ≡ [] = ap (λ z. (by_rank net.duties (e.0, z)).1) k.1 in
      inl (none, ap (idle_at r base) at ∙ (sym idle-is ∙ k.0))

  cand-to : (v : PairingVector) (k : List (List Leg)) → Member (by_key net.duties cands) (v, k) → FromPools (passed_network net base r) arrived i v k
  cand-to v k m =
      let e = Member-map_out (by_rank net.duties) cands (v, k) m in
      let found : FromPools (passed_network net base r) arrived i e.0.0 (by_rank net.duties e.0).1 =
      ⊎_elim {C = FromPools (passed_network net base r) arrived i e.0.0 (by_rank net.duties e.0).1} (λ a.
      let l = Member-flat_map_out (map (shown walks)) waited e.0 a in
      from-arrival e.0 l.0 l.1 l.2) (from-idle e.0) (Member-append _ (labelled idle []) e.0 e.1)
      in
      subst (λ (z : PairingVector × List (List Leg)). FromPools (passed_network net base r) arrived i z.0 z.1) e.2 found

  cand-in : (v : PairingVector) (k : List ℕ) → Member cands (v, k) → Member (by_key net.duties cands) (by_rank net.duties (v, k))
  cand-in v k m = Member-map_in (by_rank net.duties) cands (v, k) m

  to-arrival : (x : ℕ) (u : PairingVector) (k : List (List Leg)) → window_at net.settings (slice_get net.arrivals x) (slice_get (in_order net) i) ≡ true → Member (arrived x) (u, k)
      → Member (by_key net.duties cands) (u, k)
  to-arrival x u k open' m =
      let l = listed-at (map (keyed net walks) held) x (u, k) m in
      let h = map-got (keyed net walks) held x l.0 l.1 in
      let e = keyed-out net walks h.0 (u, k) (subst (λ es. Member es (u, k)) (sym h.2) l.2) in
      let a = arrival-of x h.0 h.1 in
      let inside = (window.exact x a.0 a.1).0 (at-open x a.0 a.1 open') in
      let one = part-in held w.from w.end x h.0 h.1 inside.0 inside.1 in
      let all = Member-append_left _ (labelled idle []) e.0 (Member-flat_map_in (map (shown walks)) waited h.0 e.0 one e.1) in
      subst (Member (by_key net.duties cands)) e.2 (Member-map_in (by_rank net.duties) cands e.0 all)

  cand-from : (v : PairingVector) (k : List (List Leg)) → FromPools (passed_network net base r) arrived i v k → Member (by_key net.duties cands) (v, k)
  cand-from v k = ⊎_elim
      (λ c.
      let has : idle ≡ Some v = idle-is ∙ (sym (ap (idle_at r base) at) ∙ c.1) in
      let m = Member-append_right (waiting walks waited None) (labelled idle []) (v, []) (labelled-in idle [] v has) in
      subst (λ z. Member (by_key net.duties cands) (v, z)) (sym c.0) (cand-in v [] (idle-last m)))
      (λ c. subst (λ z. Member (by_key net.duties cands) (z, k)) (sym c.4) (to-arrival c.0 c.1 k c.2 c.3))
    where
      idle-last : Member (waiting walks waited None ++ labelled idle []) (v, []) → Member cands (v, [])
      idle-last m = ⊎_elim {C = Member cands (v, [])} (λ a. ⊎_elim {C = Member cands (v, [])} (λ b. Member-append_left _ (labelled idle []) (v, []) b) (λ b. absurd b) (Member-append _ [] (v, []) a)) (λ b. Member-append_right _ (labelled idle []) (v, []) b)
          (Member-append (waiting walks waited None) (labelled idle []) (v, []) m)

  module _ (arrived-labels : (labels : Labels) → Member held labels → AreLabels r (length net.duties) walks labels) (idle-ready : (v : PairingVector) → idle ≡ Some v → is_ready r 0 v) where
    cand-label : (e : PairingVector × List ℕ) → Member cands e → IsLabel r (length net.duties) e
    cand-label e m = ⊎_elim {C = IsLabel r (length net.duties) e}
        (λ a.
        let l = Member-flat_map_out (map (shown walks)) waited e a in
        let p = part-out held w.from w.end l.0 window.ordered l.1 in
        let s = Member-map_out (shown walks) l.0 e l.2 in
        subst (IsLabel r (length net.duties)) s.2 (arrived-labels l.0 (member-got held p.0 l.0 p.3) s.0 s.1))
        (λ b.
        let k = labelled-out idle [] e b in
        subst (IsLabel r (length net.duties)) (ap (λ z. (e.0, z)) (sym k.1)) (record { ranked = tt; few = omega arith; ready = idle-ready e.0 k.0 }))
        (Member-append _ (labelled idle []) e m)

    module _ (pool : Labels) (local : IsPoolOf is_at_most cands (map (shown walks) pool)) where
      pub pool-labels : AreLabels r (length net.duties) walks pool
      pool-labels l m = cand-label (shown walks l) (local.among (shown walks l).0 (shown walks l).1 (Member-map_in (shown walks) pool l m))

      pub pool-local : RiseByKey net.duties → IsLocal is_at_most walk_at_most (FromPools (passed_network net base r) arrived i) (keyed net walks pool)
      pool-local rise = local-same is_at_most walk_at_most (λ v k. Member (by_key net.duties cands) (v, k)) (FromPools (passed_network net base r) arrived i) (keyed net walks pool) cand-to cand-from
          (pool_of_rising is_at_most net.duties cands (map (shown walks) pool) rise (λ e m. (cand-label e m).ranked) local)
