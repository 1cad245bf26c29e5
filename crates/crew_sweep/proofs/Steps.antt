-- The pass begins, and goes on by one departure.
use Rattle.std.proofs.Common.{◌≡◌, ◌∙◌, ◌+◌, ◌-◌, ℕ, Bool, true, false, List, [], ◌∷◌, ◌++◌, length, map, take, drop, get_or, Option, Some, None, inl, inr, refl, sym, ap, subst, ⊎_elim, length-append}
use Rattle.std.specs.Prelude.{slice_get}
use Rattle.std.specs.List.{flat_map}
use Rattle.std.proofs.lemmas.List.{map-append}
use Rattle.crew_anchor.specs.Machinery.Bounds.{is_ready}
use Rattle.crew_anchor.specs.declared.resource.AnchoredResource.{AnchoredResource}
use Rattle.crew_net.specs.Events.{IsWindow}
use Rattle.crew_net.specs.Nets.{Net}
use Rattle.crew_net.specs.Positions.{in_order}
use Rattle.crew_net.specs.declared.window.Window.{Window}
use Rattle.crew_net.proofs.Slices.{member-got, part-out}
use Rattle.crew_pairing.specs.Events.{may_wait}
use Rattle.crew_pairing.specs.Keys.{walk_at_most}
use Rattle.crew_pairing.specs.Legs.{Leg}
use Rattle.crew_pairing.specs.declared.duty.Duty.{Duty}
use Rattle.crew_pairing.specs.declared.events.Arrival.{Arrival}
use Rattle.crew_pairing.specs.declared.events.Departure.{Departure}
use Rattle.crew_pairing.specs.declared.vector.PairingVector.{PairingVector}
use Rattle.crew_pool.specs.Counted.{AreCounted}
use Rattle.crew_pool.specs.LabelWalks.{IsPoolOf, shown}
use Rattle.crew_pool.specs.declared.label_walk.LabelWalk.{LabelWalk}
use Rattle.crew_resource.specs.Events.{Swept, labelled}
use Rattle.crew_resource.specs.Members.{Member}
use Rattle.crew_resource.proofs.Loop.{swept_more, swept_none}
use Rattle.crew_resource.proofs.Members.{Member-append}
use Rattle.crew_rules.specs.declared.settings.Settings.{Settings}
use Rattle.crew_carry.specs.crew_step.Pools.{waiting}
use Rattle.crew_carry.specs.crew_step.Walks.{HasGrown}
use Rattle.crew_carry.proofs.crew_step_lemmas.Grown.{all-shown-grown}
use Rattle.crew_sweep.specs.Machinery.Numbered.{idle_at, window_at}
use Rattle.crew_sweep.specs.Machinery.Passing.{AreLabels, AreMade, IsMade, IsPassable, IsPassing, passed_network}
use Rattle.crew_sweep.specs.Sweeps.{keyed}
use Rattle.crew_sweep.proofs.Fronts.{waits}
use Rattle.crew_sweep.proofs.Gathered as gathered
use Rattle.crew_sweep.proofs.Shown.{passing-grown}
use Rattle.crew_vector.specs.Dominance.{is_at_most}
use Rattle.crew_vector.proofs.Orders.{walk-order}
use Rattle.crew_vector.proofs.Steps.{vector-order}

abbrev Labels : Type 0
Labels = List (PairingVector × LabelWalk)

pub passing-none : (net : Net) (base : List ℕ) (r : AnchoredResource) (walks : List (List ℕ)) (made : List Bool) (held : List Labels) → length made ≡ length net.arrivals → length held ≡ length net.arrivals
    → ((place : ℕ) → IsMade made place → ⊥) → ((labels : Labels) → Member held labels → labels ≡ []) → IsPassing net base r walks [] made held
passing-none net base r walks made held marks long none empty = record {
  swept = swept_none Duty PairingVector (List (List Leg)) ℕ (passed_network net base r) is_at_most walk_at_most (IsMade made) (λ x. get_or (map (keyed net walks) held) x []) none;
  marks = marks;
  long = long;
  settled = λ labels m. subst (λ (ls : Labels). IsPoolOf is_at_most (map (shown walks) ls) (map (shown walks) ls)) (sym (empty labels m)) (record { among = λ v w k. absurd k; covers = λ v w k. absurd k; alone = λ v w x y k. absurd k });
  whole = λ labels m. absurd m;
  pending = λ labels m. subst (AreCounted (λ (v : PairingVector). v.duties) walks false) (sym (empty labels m)) (λ l k. absurd k);
  pooled = λ labels m. absurd m;
  arrived = λ labels m. subst (AreLabels r (length net.duties) walks) (sym (empty labels m)) (λ l k. absurd k);
}

waiting-same : (before after : List (List ℕ)) (idle : Option PairingVector) (arrivals : List Labels) → ((labels : Labels) → Member arrivals labels → map (shown after) labels ≡ map (shown before) labels)
    → waiting after arrivals idle ≡ waiting before arrivals idle
waiting-same before after idle arrivals h = ap (λ es. es ++ labelled idle []) (each arrivals h)
  where
    each : (arrivals : List Labels) → ((labels : Labels) → Member arrivals labels → map (shown after) labels ≡ map (shown before) labels) → flat_map (map (shown after)) arrivals ≡ flat_map (map (shown before)) arrivals
    each [] h = refl
    each (a ∷ more') h = ap (λ es. es ++ flat_map (map (shown after)) more') (h a (inl refl)) ∙ ap (λ es. map (shown before) a ++ es) (each more' (λ labels m. h labels (inr m)))

-- what may be waited on stands at its place
open-arrival : (s : Settings) (o : Option Arrival) (p : Option Departure) (g : Departure) → p ≡ Some g → window_at s o p ≡ true → (x : Arrival) × (o ≡ Some x) × (may_wait s x g ≡ true)
open-arrival s None p g e h = absurd (let q : ⊥ = (cc) in q)
open-arrival s (Some x) p g e h = (x, refl, ap (window_at s (Some x)) (sym e) ∙ h)

module _ (net : Net) (positions : List ℕ) (passable : IsPassable net positions) (base : List ℕ) (r : AnchoredResource) where
  module _ (before after : List (List ℕ)) (grown : HasGrown before after) (pools : List Labels) (made : List Bool) (held : List Labels) (passing : IsPassing net base r before pools made held)
      (g : Departure) (at : slice_get (in_order net) (length pools) ≡ Some g) (w : Window) (window : IsWindow (λ x. may_wait net.settings x g) net.arrivals w)
      (idle : Option PairingVector) (idle-is : idle ≡ idle_at r base (Some g)) (idle-ready : (v : PairingVector) → idle ≡ Some v → is_ready r 0 v)
      (pool : Labels) (pooled : IsPoolOf is_at_most (waiting before (take (w.end - w.from) (drop w.from held)) idle) (map (shown after) pool))
      (counts : AreCounted (λ (v : PairingVector). v.duties) after true pool) where
    there : IsPassing net base r after pools made held
    there = passing-grown before after grown net base r pools made held passing

    waits-still : waiting after (take (w.end - w.from) (drop w.from held)) idle ≡ waiting before (take (w.end - w.from) (drop w.from held)) idle
    waits-still = waiting-same before after idle (take (w.end - w.from) (drop w.from held)) (λ labels m.
        let p = part-out held w.from w.end labels window.ordered m in
        all-shown-grown (λ (v : PairingVector). v.duties) before after false grown labels (passing.pending labels (member-got held p.0 labels p.3)))

    local : IsPoolOf is_at_most (waiting after (take (w.end - w.from) (drop w.from held)) idle) (map (shown after) pool)
    local = subst (λ (cs : List (PairingVector × List ℕ)). IsPoolOf is_at_most cs (map (shown after) pool)) (sym waits-still) pooled

    pool-labels : AreLabels r (length net.duties) after pool
    pool-labels = gathered.pool-labels net base r (length pools) g at w window after held there.long idle idle-is there.arrived idle-ready pool local

    module _ (are-made : AreMade made w) where
      waited : (x : ℕ) → window_at net.settings (slice_get net.arrivals x) (slice_get (in_order net) (length pools)) ≡ true → IsMade made x
      waited x open' =
          let a = open-arrival net.settings (slice_get net.arrivals x) (slice_get (in_order net) (length pools)) g at open' in
          let within = (window.exact x a.0 a.1).0 a.2 in
          are-made x within.0 within.1

      goes-on : Swept (passed_network net base r) is_at_most walk_at_most (length pools + 1) (map (keyed net after) pools ++ keyed net after pool ∷ []) (IsMade made) (λ x. get_or (map (keyed net after) held) x [])
      goes-on = swept_more Duty PairingVector (List (List Leg)) ℕ (passed_network net base r) is_at_most walk_at_most vector-order walk-order waits
          (length pools) (map (keyed net after) pools) (IsMade made) (λ x. get_or (map (keyed net after) held) x []) there.swept (keyed net after pool) waited
          (gathered.pool-local net base r (length pools) g at w window after held there.long idle idle-is there.arrived idle-ready pool local passable.rise)

      last : (P : Labels → Type 0) → ((labels : Labels) → Member pools labels → P labels) → P pool → (labels : Labels) → Member (pools ++ pool ∷ []) labels → P labels
      last P old this labels m = ⊎_elim {C = P labels} (old labels) (λ k. ⊎_elim {C = P labels} (λ e. subst P e this) (λ b. absurd b) k) (Member-append pools (pool ∷ []) labels m)

      pub passing-more : IsPassing net base r after (pools ++ pool ∷ []) made held
      passing-more = record {
        swept = subst (λ (ps : List (List (PairingVector × List (List Leg)))). Swept (passed_network net base r) is_at_most walk_at_most (length (pools ++ pool ∷ [])) ps (IsMade made) (λ x. get_or (map (keyed net after) held) x []))
            (sym (map-append (keyed net after) pools (pool ∷ [])))
            (subst (λ n. Swept (passed_network net base r) is_at_most walk_at_most n (map (keyed net after) pools ++ keyed net after pool ∷ []) (IsMade made) (λ x. get_or (map (keyed net after) held) x [])) (sym (length-append pools (pool ∷ []))) goes-on);
        marks = there.marks;
        long = there.long;
        settled = there.settled;
        whole = last (AreCounted (λ (v : PairingVector). v.duties) after true) there.whole counts;
        pending = there.pending;
        pooled = last (AreLabels r (length net.duties) after) there.pooled pool-labels;
        arrived = there.arrived;
      }
