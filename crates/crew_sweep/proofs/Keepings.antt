-- A departure whose pool is kept.
use Rattle.std.proofs.Common.{◌≡◌, ◌∙◌, ◌<◌, ◌≤◌, ◌+◌, ℕ, Bool, true, List, [], ◌∷◌, ◌++◌, length, map, get_or, sym, ap, subst, ⊎_elim, length-append}
use Rattle.std.specs.Prelude.{slice_get}
use Rattle.std.proofs.lemmas.List.{length-map, map-append}
use Rattle.crew_anchor.specs.Machinery.Bounds.{is_ready}
use Rattle.crew_anchor.specs.declared.resource.AnchoredResource.{AnchoredResource}
use Rattle.crew_net.specs.Machinery.Numbered.{arrival_place, departure_place}
use Rattle.crew_net.specs.Nets.{Net}
use Rattle.crew_net.specs.Positions.{in_order}
use Rattle.crew_pairing.specs.Events.{arrival_of, departure_of}
use Rattle.crew_pairing.specs.Keys.{walk_at_most}
use Rattle.crew_pairing.specs.Legs.{Leg}
use Rattle.crew_pairing.specs.declared.duty.Duty.{Duty}
use Rattle.crew_pairing.specs.declared.vector.PairingVector.{PairingVector}
use Rattle.crew_pool.specs.Counted.{AreCounted}
use Rattle.crew_pool.specs.LabelWalks.{shown}
use Rattle.crew_pool.specs.Ranks.{AreRanked, by_key, key_at}
use Rattle.crew_pool.specs.declared.label_walk.LabelWalk.{LabelWalk}
use Rattle.crew_resource.specs.Events.{FromFronts, Network, Swept, Views}
use Rattle.crew_resource.specs.Labels.{IsLocal}
use Rattle.crew_resource.specs.Members.{Member}
use Rattle.crew_resource.proofs.Loop.{swept_with}
use Rattle.crew_resource.proofs.Members.{Member-append, Member-map_in, Member-map_out}
use Rattle.crew_carry.specs.crew_step.Walks.{HasGrown}
use Rattle.crew_sweep.specs.Machinery.Numbered.{window_at}
use Rattle.crew_sweep.specs.Machinery.Passing.{AreLabels, IsLabel, IsMade, IsPassable, IsPassing, passed_network}
use Rattle.crew_sweep.specs.Sweeps.{keyed}
use Rattle.crew_sweep.proofs.Fronts.{waits}
use Rattle.crew_sweep.proofs.Before.{sealed-at}
use Rattle.crew_sweep.proofs.Shown.{by_rank, passing-grown}
use Rattle.crew_vector.specs.Dominance.{is_at_most}
use Rattle.crew_vector.proofs.Orders.{walk-order}
use Rattle.crew_vector.proofs.Steps.{vector-order}

abbrev Labels : Type 0
Labels = List (PairingVector × LabelWalk)

-- what is carried has labels as it had
pub carried-labels : (r : AnchoredResource) (olds news : List Duty) (from to : List (List ℕ)) (old now : Labels) → by_key news (map (shown to) now) ≡ by_key olds (map (shown from) old)
    → AreRanked (length news) (map (shown to) now) → AreLabels r (length olds) from old → AreLabels r (length news) to now
carried-labels r olds news from to old now same ranked labels l m =
    let there = Member-map_in (by_rank news) (map (shown to) now) (shown to l) (Member-map_in (shown to) now l m) in
    let back = Member-map_out (by_rank olds) (map (shown from) old) (by_rank news (shown to l)) (subst (λ es. Member es (by_rank news (shown to l))) same there) in
    let was = Member-map_out (shown from) old back.0 back.1 in
    let label : IsLabel r (length olds) back.0 = subst (IsLabel r (length olds)) was.2 (labels was.0 was.1) in
    let value : back.0.0 ≡ l.0 = ap (λ z. z.0) back.2 in
    let walk : map (key_at olds) back.0.1 ≡ map (key_at news) (shown to l).1 = ap (λ z. z.1) back.2 in
    let long : length back.0.1 ≡ length (shown to l).1 = sym (length-map back.0.1 (key_at olds)) ∙ (ap (λ (ks : List (List Leg)). length ks) walk ∙ length-map (shown to l).1 (key_at news)) in
    record {
      ranked = ranked (shown to l) (Member-map_in (shown to) now l m);
      few = subst (λ n. n ≤ r.max_duties) long label.few;
      ready = subst (λ n. is_ready r n l.0) long (subst (λ v. is_ready r (length back.0.1) v) value label.ready);
    }

module _ (net : Net) (positions : List ℕ) (passable : IsPassable net positions) (base : List ℕ) (r : AnchoredResource) where
  abbrev Num : Network Duty PairingVector (List (List Leg)) ℕ ℕ
  Num = passed_network net base r

  -- the duties on which a departure waits have left before it
  pub left-before : (i : ℕ) (e : Duty) → Member net.duties e → window_at net.settings (slice_get net.arrivals (arrival_place net.arrivals (arrival_of e))) (slice_get (in_order net) i) ≡ true
      → departure_place (in_order net) (departure_of e) < i
  left-before i e m open' = sealed-at net passable.departs passable.ordered passable.arrives e i m (passable.sound e m) open'

  -- one departure more, with what all that it waits on leave
  module _ (before after : List (List ℕ)) (grown : HasGrown before after) (pools : List Labels) (made : List Bool) (held : List Labels) (passing : IsPassing net base r before pools made held)
      (pool : Labels) (local : IsLocal is_at_most walk_at_most (FromFronts Num (Views Num (map (keyed net after) pools)) (length pools)) (keyed net after pool))
      (counts : AreCounted (λ (v : PairingVector). v.duties) after true pool) (labels : AreLabels r (length net.duties) after pool) where
    there : IsPassing net base r after pools made held
    there = passing-grown before after grown net base r pools made held passing

    goes-on : Swept Num is_at_most walk_at_most (length pools + 1) (map (keyed net after) pools ++ keyed net after pool ∷ []) (IsMade made) (λ x. get_or (map (keyed net after) held) x [])
    goes-on = swept_with Duty PairingVector (List (List Leg)) ℕ Num is_at_most walk_at_most vector-order walk-order waits
        (length pools) (map (keyed net after) pools) (IsMade made) (λ x. get_or (map (keyed net after) held) x []) there.swept (keyed net after pool)
        (λ e m open'. left-before (length pools) e m open') local

    last : (P : Labels → Type 0) → ((ls : Labels) → Member pools ls → P ls) → P pool → (ls : Labels) → Member (pools ++ pool ∷ []) ls → P ls
    last P old this ls m = ⊎_elim {C = P ls} (old ls) (λ k. ⊎_elim {C = P ls} (λ e. subst P e this) (λ b. absurd b) k) (Member-append pools (pool ∷ []) ls m)

    pub passing-with : IsPassing net base r after (pools ++ pool ∷ []) made held
    passing-with = record {
      swept = subst (λ (ps : List (List (PairingVector × List (List Leg)))). Swept Num is_at_most walk_at_most (length (pools ++ pool ∷ [])) ps (IsMade made) (λ x. get_or (map (keyed net after) held) x []))
          (sym (map-append (keyed net after) pools (pool ∷ [])))
          (subst (λ n. Swept Num is_at_most walk_at_most n (map (keyed net after) pools ++ keyed net after pool ∷ []) (IsMade made) (λ x. get_or (map (keyed net after) held) x [])) (sym (length-append pools (pool ∷ []))) goes-on);
      marks = there.marks;
      long = there.long;
      settled = there.settled;
      whole = last (AreCounted (λ (v : PairingVector). v.duties) after true) there.whole counts;
      pending = there.pending;
      pooled = last (AreLabels r (length net.duties) after) there.pooled labels;
      arrived = there.arrived;
    }
