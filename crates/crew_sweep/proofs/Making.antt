-- What boards into an arrival, and its pool beside those that are made.
use Rattle.std.proofs.Common.{◌≡◌, ◌∙◌, ◌<◌, ◌≤◌, ◌+◌, ℕ, zero, suc, Bool, true, false, set, ℤ, pos, ◌+ℤ◌, ◌&&◌, List, [], ◌∷◌, ◌++◌, length, map, get_or, Option, Some, None, refl, sym, ap, subst, ⊎_elim, arith, true≢false, length-append}
use Rattle.std.specs.Prelude.{int_le, slice_get}
use Rattle.std.specs.List.Sorted.{IsPermutation}
use Rattle.std.proofs.lemmas.List.Sorted.{IsPermutation-sym}
use Rattle.std.proofs.lemmas.Bool.Decides.{eqb_tells}
use Rattle.std.proofs.lemmas.Grind.{get_or-set_at}
use Rattle.std.proofs.lemmas.Bool.{and_parts}
use Rattle.std.proofs.lemmas.Int.{ints}
use Rattle.std.proofs.lemmas.List.{get_or-set_other, map-append}
use Rattle.std.proofs.lemmas.Option.{cond_some}
use Rattle.crew_anchor.specs.Machinery.AnchorLaws.{anchored_bounds}
use Rattle.crew_anchor.specs.Machinery.Bounds.{is_ready}
use Rattle.crew_anchor.specs.Stages.{anchored_board, flown, is_within_caps_at}
use Rattle.crew_anchor.specs.declared.resource.AnchoredResource.{AnchoredResource}
use Rattle.crew_net.specs.Events.{arrives_at}
use Rattle.crew_net.specs.Machinery.Numbered.{arrival_place, departure_place}
use Rattle.crew_net.specs.Nets.{Net}
use Rattle.crew_net.specs.Positions.{in_order}
use Rattle.crew_net.specs.Ranks.{ranks_where}
use Rattle.crew_net.proofs.ArrivalPlaces.{ranks-in, ranks-out}
use Rattle.crew_net.proofs.Numbers.{arrival-itself, at-arrival, get-within, place-arrival, place-departure, same-arrival}
use Rattle.crew_net.proofs.Orders.{arrivals-distinct, in-order-distinct}
use Rattle.crew_net.proofs.Slices.{at-within, item-in, map-or, member-got, member-place, set-long, some-same}
use Rattle.crew_pairing.specs.Events.{IsSound, arrival_of, departure_of}
use Rattle.crew_pairing.specs.Keys.{walk_at_most}
use Rattle.crew_pairing.specs.Legs.{Leg}
use Rattle.crew_pairing.specs.declared.duty.Duty.{Duty}
use Rattle.crew_pairing.specs.declared.events.Arrival.{Arrival}
use Rattle.crew_pairing.specs.declared.vector.PairingVector.{PairingVector}
use Rattle.crew_pool.specs.Counted.{AreCounted}
use Rattle.crew_pool.specs.LabelWalks.{IsPoolOf, shown}
use Rattle.crew_pool.specs.Ranks.{by_key, key_at}
use Rattle.crew_pool.specs.declared.label_walk.LabelWalk.{LabelWalk}
use Rattle.crew_pool.proofs.MergeLemmas.{Member-set_out}
use Rattle.crew_pool.proofs.Permuted.{Member-permuted}
use Rattle.crew_pool.proofs.RankLemmas.{pool_of_rising}
use Rattle.crew_resource.specs.Events.{Arriving, Network, Views, labelled}
use Rattle.crew_resource.specs.Labels.{IsLocal}
use Rattle.crew_resource.specs.Members.{Each, Member}
use Rattle.crew_resource.proofs.Members.{Member-flat_map_in, Member-flat_map_out, Member-map_in, Member-map_out}
use Rattle.crew_resource.proofs.Loop.{swept_made}
use Rattle.crew_resource.proofs.Pools.{view_in, view_out}
use Rattle.crew_carry.specs.crew_step.Pools.{boarded, boarding}
use Rattle.crew_sweep.specs.Machinery.Passing.{AreLabels, HaveStayed, IsLabel, IsMade, IsPassable, IsPassing, IsSealed, passed_network}
use Rattle.crew_sweep.specs.Sweeps.{keyed}
use Rattle.crew_sweep.proofs.Fronts.{local-same}
use Rattle.crew_sweep.proofs.Gathered.{labelled-in, labelled-out}
use Rattle.crew_sweep.proofs.Parts.{own}
use Rattle.crew_sweep.proofs.Shown.{by_rank, key-of, keyed-in, keyed-out}
use Rattle.crew_vector.specs.Dominance.{is_at_most}

abbrev Labels : Type 0
Labels = List (PairingVector × LabelWalk)

abbrev Ranked : Type 0
Ranked = PairingVector × List ℕ

-- a rank more
snoc-key : (ds : List Duty) (ranks : List ℕ) (rank : ℕ) (d : Duty) → slice_get ds rank ≡ Some d → map (key_at ds) (ranks ++ rank ∷ []) ≡ map (key_at ds) ranks ++ d.key ∷ []
snoc-key ds ranks rank d h = map-append (key_at ds) ranks (rank ∷ []) ∙ ap (λ k. map (key_at ds) ranks ++ k ∷ []) (key-of ds rank d h)

pub snoc-each : (P : ℕ → Type 0) (ns : List ℕ) (n : ℕ) → Each P ns → P n → Each P (ns ++ n ∷ [])
snoc-each P [] n h k = (k, tt)
snoc-each P (m ∷ ns) n h k = (h.0, snoc-each P ns n h.1 k)

-- what boards is one of the labels, a duty later
module _ (r : AnchoredResource) (items : List Duty) (rank : ℕ) (labels : List Ranked) where
  pub boarding-out : (o : Option Duty) (e : Ranked) → Member (boarding (anchored_board r) o rank labels) e
      → (d : Duty) × (o ≡ Some d) × (l : Ranked) × Member labels l × (anchored_board r l.0 d ≡ Some e.0) × (e.1 ≡ l.1 ++ rank ∷ [])
  boarding-out None e m = absurd m
  boarding-out (Some d) e m =
      let l = Member-flat_map_out (λ (l : Ranked). labelled (anchored_board r l.0 d) (l.1 ++ rank ∷ [])) labels e m in
      let k = labelled-out (anchored_board r l.0.0 d) (l.0.1 ++ rank ∷ []) e l.2 in
      (d, refl, l.0, l.1, k.0, k.1)

  pub boarding-in : (o : Option Duty) (d : Duty) (l : Ranked) (u : PairingVector) → o ≡ Some d → Member labels l → anchored_board r l.0 d ≡ Some u → Member (boarding (anchored_board r) o rank labels) (u, l.1 ++ rank ∷ [])
  boarding-in o d l u e m b = subst (λ z. Member (boarding (anchored_board r) z rank labels) (u, l.1 ++ rank ∷ [])) (sym e)
      (Member-flat_map_in (λ (l : Ranked). labelled (anchored_board r l.0 d) (l.1 ++ rank ∷ [])) labels l (u, l.1 ++ rank ∷ []) m (labelled-in (anchored_board r l.0 d) (l.1 ++ rank ∷ []) u b))

-- what boards counts one duty more, and no more than the most
few-more : (d : ℤ) (n most : ℕ) → d ≡ pos n → int_le (d +ℤ pos 1) (pos most) ≡ true → n + 1 ≤ most
few-more d n most e h = grind (arith, ints)

within-few : (f g m n : Bool) → (f && (g && (m && n))) ≡ true → m ≡ true
within-few f g m n h = (and_parts m n (and_parts g (m && n) (and_parts f (g && (m && n)) h).1).1).0

pub boarded-label : (r : AnchoredResource) (count : ℕ) (l : Ranked) (d : Duty) (u : PairingVector) (rank : ℕ) → IsSound d → IsLabel r count l → l.0.duties ≡ pos (length l.1) → rank < count
    → anchored_board r l.0 d ≡ Some u → IsLabel r count (u, l.1 ++ rank ∷ [])
boarded-label r count l d u rank sound k counts lt b =
    let x = flown r l.0 d in
    let caps = cond_some (is_within_caps_at r d.release x) x u b in
    let long : length (l.1 ++ rank ∷ []) ≡ length l.1 + 1 = length-append l.1 (rank ∷ []) in
    let most = few-more l.0.duties (length l.1) r.max_duties counts (within-few (int_le x.fdp (pos r.fdp_cap)) (int_le x.fly (pos r.fly_cap)) (int_le x.duties (pos r.max_duties)) (int_le (x.away +ℤ d.release) (pos r.away_cap)) caps.0) in
    let ready = (anchored_bounds r).board_arrived (length l.1) l.0 u d sound k.ready b in
    let plus : suc (length l.1) ≡ length (l.1 ++ rank ∷ []) = omega (arith, long) in
    record {
      ranked = snoc-each (λ n. n < count) l.1 rank k.ranked lt;
      few = omega (arith, long, most);
      ready = subst (λ n. is_ready r n u) plus ready;
    }

set-at : {A B : Type 0} (f : List A → List B) (xs : List (List A)) (i : ℕ) (v : List A) → i < length xs → get_or (map f (set xs i v)) i [] ≡ f v
set-at f [] i v h = absurd (omega (arith, h))
set-at f (x ∷ xs) zero v h = refl
set-at f (x ∷ xs) (suc i) v h = set-at f xs i v (omega (arith, h))

pub set-other : {A B : Type 0} (f : List A → List B) (xs : List (List A)) (i p : ℕ) (v : List A) → (i ≡ p → ⊥) → get_or (map f (set xs i v)) p [] ≡ get_or (map f xs) p []
set-other f [] i p v h = refl
set-other f (x ∷ xs) zero zero v h = absurd (h refl)
set-other f (x ∷ xs) zero (suc p) v h = refl
set-other f (x ∷ xs) (suc i) zero v h = refl
set-other f (x ∷ xs) (suc i) (suc p) v h = set-other f xs i p v (λ e. h (ap suc e))

pub each-set : {A : Type 0} (P : A → Type 0) (xs : List A) (i : ℕ) (v : A) → ((x : A) → Member xs x → P x) → P v → (x : A) → Member (set xs i v) x → P x
each-set P xs i v all one x m = ⊎_elim {C = P x} (all x) (λ e. subst P (sym e) one) (Member-set_out xs i v x m)

-- what is marked as not made isn't
pub unmade-at : (made : List Bool) (place : ℕ) (b : Bool) → place < length made → b ≡ get_or made place b → b ≡ false → IsMade made place → ⊥
unmade-at made place b within is off m =
    let there : slice_get made place ≡ Some b = item-in made made place b within refl is in
    let same = some-same (slice_get made place) (get_or made place false) b (at-within made place false within) there in
    true≢false (sym m ∙ (same ∙ off))

-- and what is made stays
pub made-stays : (made : List Bool) (held : List Labels) (place : ℕ) → place < length made → (labels : Labels) → (IsMade made place → ⊥) → HaveStayed made held (set made place true) (set held place labels)
made-stays made held place marked labels unmade p m = ⊎_elim {C = IsMade (set made place true) p × (get_or (set held place labels) p [] ≡ get_or held p [])}
    (λ t. absurd (unmade (subst (IsMade made) (sym t.1) m)))
    (λ f. (get_or-set_other made place p true false (λ e. f.1 (sym e)) ∙ m, get_or-set_other held place p labels [] (λ e. f.1 (sym e))))
    (eqb_tells place p)

-- an arrival that nothing more will reach, and the ranks of the duties that arrive there in any order
module _ (net : Net) (positions : List ℕ) (passable : IsPassable net positions) (base : List ℕ) (r : AnchoredResource) (walks : List (List ℕ)) (pools : List Labels) (made : List Bool) (held : List Labels)
    (passing : IsPassing net base r walks pools made held) (place : ℕ) (a : Arrival) (at : slice_get net.arrivals place ≡ Some a) (sealed : IsSealed net (length pools) place)
    (ranks : List ℕ) (all : IsPermutation (ranks_where (arrives_at a) net.duties) ranks) where
  abbrev Num : Network Duty PairingVector (List (List Leg)) ℕ ℕ
  Num = passed_network net base r

  abbrev shown-pools : List (List (PairingVector × List (List Leg)))
  shown-pools = map (keyed net walks) pools

  abbrev pub bringing : List Ranked
  bringing = boarded walks (anchored_board r) net.duties positions pools ranks

  abbrev from-pool : ℕ → Labels
  from-pool rank = get_or pools (get_or positions rank 0) []

  leaves-at : (rank : ℕ) (d : Duty) → slice_get net.duties rank ≡ Some d → departure_place (in_order net) (departure_of d) ≡ get_or positions rank 0
  leaves-at rank d h = place-departure (in_order net) (departure_of d) (get_or positions rank 0) (in-order-distinct net passable.departs passable.ordered) (passable.are_positions.exact rank d h)

  arrives-there : (d : Duty) → arrives_at a d ≡ true → arrival_place net.arrivals (arrival_of d) ≡ place
  arrives-there d h = ap (arrival_place net.arrivals) (sym (same-arrival a (arrival_of d) h)) ∙ place-arrival net.arrivals a place (arrivals-distinct net passable.arrives) at

  there-arrives : (d : Duty) → Member net.duties d → arrival_place net.arrivals (arrival_of d) ≡ place → arrives_at a d ≡ true
  there-arrives d m h =
      let reached = at-arrival net.arrivals (arrival_of d) (passable.arrives.every d m) in
      let same = some-same (slice_get net.arrivals place) a (arrival_of d) at (ap (slice_get net.arrivals) (sym h) ∙ reached) in
      subst (λ (z : Arrival). arrives_at z d ≡ true) (sym same) (arrival-itself (arrival_of d))

  rank-of : (rank : ℕ) → Member ranks rank → (d : Duty) × (slice_get net.duties rank ≡ Some d) × (arrives_at a d ≡ true)
  rank-of rank m = ranks-out (arrives_at a) net.duties rank (Member-permuted ranks (ranks_where (arrives_at a) net.duties) (IsPermutation-sym _ _ all) rank m)

  -- the pool of its departure is there
  position-by : (rank : ℕ) (d : Duty) → slice_get net.duties rank ≡ Some d → arrives_at a d ≡ true → get_or positions rank 0 < length pools
  position-by rank d h t = subst (λ n. n < length pools) (leaves-at rank d h) (sealed d (member-got net.duties rank d h) (arrives-there d t))

  pub ranks-within : (rank : ℕ) → Member ranks rank → (rank < length net.duties) × (get_or positions rank 0 < length pools)
  ranks-within rank m =
      let d = rank-of rank m in
      (get-within net.duties rank d.0 d.1, position-by rank d.0 d.1 d.2)

  same-pool : (rank : ℕ) (d : Duty) → slice_get net.duties rank ≡ Some d → arrives_at a d ≡ true → get_or shown-pools (departure_place (in_order net) (departure_of d)) [] ≡ keyed net walks (from-pool rank)
  same-pool rank d h t = ap (λ n. get_or shown-pools n []) (leaves-at rank d h) ∙ map-or (keyed net walks) pools (get_or positions rank 0) (position-by rank d h t)

  -- what a rank brings
  brought-out : (e : Ranked) → Member bringing e → (rank : ℕ) × (d : Duty) × (slice_get net.duties rank ≡ Some d) × (arrives_at a d ≡ true)
      × (l : Ranked) × Member (map (shown walks) (from-pool rank)) l × (anchored_board r l.0 d ≡ Some e.0) × (e.1 ≡ l.1 ++ rank ∷ [])
  brought-out e m =
      let k = Member-flat_map_out (λ (rank : ℕ). boarding (anchored_board r) (slice_get net.duties rank) rank (map (shown walks) (from-pool rank))) ranks e m in
      let q = rank-of k.0 k.1 in
      let b = boarding-out r net.duties k.0 (map (shown walks) (from-pool k.0)) (slice_get net.duties k.0) e k.2 in
      let same = some-same (slice_get net.duties k.0) q.0 b.0 q.1 b.1 in
      (k.0, b.0, b.1, subst (λ (z : Duty). arrives_at a z ≡ true) same q.2, b.2, b.3, b.4, b.5)

  brought-in : (rank : ℕ) (d : Duty) (l : Ranked) (u : PairingVector) → slice_get net.duties rank ≡ Some d → arrives_at a d ≡ true → Member (map (shown walks) (from-pool rank)) l
      → anchored_board r l.0 d ≡ Some u → Member bringing (u, l.1 ++ rank ∷ [])
  brought-in rank d l u h t m b =
      Member-flat_map_in (λ (rank : ℕ). boarding (anchored_board r) (slice_get net.duties rank) rank (map (shown walks) (from-pool rank))) ranks rank (u, l.1 ++ rank ∷ [])
      (Member-permuted (ranks_where (arrives_at a) net.duties) ranks all rank (ranks-in (arrives_at a) net.duties rank d h t))
      (boarding-in r net.duties rank (map (shown walks) (from-pool rank)) (slice_get net.duties rank) d l u h m b)

  to-arriving : (u : PairingVector) (w : List (List Leg)) → Member (by_key net.duties bringing) (u, w) → Arriving Num (Views Num shown-pools) place u w
  to-arriving u w m =
      let e = Member-map_out (by_rank net.duties) bringing (u, w) m in
      let q = brought-out e.0 e.1 in
      let d = q.1 in
      let l = q.4 in
      let there = subst (λ es. Member es (by_rank net.duties l)) (sym (same-pool q.0 d q.2 q.3)) (keyed-in net walks (from-pool q.0) l q.5) in
      let seen = view_in Duty PairingVector (List (List Leg)) ℕ ℕ Num d (get_or shown-pools (departure_place (in_order net) (departure_of d)) []) l.0 (map (key_at net.duties) l.1) e.0.0 there q.6 in
      let longer : (by_rank net.duties e.0).1 ≡ map (key_at net.duties) l.1 ++ d.key ∷ [] = ap (map (key_at net.duties)) q.7 ∙ snoc-key net.duties l.1 q.0 d q.2 in
      let found : Arriving Num (Views Num shown-pools) place e.0.0 (by_rank net.duties e.0).1 =
      (d, member-got net.duties q.0 d q.2, arrives-there d q.3, subst (λ z. Member (Views Num shown-pools d) (e.0.0, z)) (sym longer) seen) in
      subst (λ (z : PairingVector × List (List Leg)). Arriving Num (Views Num shown-pools) place z.0 z.1) e.2 found

  from-arriving : (u : PairingVector) (w : List (List Leg)) → Arriving Num (Views Num shown-pools) place u w → Member (by_key net.duties bringing) (u, w)
  from-arriving u w b =
      let d = b.0 in
      let rank = member-place net.duties d b.1 in
      let t = there-arrives d b.1 b.2 in
      let v = view_out Duty PairingVector (List (List Leg)) ℕ ℕ Num d (get_or shown-pools (departure_place (in_order net) (departure_of d)) []) u w b.3 in
      let e = keyed-out net walks (from-pool rank.0) (v.0, v.1) (subst (λ es. Member es (v.0, v.1)) (same-pool rank.0 d rank.1 t) v.2) in
      let value : e.0.0 ≡ v.0 = ap (λ z. z.0) e.2 in
      let walk : map (key_at net.duties) e.0.1 ≡ v.1 = ap (λ z. z.1) e.2 in
      let board = subst (λ z. anchored_board r z d ≡ Some u) (sym value) v.3 in
      let one = brought-in rank.0 d e.0 u rank.1 t e.1 board in
      let longer : map (key_at net.duties) (e.0.1 ++ rank.0 ∷ []) ≡ w = snoc-key net.duties e.0.1 rank.0 d rank.1 ∙ (ap (λ z. z ++ d.key ∷ []) walk ∙ sym v.4) in
      subst (λ z. Member (by_key net.duties bringing) (u, z)) longer (Member-map_in (by_rank net.duties) bringing (u, e.0.1 ++ rank.0 ∷ []) one)

  cand-label : (e : Ranked) → Member bringing e → IsLabel r (length net.duties) e
  cand-label e m =
      let q = brought-out e m in
      let pool = from-pool q.0 in
      let known : Member pools pool = member-got pools (get_or positions q.0 0) pool (at-within pools (get_or positions q.0 0) [] (position-by q.0 q.1 q.2 q.3)) in
      let s = Member-map_out (shown walks) pool q.4 q.5 in
      let l = subst (IsLabel r (length net.duties)) s.2 (passing.pooled pool known s.0 s.1) in
      let c : q.4.0.duties ≡ pos (length q.4.1) = subst (λ (z : Ranked). z.0.duties ≡ pos (length z.1)) s.2 (passing.whole pool known s.0 s.1).counts in
      let one = boarded-label r (length net.duties) q.4 q.1 e.0 q.0 (passable.sound q.1 (member-got net.duties q.0 q.1 q.2)) l c (get-within net.duties q.0 q.1 q.2) q.6 in
      subst (λ z. IsLabel r (length net.duties) (e.0, z)) (sym q.7) one

  -- its pool leaves what arrives there
  pub arrived-by : (labels : Labels) → IsPoolOf is_at_most bringing (map (shown walks) labels) → IsLocal is_at_most walk_at_most (Arriving Num (Views Num shown-pools) place) (keyed net walks labels)
  arrived-by labels local = local-same is_at_most walk_at_most (λ u w. Member (by_key net.duties bringing) (u, w)) (Arriving Num (Views Num shown-pools) place) (keyed net walks labels) to-arriving from-arriving
      (pool_of_rising is_at_most net.duties bringing (map (shown walks) labels) passable.rise (λ e m. (cand-label e m).ranked) local)

  -- its pool joins those that are made
  module _ (labels : Labels) (local : IsPoolOf is_at_most bringing (map (shown walks) labels)) (counts : AreCounted (λ (v : PairingVector). v.duties) walks false labels) (unmade : IsMade made place → ⊥) where
    within : place < length held
    within = subst (λ n. place < n) (sym passing.long) (get-within net.arrivals place a at)

    marked : place < length made
    marked = subst (λ n. place < n) (sym passing.marks) (get-within net.arrivals place a at)

    arrived : IsLocal is_at_most walk_at_most (Arriving Num (Views Num shown-pools) place) (keyed net walks labels)
    arrived = arrived-by labels local

    abbrev made' : List Bool
    made' = set made place true

    abbrev held' : List Labels
    held' = set held place labels

    here : (p : ℕ) → place ≡ p → IsMade made' p
    here p e = get_or-set_at made place p true false (sym e) marked

    stayed : HaveStayed made held made' held'
    stayed = made-stays made held place marked labels unmade

    each : (p : ℕ) → IsMade made' p → ((d : Duty) → Member net.duties d → Num.arrives d ≡ p → Num.leaves d < length pools)
        × IsLocal is_at_most walk_at_most (Arriving Num (Views Num shown-pools) p) (get_or (map (keyed net walks) held') p [])
    each p m = ⊎_elim {C = Goal p}
        (λ t. subst Goal t.1 (sealed, subst (IsLocal is_at_most walk_at_most (Arriving Num (Views Num shown-pools) place)) (sym (set-at (keyed net walks) held place labels within)) arrived))
        (λ f.
        let old : IsMade made p = sym (get_or-set_other made place p true false (λ e. f.1 (sym e))) ∙ m in
        (passing.swept.sealed p old, subst (IsLocal is_at_most walk_at_most (Arriving Num (Views Num shown-pools) p)) (sym (set-other (keyed net walks) held place p labels f.1)) (passing.swept.arrived p old)))
        (eqb_tells place p)
      where
        Goal : ℕ → Type 0
        Goal p = ((d : Duty) → Member net.duties d → Num.arrives d ≡ p → Num.leaves d < length pools)
            × IsLocal is_at_most walk_at_most (Arriving Num (Views Num shown-pools) p) (get_or (map (keyed net walks) held') p [])

    pub passing-made : IsPassing net base r walks pools made' held'
    passing-made = record {
      swept = swept_made Duty PairingVector (List (List Leg)) ℕ Num is_at_most walk_at_most (length pools) shown-pools (IsMade made) (IsMade made') (λ x. get_or (map (keyed net walks) held) x []) (λ x. get_or (map (keyed net walks) held') x []) passing.swept
          (λ p m. (stayed p m).0) each;
      marks = set-long made place true ∙ passing.marks;
      long = set-long held place labels ∙ passing.long;
      settled = each-set (λ (ls : Labels). IsPoolOf is_at_most (map (shown walks) ls) (map (shown walks) ls)) held place labels passing.settled (own (λ v w. Member bringing (v, w)) (map (shown walks) labels) local);
      whole = passing.whole;
      pending = each-set (AreCounted (λ (v : PairingVector). v.duties) walks false) held place labels passing.pending counts;
      pooled = passing.pooled;
      arrived = each-set (AreLabels r (length net.duties) walks) held place labels passing.arrived
          (λ l m. cand-label (shown walks l) (local.among (shown walks l).0 (shown walks l).1 (Member-map_in (shown walks) labels l m)));
    }
