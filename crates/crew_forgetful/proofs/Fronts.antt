-- Pools that cover at each event of the network of a resource in stages that forget give each item its front.
use Rattle.std.proofs.Common.{◌≡◌, ℕ, ◌<◌, Bool, true, false, cond, List, length, Option, Some, None, ℤ, pos, Ordering, refl, sym, ◌∙◌, ap}
use Rattle.std.specs.Option.{option_and_then}
use Rattle.std.specs.Cmp.{IsTotalOrder}
use Rattle.std.specs.Cmp.Lexicographic.{slice_cmp}
use Rattle.std.specs.declared.cmp.Ordering.TheVariants.{Equal}
use Rattle.std.proofs.lemmas.Cmp.{lists_total}
use Rattle.crew_resource.specs.Members.{Member}
use Rattle.crew_resource.specs.Labels.{IsFront, IsLocal}
use Rattle.crew_resource.specs.Events.{Network, CountLaws, StageLaws, FromFronts, FromPools, Arriving}
use Rattle.crew_resource.specs.Resource.{OrderLaws, StepLaws}
use Rattle.crew_resource.specs.Stages.{StagedLaws, CountingLaws}
use Rattle.crew_resource.specs.Machinery.Paths.{PathTo, CleanPathTo}
use Rattle.crew_resource.proofs.Order.{IsOrder}
use Rattle.crew_resource.proofs.Members.{Member-filter_in, Member-filter_out}
use Rattle.crew_resource.proofs.ListOrder.{at_most, at_most_order, lists_exact, lists_grow}
use Rattle.crew_resource.proofs.Instance.{one, opening, preds, rules}
use Rattle.crew_resource.proofs.PooledFronts.{counted, network}
use Rattle.crew_resource.proofs.Values.{below_order, same_length}
use Rattle.crew_forgetful.specs.Forgetful.{Forgetful, Covers}
use Rattle.crew_forgetful.specs.Sweeps.{Shown}
use Rattle.crew_forgetful.proofs.Covered.{covers_trans}
use Rattle.crew_forgetful.proofs.Views.{waited_pools_cover}
use Rattle.crew_forgetful.proofs.Sweep.{forgetful_right}

module _ (V I X G K : Type 0) (cmp : V → V → Ordering) (below : V → V → Bool) (opens : I → Option V) (extends : V → I → I → Option V) (value_of : List I → Option V)
    (arrives : I → X) (leaves : I → G) (idle : G → V) (wait : V → X → G → V) (board : V → I → Option V) (same : V → V → Bool) (count : V → ℤ) (most : ℕ)
    (order : OrderLaws cmp below) (steps : StepLaws opens extends below value_of)
    (staged : StagedLaws opens extends below arrives leaves idle wait board) (forgetful : Forgetful below same wait board)
    (counting : CountingLaws count most idle wait board) (same_count : (a b : V) → same a b ≡ true → count a ≡ count b)
    (key : I → K) (R : K → K → Ordering) (total : IsTotalOrder R) (exact : (a b : K) → R a b ≡ Equal → a ≡ b)
    (known : List I) (may_start : I → Bool) (may_follow : I → I → Bool) (window : X → G → Bool) (at_base : G → Bool)
    (starts : (d : I) → may_start d ≡ at_base (leaves d)) (follows : (e d : I) → may_follow e d ≡ window (arrives e) (leaves d)) where
  abbrev pub wle : List K → List K → Bool
  wle = at_most (slice_cmp R)

  walk_order : IsOrder wle
  walk_order = at_most_order (slice_cmp R) (lists_total total) (lists_exact R exact)

  abbrev pub Net : Network I V (List K) G X
  Net = network known key leaves arrives window at_base idle wait board

  abbrev pub At : I → V → List K → Type 0
  At = PathTo key known may_start may_follow value_of

  abbrev pub Clean : I → V → List K → Type 0
  Clean = CleanPathTo below key known may_start may_follow value_of

  One : I → List K
  One = one I V K key known may_start may_follow opens extends below value_of (below_order order) steps wle walk_order

  Opening : I → Option V
  Opening = opening I V K key known may_start may_follow opens extends below value_of (below_order order) steps wle walk_order

  Preds : I → List I
  Preds = preds I V K key known may_start may_follow opens extends below value_of (below_order order) steps wle walk_order

  empty_count : (b : Bool) (i v : V) → cond b (Some i) None ≡ Some v → i ≡ v
  empty_count true i v e = let q : i ≡ v = (cc) in q
  empty_count false i v e = absurd (let q : ⊥ = (cc) in q)

  opened : (b : Bool) (i : V) (d : I) (o : Option V) → o ≡ board i d → cond b o None ≡ option_and_then (λ v. board v d) (cond b (Some i) None)
  opened true i d o e = e
  opened false i d o e = refl

  network_counts : CountLaws Net wle (λ v w. count v ≡ pos (length w))
  network_counts = counted Net key R count total
      (λ g v e. ap count (sym (empty_count (at_base g) (idle g) v e)) ∙ counting.none_yet g)
      counting.none_more counting.one_more refl (λ w d. refl)

  stages : StageLaws Net One Opening extends (λ e d. Member (Preds d) e)
  unfolding One Opening Preds
  stages = record {
    one_by = λ d. refl;
    opens_by = λ d. ap (λ b. cond b (opens d) None) (starts d) ∙ opened (at_base (leaves d)) (idle (leaves d)) d (opens d) (staged.opening d);
    ext_by = λ u e d a. staged.extension u e d;
    arc_in = λ e d k w. Member-filter_in (λ e. may_follow e d) known e k (follows e d ∙ w);
    arc_out = λ e d a. let k = Member-filter_out (λ e. may_follow e d) known e a in (k.0, sym (follows e d) ∙ k.1);
  }

  -- where the legal arcs rise, each pool covers the labels that the fronts leave, and each front is filtered from its view
  pub covered_fronts : (rank : I → ℕ) → ((e d : I) → Member known e → may_follow e d ≡ true → rank e < rank d)
      → (pools : G → List (V × List K)) (fronts : I → List (V × List K))
      → ((d : I) → Member known d → Covers below same wle (λ v w. Member (pools (leaves d)) (v, w)) (FromFronts Net fronts (leaves d)))
      → ((d : I) → Member known d → IsLocal below wle (Shown Net (pools (leaves d)) d) (fronts d))
      → (d : I) → Member known d → IsFront below wle (At d) (Clean d) (fronts d)
  unfolding One Opening Preds
  covered_fronts rank rises pools fronts pool_covers front_local d k =
      (forgetful_right I V (List K) G X Net One Opening extends (λ e d. Member (Preds d) e) stages below same wle At Clean
      (rules I V K key known may_start may_follow opens extends below value_of (below_order order) steps wle walk_order
      (same_length V I X G opens extends below value_of steps arrives leaves idle wait board staged count most counting) (lists_grow R total))
      rank (λ e d m. let a = Member-filter_out (λ e. may_follow e d) known e m in rises e d a.0 a.1)
      (λ v w. count v ≡ pos (length w)) network_counts (λ a b w e f. sym (same_count a b e) ∙ f) forgetful fronts pools pool_covers front_local d k).0

  -- the same where each pool is made from what stands at its arrivals when its departure comes
  pub covered_swept_fronts : (rank : I → ℕ) → ((e d : I) → Member known e → may_follow e d ≡ true → rank e < rank d)
      → (pools : G → List (V × List K)) (arrivals : G → X → List (V × List K)) (fronts : I → List (V × List K))
      → ((d : I) → Member known d → Covers below same wle (λ v w. Member (pools (leaves d)) (v, w)) (FromPools Net (arrivals (leaves d)) (leaves d)))
      → ((d : I) (x : X) → Member known d → window x (leaves d) ≡ true → Covers below same wle (λ v w. Member (arrivals (leaves d) x) (v, w)) (Arriving Net fronts x))
      → ((d : I) → Member known d → IsLocal below wle (Shown Net (pools (leaves d)) d) (fronts d))
      → (d : I) → Member known d → IsFront below wle (At d) (Clean d) (fronts d)
  covered_swept_fronts rank rises pools arrivals fronts pool_covers arrival_covers front_local =
      covered_fronts rank rises pools fronts
      (λ d k. covers_trans V (List K) below same wle (below_order order) walk_order forgetful.same_itself forgetful.same_between
      (λ v w. Member (pools (leaves d)) (v, w)) (FromPools Net (arrivals (leaves d)) (leaves d)) (FromFronts Net fronts (leaves d)) (pool_covers d k)
      (waited_pools_cover I V (List K) G X Net below same wle (below_order order) walk_order forgetful fronts (arrivals (leaves d)) (leaves d) (λ x w. arrival_covers d x k w)))
      front_local
