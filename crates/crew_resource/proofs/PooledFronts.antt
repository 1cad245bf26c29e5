-- Pools that are local at each event of the network of a resource in stages give each item its front.
use Rattle.std.proofs.Common.{◌≡◌, ℕ, ◌+◌, ◌<◌, Bool, true, false, cond, List, [], ◌∷◌, ◌++◌, length, Option, Some, None, ℤ, pos, ◌+ℤ◌, Ordering, refl, sym, ◌∙◌, ap, subst, arith, length-append}
use Rattle.std.specs.Option.{option_and_then}
use Rattle.std.specs.Cmp.{IsTotalOrder}
use Rattle.std.specs.Cmp.Lexicographic.{slice_cmp}
use Rattle.std.specs.declared.cmp.Ordering.TheVariants.{Equal}
use Rattle.std.proofs.lemmas.Cmp.{lists_total}
use Rattle.std.proofs.lemmas.Int.{ints}
use Rattle.crew_resource.specs.Members.{Member}
use Rattle.crew_resource.specs.Labels.{IsFront, IsLocal}
use Rattle.crew_resource.specs.Events.{Network, WaitLaws, BoardLaws, CountLaws, StageLaws, view, FromPools, Arriving}
use Rattle.crew_resource.specs.Resource.{OrderLaws, StepLaws}
use Rattle.crew_resource.specs.Stages.{StagedLaws, ShiftLaws, CountingLaws}
use Rattle.crew_resource.specs.Machinery.Paths.{PathTo, CleanPathTo}
use Rattle.crew_resource.proofs.Order.{IsOrder}
use Rattle.crew_resource.proofs.Members.{Member-filter_in, Member-filter_out}
use Rattle.crew_resource.proofs.ListOrder.{at_most, at_most_order, lists_exact, lists_grow}
use Rattle.crew_resource.proofs.Instance.{one, opening, preds, rules}
use Rattle.crew_resource.proofs.Pools.{pool_from_pools}
use Rattle.crew_resource.proofs.Sweep.{views_right}
use Rattle.crew_resource.proofs.Values.{below_order, same_length}

-- what the laws of the stages say of waiting and boarding alone
pub wait_laws : {V I X G : Type 0} (opens : I → Option V) (extends : V → I → I → Option V) (cmp : V → V → Ordering) (below : V → V → Bool) (arrives : I → X) (leaves : I → G) (idle : G → V) (wait : V → X → G → V) (board : V → I → Option V)
    → StagedLaws opens extends below arrives leaves idle wait board → ShiftLaws cmp below wait board → WaitLaws below wait
wait_laws opens extends cmp below arrives leaves idle wait board staged shifts = record {
  monotone = staged.wait_monotone;
  strict = λ a b x g h e. shifts.wait_strict a b x g e;
}

pub board_laws : {V I X G : Type 0} (opens : I → Option V) (extends : V → I → I → Option V) (cmp : V → V → Ordering) (below : V → V → Bool) (arrives : I → X) (leaves : I → G) (idle : G → V) (wait : V → X → G → V) (board : V → I → Option V)
    → OrderLaws cmp below → StagedLaws opens extends below arrives leaves idle wait board → ShiftLaws cmp below wait board → BoardLaws below board
board_laws opens extends cmp below arrives leaves idle wait board order staged shifts = record {
  monotone = staged.board_monotone;
  strict = λ a b c d h p q. order.antisymmetric a b h (shifts.board_reflects b a c c d q p (order.reflexive c));
}

one_longer : (n m : ℕ) (a b : ℤ) → a ≡ pos n → b ≡ a +ℤ pos 1 → m ≡ n + 1 → b ≡ pos m
one_longer n m a b p q r = omega (arith, ints)

-- a network in which values tell the number of items
pub counted : {V I X G K : Type 0} (net : Network I V (List K) G X) (key : I → K) (R : K → K → Ordering) (count : V → ℤ) → IsTotalOrder R
    → ((g : G) (v : V) → net.idle g ≡ Some v → count v ≡ pos 0)
    → ((v : V) (x : X) (g : G) → count (net.wait v x g) ≡ count v)
    → ((v z : V) (d : I) → net.board v d ≡ Some z → count z ≡ count v +ℤ pos 1)
    → net.none ≡ [] → ((w : List K) (d : I) → net.more w d ≡ w ++ key d ∷ [])
    → CountLaws net (at_most (slice_cmp R)) (λ v w. count v ≡ pos (length w))
counted net key R count total none_yet none_more one_more none_by more_by = record {
  idle = λ g v e. none_yet g v e ∙ ap (λ z. pos (length z)) (sym none_by);
  wait = λ v w x g f. none_more v x g ∙ f;
  board = λ v z w d f e. one_longer (length w) (length (net.more w d)) (count v) (count z) f (one_more v z d e) (ap length (more_by w d) ∙ length-append w (key d ∷ []));
  more_mono = λ v y z d p q h.
      let e : pos (length y) ≡ pos (length z) = sym p ∙ q in
      let same : length y ≡ length z = (cc) in
      subst (λ a. at_most (slice_cmp R) a (net.more z d) ≡ true) (sym (more_by y d)) (subst (λ b. at_most (slice_cmp R) (y ++ key d ∷ []) b ≡ true) (sym (more_by z d)) (lists_grow R total y z (key d) same h));
}

-- the resource's network: windows between events, and the empty label at those where a list may begin
abbrev pub network : {V I X G K : Type 0} → List I → (I → K) → (I → G) → (I → X) → (X → G → Bool) → (G → Bool) → (G → V) → (V → X → G → V) → (V → I → Option V) → Network I V (List K) G X
network known key leaves arrives window at_base idle wait board = record {
  known = known;
  leaves = leaves;
  arrives = arrives;
  window = window;
  none = [];
  more = λ w d. w ++ key d ∷ [];
  idle = λ g. cond (at_base g) (Some (idle g)) None;
  wait = wait;
  board = board;
}

module _ (V I X G K : Type 0) (cmp : V → V → Ordering) (below : V → V → Bool) (opens : I → Option V) (extends : V → I → I → Option V) (value_of : List I → Option V)
    (arrives : I → X) (leaves : I → G) (idle : G → V) (wait : V → X → G → V) (board : V → I → Option V) (count : V → ℤ) (most : ℕ)
    (order : OrderLaws cmp below) (steps : StepLaws opens extends below value_of)
    (staged : StagedLaws opens extends below arrives leaves idle wait board) (shifts : ShiftLaws cmp below wait board) (counting : CountingLaws count most idle wait board)
    (key : I → K) (R : K → K → Ordering) (total : IsTotalOrder R) (exact : (a b : K) → R a b ≡ Equal → a ≡ b)
    (known : List I) (may_start : I → Bool) (may_follow : I → I → Bool) (window : X → G → Bool) (at_base : G → Bool)
    (starts : (d : I) → may_start d ≡ at_base (leaves d)) (follows : (e d : I) → may_follow e d ≡ window (arrives e) (leaves d)) where
  abbrev pub wle : List K → List K → Bool
  wle = at_most (slice_cmp R)

  walk_order : IsOrder wle
  walk_order = at_most_order (slice_cmp R) (lists_total total) (lists_exact R exact)

  abbrev pub Net : Network I V (List K) G X
  Net = network known key leaves arrives window at_base idle wait board

  abbrev pub At : I → V → List K → Type 0
  At = PathTo key known may_start may_follow value_of

  abbrev pub Clean : I → V → List K → Type 0
  Clean = CleanPathTo below key known may_start may_follow value_of

  One : I → List K
  One = one I V K key known may_start may_follow opens extends below value_of (below_order order) steps wle walk_order

  Opening : I → Option V
  Opening = opening I V K key known may_start may_follow opens extends below value_of (below_order order) steps wle walk_order

  Preds : I → List I
  Preds = preds I V K key known may_start may_follow opens extends below value_of (below_order order) steps wle walk_order

  empty_count : (b : Bool) (i v : V) → cond b (Some i) None ≡ Some v → i ≡ v
  empty_count true i v e = let q : i ≡ v = (cc) in q
  empty_count false i v e = absurd (let q : ⊥ = (cc) in q)

  opened : (b : Bool) (i : V) (d : I) (o : Option V) → o ≡ board i d → cond b o None ≡ option_and_then (λ v. board v d) (cond b (Some i) None)
  opened true i d o e = e
  opened false i d o e = refl

  pub network_counts : CountLaws Net wle (λ v w. count v ≡ pos (length w))
  network_counts = counted Net key R count total
      (λ g v e. ap count (sym (empty_count (at_base g) (idle g) v e)) ∙ counting.none_yet g)
      counting.none_more counting.one_more refl (λ w d. refl)

  stages : StageLaws Net One Opening extends (λ e d. Member (Preds d) e)
  unfolding One Opening Preds
  stages = record {
    one_by = λ d. refl;
    opens_by = λ d. ap (λ b. cond b (opens d) None) (starts d) ∙ opened (at_base (leaves d)) (idle (leaves d)) d (opens d) (staged.opening d);
    ext_by = λ u e d a. staged.extension u e d;
    arc_in = λ e d k w. Member-filter_in (λ e. may_follow e d) known e k (follows e d ∙ w);
    arc_out = λ e d a. let k = Member-filter_out (λ e. may_follow e d) known e a in (k.0, sym (follows e d) ∙ k.1);
  }

  -- where the legal arcs rise, and each pool is made from what stands at its arrivals when its departure comes
  pub swept_fronts : (rank : I → ℕ) → ((e d : I) → Member known e → may_follow e d ≡ true → rank e < rank d)
      → (pools : G → List (V × List K)) (arrivals : G → X → List (V × List K))
      → ((d : I) → Member known d → IsLocal below wle (FromPools Net (arrivals (leaves d)) (leaves d)) (pools (leaves d)))
      → ((d : I) (x : X) → Member known d → window x (leaves d) ≡ true → IsLocal below wle (Arriving Net (λ e. view Net e (pools (leaves e))) x) (arrivals (leaves d) x))
      → (d : I) → Member known d → IsFront below wle (At d) (Clean d) (view Net d (pools (leaves d)))
  unfolding One Opening Preds
  swept_fronts rank rises pools arrivals pool_local arrival_local d k =
      (views_right I V (List K) G X Net One Opening extends (λ e d. Member (Preds d) e) stages below wle At Clean
      (rules I V K key known may_start may_follow opens extends below value_of (below_order order) steps wle walk_order
      (same_length V I X G opens extends below value_of steps arrives leaves idle wait board staged count most counting) (lists_grow R total))
      rank (λ e d m. let a = Member-filter_out (λ e. may_follow e d) known e m in rises e d a.0 a.1)
      (λ v w. count v ≡ pos (length w)) network_counts
      (board_laws opens extends cmp below arrives leaves idle wait board order staged shifts) shifts.board_reflects pools
      (λ d m. pool_from_pools I V (List K) G X Net below wle (below_order order) walk_order
      (wait_laws opens extends cmp below arrives leaves idle wait board staged shifts)
      (λ e. view Net e (pools (leaves e))) (arrivals (leaves d)) (leaves d) (λ x w. arrival_local d x m w) (pools (leaves d)) (pool_local d m))
      d k).0

  -- and where the pools of arrivals are the whole ones
  pub pooled_fronts : (rank : I → ℕ) → ((e d : I) → Member known e → may_follow e d ≡ true → rank e < rank d)
      → (pools : G → List (V × List K)) (arrivals : X → List (V × List K))
      → ((d : I) → Member known d → IsLocal below wle (FromPools Net arrivals (leaves d)) (pools (leaves d)))
      → ((x : X) → IsLocal below wle (Arriving Net (λ d. view Net d (pools (leaves d))) x) (arrivals x))
      → (d : I) → Member known d → IsFront below wle (At d) (Clean d) (view Net d (pools (leaves d)))
  pooled_fronts rank rises pools arrivals pool_local arrival_local = swept_fronts rank rises pools (λ g. arrivals) pool_local (λ d x m w. arrival_local x)
