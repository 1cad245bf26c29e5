-- The place of a key among duties by key.
use Rattle.std.proofs.Common.{◌≡◌, ◌≤◌, ◌<◌, inl, inr, ℕ, zero, suc, List, [], ◌∷◌, Bool, true, false, Option, Some, None, Ordering, length, refl, sym, ap, subst, ◌∙◌, ◌+◌, arith, get_or, true≢false}
use Rattle.std.specs.Prelude.{slice_get}
use Rattle.std.specs.Ordering.{bool_cmp, eq_by_cmp, is_eq, is_lt, nat_cmp, ordering_reverse, ordering_then}
use Rattle.std.specs.declared.cmp.Ordering.TheVariants.{Less, Equal, Greater}
use Rattle.std.specs.Cmp.{eq_by_cmp_equiv}
use Rattle.std.specs.List.Sorted.{IsPartitionedBy}
use Rattle.std.proofs.lemmas.Map.Lookups.{exact_unsigned}
use Rattle.crew_pairing.specs.Duties.{RiseByKey}
use Rattle.crew_pairing.specs.Keys.{leg_cmp, key_cmp, key_total}
use Rattle.crew_pairing.specs.Legs.{Leg}
use Rattle.crew_pairing.specs.declared.duty.Duty.{Duty}
use Rattle.crew_pairing.proofs.Blocks.{slice-within}
use Rattle.crew_pairing.proofs.Tree.{Each-member}
use Rattle.crew_resource.specs.Members.{Member}
use Rattle.crew_resource.proofs.ListOrder.{lists_exact}
use Rattle.crew_resource.proofs.Members.{Member-get}
use Rattle.crew_net.specs.Machinery.Ranking.{IsKeyStart, IsRankOf}
use Rattle.crew_net.specs.Nets.{IsRank, IsRankOfKey, Net}
use Rattle.crew_net.specs.declared.node.Node.{Node}
use Rattle.std.proofs.lemmas.Option.{slice_get-get_or}
use Rattle.crew_net.proofs.EventOrder.{Member-index}
use Rattle.crew_net.proofs.Slices.{get-at}
use Rattle.crew_net.proofs.Segments.{le-or-lt}

then_equal : (o r : Ordering) → ordering_then o r ≡ Equal → (o ≡ Equal) × (r ≡ Equal)
then_equal Less r e = absurd (let z : ⊥ = (cc) in z)
then_equal Equal r e = (refl, e)
then_equal Greater r e = absurd (let z : ⊥ = (cc) in z)

bool_exact : (a b : Bool) → bool_cmp a b ≡ Equal → a ≡ b
bool_exact true true e = refl
bool_exact true false e = absurd (let z : ⊥ = (cc) in z)
bool_exact false true e = absurd (let z : ⊥ = (cc) in z)
bool_exact false false e = refl

leg_exact : (a b : Leg) → leg_cmp a b ≡ Equal → a ≡ b
leg_exact a b e =
    let k = then_equal (nat_cmp a.flight b.flight) (bool_cmp a.deadhead b.deadhead) e in
    let flight : a.flight ≡ b.flight = exact_unsigned a.flight b.flight k.0 in
    let deadhead : a.deadhead ≡ b.deadhead = bool_exact a.deadhead b.deadhead k.1 in
    (λ i. record { flight = flight i; deadhead = deadhead i })

is-equal : (r : Ordering) → is_eq r ≡ true → r ≡ Equal
is-equal Less h = absurd (cc)
is-equal Equal h = refl
is-equal Greater h = absurd (cc)

is-less : (r : Ordering) → is_lt r ≡ true → r ≡ Less
is-less Less h = refl
is-less Equal h = absurd (cc)
is-less Greater h = absurd (cc)

less-is : (r : Ordering) → r ≡ Less → is_lt r ≡ true
less-is r e = ap is_lt e

pub key-exact : (a b : List Leg) → eq_by_cmp key_cmp a b ≡ true → a ≡ b
key-exact a b h = lists_exact leg_cmp leg_exact a b (is-equal (key_cmp a b) h)

self-equal : (a : List Leg) → is_lt (key_cmp a a) ≡ false
self-equal a = by (key_cmp a a) (key_total.antisymm a a)
  where
    by : (r : Ordering) → r ≡ ordering_reverse r → is_lt r ≡ false
    by Less e = absurd (let z : ⊥ = (cc) in z)
    by Equal e = refl
    by Greater e = refl

-- by key each stands before all later ones
pub key-less : (ds : List Duty) → RiseByKey ds → (i j : ℕ) (d : Duty) → i < j → j < length ds → key_cmp (get_or ds i d).key (get_or ds j d).key ≡ Less
key-less [] up i j d a b = absurd (omega (arith, b))
key-less (x ∷ ds) up zero zero d a b = absurd (omega (arith, a))
key-less (x ∷ ds) up zero (suc j) d a b = Each-member (λ (e : Duty). key_cmp x.key e.key ≡ Less) ds (get_or ds j d) up.0 (Member-get ds j d (omega (arith, b)))
key-less (x ∷ ds) up (suc i) zero d a b = absurd (omega (arith, a))
key-less (x ∷ ds) up (suc i) (suc j) d a b = key-less ds up.1 i j d (omega (arith, a)) (omega (arith, b))

pub key-parted : (ds : List Duty) (key : List Leg) → RiseByKey ds → IsPartitionedBy (λ d. is_lt (key_cmp d.key key)) ds
key-parted ds key up i j d a b h = elim (le-or-lt j i) [
  | inl l ↦ subst (λ (n : ℕ). is_lt (key_cmp (get_or ds n d).key key) ≡ true) (omega (arith, a, l)) h
  | inr l ↦ less-is (key_cmp (get_or ds i d).key key) (key_total.trans (get_or ds i d).key (get_or ds j d).key key (key-less ds up i j d l b) (is-less (key_cmp (get_or ds j d).key key) h))
]

-- before a duty of a lesser key stand such alone
pub lesser-before : (ds : List Duty) (key : List Leg) → RiseByKey ds → (m : ℕ) (x : Duty) → slice_get ds m ≡ Some x → is_lt (key_cmp x.key key) ≡ true
    → (k : ℕ) (d : Duty) → k < m + 1 → is_lt (key_cmp (get_or ds k d).key key) ≡ true
lesser-before ds key up m x at less k d h =
    key-parted ds key up k m d (omega (arith, h)) (slice-within ds m x at) (subst (λ (y : Duty). is_lt (key_cmp y.key key) ≡ true) (sym (get-at ds m x d at)) less)

-- and from one of no lesser key on no such
pub none-lesser-from : (ds : List Duty) (key : List Leg) → RiseByKey ds → (m : ℕ) (x : Duty) → slice_get ds m ≡ Some x → is_lt (key_cmp x.key key) ≡ false
    → (k : ℕ) (d : Duty) → m ≤ k → k < length ds → is_lt (key_cmp (get_or ds k d).key key) ≡ false
none-lesser-from ds key up m x at not k d h within = by (is_lt (key_cmp (get_or ds k d).key key)) refl
  where
    by : (b : Bool) → is_lt (key_cmp (get_or ds k d).key key) ≡ b → b ≡ false
    by false e = refl
    by true e =
        let less = key-parted ds key up m k d h within e in
        let there : is_lt (key_cmp x.key key) ≡ true = subst (λ (y : Duty). is_lt (key_cmp y.key key) ≡ true) (get-at ds m x d at) less in
        absurd (true≢false (sym there ∙ not))

-- a duty of the key stands nowhere but at its start
pub stands-at : (ds : List Duty) (key : List Leg) (start : ℕ) → RiseByKey ds → IsKeyStart ds key start → (d : Duty) → Member ds d → d.key ≡ key → (start < length ds) × ((e : Duty) → get_or ds start e ≡ d)
stands-at ds key start up is d m same =
    let at = Member-index ds d m in
    let k = at.0 in
    let here = at.2 d in
    let not-less : is_lt (key_cmp d.key key) ≡ false = subst (λ (x : List Leg). is_lt (key_cmp d.key x) ≡ false) same (self-equal d.key) in
    let low : start ≤ k = elim (le-or-lt start k) [
      | inl l ↦ l
      | inr l ↦ absurd (let p : is_lt (key_cmp d.key key) ≡ true = subst (λ (x : Duty). is_lt (key_cmp x.key key) ≡ true) here (is.0 k d (omega arith) l) in let z : ⊥ = (cc) in z)
    ] in
    let within = at.1 in
    let bound : start < length ds = omega (arith, low, within) in
    let high : k ≤ start = elim (le-or-lt k start) [
      | inl l ↦ l
      | inr l ↦ absurd (
          let less = key-less ds up start k d l at.1 in
          let less-here : key_cmp (get_or ds start d).key key ≡ Less = subst (λ (x : List Leg). key_cmp (get_or ds start d).key x ≡ Less) (ap (λ (x : Duty). x.key) here ∙ same) less in
          let p = less-is (key_cmp (get_or ds start d).key key) less-here in
          let q = is.1 start d (omega arith) bound in
          let z : ⊥ = (cc) in z)
    ] in
    let e : start ≡ k = omega (arith, low, high) in
    (bound, λ x. ap (λ (n : ℕ). get_or ds n x) e ∙ at.2 x)

pub equal-key : (a b : List Leg) → a ≡ b → eq_by_cmp key_cmp a b ≡ true
equal-key a b e = subst (λ (x : List Leg). eq_by_cmp key_cmp a x ≡ true) e ((eq_by_cmp_equiv key_total).refl a)

-- the rank of a node of the network
pub is-rank : (net : Net) (node : Node) → Member net.bases node.base → (r : Option ℕ) → IsRankOf net.duties node.key r → IsRank net node r
is-rank net node base None f = λ d is. f d is.duty is.key
is-rank net node base (Some rank) f = by net.duties refl
  where
    by : (ds : List Duty) → net.duties ≡ ds → IsRank net node (Some rank)
    by [] e = absurd (let h = f.0 in let l = ap length e in omega (arith, h, l))
    by (x ∷ ds) e =
        let d = get_or net.duties rank x in
        (d, record { base = base; duty = Member-get net.duties rank x f.0; key = f.1 x }, slice_get-get_or net.duties rank x f.0)

pub rank-of-key : (ds : List Duty) (key : List Leg) (r : Option ℕ) → IsRankOf ds key r → IsRankOfKey ds key r
rank-of-key ds key None f = f
rank-of-key [] key (Some rank) f = absurd (let h = f.0 in omega (arith, h))
rank-of-key (x ∷ ds) key (Some rank) f = (get_or (x ∷ ds) rank x, slice_get-get_or (x ∷ ds) rank x f.0, f.1 x)
