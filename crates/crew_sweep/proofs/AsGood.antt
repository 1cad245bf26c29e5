-- Boardings of duties that take no more than others.
use Rattle.std.proofs.Common.{◌≡◌, ◌<◌, ◌≤◌, ◌+◌, ◌-◌, ◌⊎◌, ◌≤ℤ◌, ◌+ℤ◌, ◌-ℤ◌, ◌∙◌, ◌++◌, ◌∷◌, ℕ, ℤ, Bool, true, false, cond, List, [], Option, Some, None, get_or, inl, length, map, pos, refl, sym, ap, subst, arith, ⊎_elim}
use Rattle.std.specs.Prelude.{◌&&◌, int_le, slice_get}
use Rattle.std.proofs.lemmas.Bool.{and_parts}
use Rattle.std.proofs.lemmas.Int.{ints}
use Rattle.crew_anchor.specs.Stages.{anchored_board, flown, is_within_caps_at}
use Rattle.crew_anchor.specs.declared.resource.AnchoredResource.{AnchoredResource}
use Rattle.crew_pairing.specs.declared.duty.Duty.{Duty}
use Rattle.crew_pairing.specs.declared.vector.PairingVector.{PairingVector}
use Rattle.std.specs.Ordering.{is_le, is_lt, nat_cmp, ordering_then}
use Rattle.std.specs.declared.cmp.Ordering.{Ordering}
use Rattle.std.specs.declared.cmp.Ordering.TheVariants.{Equal, Greater, Less}
use Rattle.std.proofs.lemmas.Cmp.{nat_cmp_total, tied_itself}
use Rattle.std.proofs.lemmas.Map.Keys.{ge_from_not_lt}
use Rattle.crew_pool.specs.LabelWalks.{IsPoolOf, ranks_at_most, shown}
use Rattle.crew_pool.specs.declared.label_walk.LabelWalk.{LabelWalk}
use Rattle.crew_pool.proofs.ArenaLemmas.{cmp_after}
use Rattle.crew_pool.proofs.LabelWalkLemmas.{ranks_order}
use Rattle.crew_resource.specs.Events.{labelled}
use Rattle.crew_resource.specs.Members.{Member}
use Rattle.crew_resource.proofs.Covering.{IsCovering, local_of_all}
use Rattle.crew_resource.proofs.Members.{Member-flat_map_in, Member-flat_map_out}
use Rattle.crew_carry.specs.crew_step.Pools.{boarded, boarding}
use Rattle.crew_vector.specs.Dominance.{is_at_most}
use Rattle.crew_vector.proofs.Steps.{vector-order}
use Rattle.crew_sweep.specs.Machinery.Boardings.{HaveAsGood, IsAsGood, TakesNoMore}

pub both : {a b : Bool} → a ≡ true → b ≡ true → (a && b) ≡ true
both p q = rw (p, q)

le-yes : (x y : ℤ) → x ≤ℤ y → int_le x y ≡ true
le-yes x y h = grind (arith, ints)

le-same : (x y : ℤ) → int_le x y ≡ true → x ≤ℤ y
le-same x y h = grind (arith, ints)

added : (v a b : ℤ) → a ≤ℤ b → (v +ℤ a) ≤ℤ (v +ℤ b)
added v a b h = omega (arith, ints, h)

taken : (v a b : ℤ) → b ≤ℤ a → (v -ℤ a) ≤ℤ (v -ℤ b)
taken v a b h = omega (arith, ints, h)

through : (x y z : ℤ) → x ≤ℤ y → y ≤ℤ z → x ≤ℤ z
through x y z h k = omega (arith, ints, h, k)

-- what boards is within the caps
board-out : (r : AnchoredResource) (v x : PairingVector) (d : Duty) → anchored_board r v d ≡ Some x → (is_within_caps_at r d.release (flown r v d) ≡ true) × (flown r v d ≡ x)
board-out r v x d h =
    elim (is_within_caps_at r d.release (flown r v d)) as (λ b. cond b (Some (flown r v d)) None ≡ Some x → (b ≡ true) × (flown r v d ≡ x))
    [ true ↦ (λ e. (refl, (cc))) | false ↦ (λ e. absurd (let q : ⊥ = (cc) in q)) ] h

module _ (r : AnchoredResource) (v : PairingVector) (one other : Duty) (less : TakesNoMore one other) where
  within : is_within_caps_at r other.release (flown r v other) ≡ true → is_within_caps_at r one.release (flown r v one) ≡ true
  within h =
      let a = and_parts _ _ h in
      let b = and_parts _ _ a.1 in
      let c = and_parts _ _ b.1 in
      both (le-yes _ _ (through _ _ _ (added v.fdp one.fdp other.fdp less.fdp) (le-same _ _ a.0)))
      (both (le-yes _ _ (through _ _ _ (added v.fly one.fly other.fly less.fly) (le-same _ _ b.0)))
      (both c.0 (subst (λ m. int_le (v.away +ℤ m) (pos r.away_cap) ≡ true) (sym less.release) c.1)))

  at-most : is_at_most (flown r v one) (flown r v other) ≡ true
  at-most =
      let money = λ (p : ℤ). taken p one.price other.price less.price in
      both
      (both (le-yes _ _ (added v.duty_pay (one.pay -ℤ one.price) (other.pay -ℤ other.price) less.cost))
      (both (le-yes _ _ (money v.trip_rig)) (le-yes _ _ (added v.guarantee (pos r.guarantee -ℤ one.price) (pos r.guarantee -ℤ other.price) (money (pos r.guarantee))))))
      (both (both (le-yes _ _ (added v.fdp one.fdp other.fdp less.fdp)) (le-yes _ _ (added v.fly one.fly other.fly less.fly)))
      (both (le-yes _ _ (through-itself (v.duties +ℤ pos 1))) (le-yes _ _ (through-itself v.away))))
    where
      through-itself : (x : ℤ) → x ≤ℤ x
      through-itself x = omega (arith, ints)

  -- where they come to the same the other takes no more either
  no-less : flown r v one ≡ flown r v other → TakesNoMore other one
  no-less e = record {
    release = sym less.release;
    fdp = back v.fdp one.fdp other.fdp (ap (λ z. z.fdp) e);
    fly = back v.fly one.fly other.fly (ap (λ z. z.fly) e);
    price = back-taken v.trip_rig one.price other.price (ap (λ z. z.trip_rig) e);
    cost = back v.duty_pay (one.pay -ℤ one.price) (other.pay -ℤ other.price) (ap (λ z. z.duty_pay) e);
  }
    where
      back : (v a b : ℤ) → v +ℤ a ≡ v +ℤ b → b ≤ℤ a
      back v a b h = omega (arith, ints, h)

      back-taken : (v a b : ℤ) → v -ℤ a ≡ v -ℤ b → a ≤ℤ b
      back-taken v a b h = omega (arith, ints, h)

pub as-good : (duties : List Duty) (positions : List ℕ) (first second : ℕ) (one other : Duty) → slice_get duties first ≡ Some one → slice_get duties second ≡ Some other
    → get_or positions first 0 ≡ get_or positions second 0 → TakesNoMore one other → (TakesNoMore other one → first ≤ second) → IsAsGood duties positions first second
as-good duties positions first second one other at-one at-other position less tie = record {
  position = position;
  boards = λ r v x d at board.
      let same : other ≡ d = (cc) in
      let k = board-out r v x other (subst (λ e. anchored_board r v e ≡ Some x) (sym same) board) in (
        one,
        flown r v one,
        at-one,
        ap (λ b. cond b (Some (flown r v one)) None) (within r v one other less k.0),
        subst (λ z. is_at_most (flown r v one) z ≡ true) k.1 (at-most r v one other less),
        λ e. tie (no-less r v one other less (e ∙ sym k.1)),
      );
}

pub as-good-itself : (duties : List Duty) (positions : List ℕ) (rank : ℕ) → IsAsGood duties positions rank rank
as-good-itself duties positions rank = record {
  position = refl;
  boards = λ r v x d at board. (d, x, at, board, vector-order.reflexive x, λ _. omega arith);
}

pub as-good-through : (duties : List Duty) (positions : List ℕ) (a b c : ℕ) → IsAsGood duties positions a b → IsAsGood duties positions b c → IsAsGood duties positions a c
as-good-through duties positions a b c p q = record {
  position = p.position ∙ q.position;
  boards = λ r v x d at board.
      let k = q.boards r v x d at board in
      let l = p.boards r v k.1 k.0 k.2 k.3 in
      let below = vector-order.transitive l.1 k.1 x l.4 k.4 in (
        l.0,
        l.1,
        l.2,
        l.3,
        below,
        λ e.
            let same : k.1 ≡ x = vector-order.antisymmetric k.1 x k.4 (subst (λ z. is_at_most z k.1 ≡ true) e l.4) in
            let first = l.5 (e ∙ sym same) in
            let second = k.5 same in
            omega (arith, first, second),
      );
}

-- one rank more, from the last on
pub one-more : (duties : List Duty) (positions ranks kept new : List ℕ) (back : ℕ) → back < length ranks → ((k : ℕ) → Member kept k → Member new k)
    → (k : ℕ) × Member new k × IsAsGood duties positions k (get_or ranks (length ranks - 1 - back) 0)
    → ((i : ℕ) → i < length ranks → length ranks - back ≤ i → (k : ℕ) × Member kept k × IsAsGood duties positions k (get_or ranks i 0))
    → (i : ℕ) → i < length ranks → length ranks - (back + 1) ≤ i → (k : ℕ) × Member new k × IsAsGood duties positions k (get_or ranks i 0)
one-more duties positions ranks kept new back there more one before i within from =
    ⊎_elim {C = (k : ℕ) × Member new k × IsAsGood duties positions k (get_or ranks i 0)}
    (λ e. subst (λ j. (k : ℕ) × Member new k × IsAsGood duties positions k (get_or ranks j 0)) (sym e) one)
    (λ h. let k = before i within h in (k.0, more k.0 k.1, k.2))
    (either i (length ranks) back within from)
  where
    either : (i n back : ℕ) → i < n → n - (back + 1) ≤ i → (i ≡ n - 1 - back) ⊎ (n - back ≤ i)
    either i n back h k = grind arith

-- ---- what boards ranks that each have one as good among others
labelled-out : {V W : Type 0} (o : Option V) (w : W) (x : V) (y : W) → Member (labelled o w) (x, y) → (o ≡ Some x) × (w ≡ y)
labelled-out None w x y m = absurd m
labelled-out (Some v) w x y m = ⊎_elim {C = (Some v ≡ Some x) × (w ≡ y)} (λ e. (ap (λ p. Some p.0) e, ap (λ p. p.1) e)) (λ b. absurd b) m

labelled-in : {V W : Type 0} (o : Option V) (w : W) (x : V) → o ≡ Some x → Member (labelled o w) (x, w)
labelled-in o w x e = subst (λ q. Member (labelled q w) (x, w)) (sym e) (inl refl)

module _ (board : PairingVector → Duty → Option PairingVector) where
  boarding-out : (o : Option Duty) (rank : ℕ) (labels : List (PairingVector × List ℕ)) (x : PairingVector) (y : List ℕ) → Member (boarding board o rank labels) (x, y)
      → (d : Duty) × (l : PairingVector × List ℕ) × (o ≡ Some d) × Member labels l × (board l.0 d ≡ Some x) × (l.1 ++ rank ∷ [] ≡ y)
  boarding-out None rank labels x y m = absurd m
  boarding-out (Some d) rank labels x y m =
      let k = Member-flat_map_out (λ l. labelled (board l.0 d) (l.1 ++ rank ∷ [])) labels (x, y) m in
      let e = labelled-out (board k.0.0 d) (k.0.1 ++ rank ∷ []) x y k.2 in
      (d, k.0, refl, k.1, e.0, e.1)

  boarding-in : (o : Option Duty) (rank : ℕ) (labels : List (PairingVector × List ℕ)) (d : Duty) (l : PairingVector × List ℕ) (x : PairingVector) → o ≡ Some d → Member labels l → board l.0 d ≡ Some x
      → Member (boarding board o rank labels) (x, l.1 ++ rank ∷ [])
  boarding-in o rank labels d l x is m e =
      subst (λ q. Member (boarding board q rank labels) (x, l.1 ++ rank ∷ [])) (sym is)
      (Member-flat_map_in (λ z. labelled (board z.0 d) (z.1 ++ rank ∷ [])) labels l (x, l.1 ++ rank ∷ []) m (labelled-in (board l.0 d) (l.1 ++ rank ∷ []) x e))

then-equal : (o : Ordering) → ordering_then o Equal ≡ o
then-equal Less = refl
then-equal Equal = refl
then-equal Greater = refl

no-later : (a b : ℕ) → a ≤ b → (o : Ordering) → nat_cmp a b ≡ o → is_le o ≡ true
no-later a b h Less e = refl
no-later a b h Equal e = refl
no-later a b h Greater e =
    let below : b ≤ a = ge_from_not_lt a b (ap is_lt e) in
    let same : a ≡ b = omega (arith, h, below) in
    let tied : nat_cmp a b ≡ Equal = ap (nat_cmp a) (sym same) ∙ tied_itself nat_cmp_total a in
    absurd (let q : ⊥ = (cc) in q)

later-walk : (walk : List ℕ) (a b : ℕ) → a ≤ b → ranks_at_most (walk ++ a ∷ []) (walk ++ b ∷ []) ≡ true
later-walk walk a b h = ap is_le (cmp_after walk (a ∷ []) (b ∷ []) ∙ then-equal (nat_cmp a b)) ∙ no-later a b h (nat_cmp a b) refl

pub as-good-boarded : (r : AnchoredResource) (walks : List (List ℕ)) (duties : List Duty) (positions : List ℕ) (pools : List (List (PairingVector × LabelWalk))) (kept ranks : List ℕ)
    → ((k : ℕ) → Member kept k → Member ranks k) → HaveAsGood duties positions kept ranks → (es : List (PairingVector × List ℕ))
    → IsPoolOf is_at_most (boarded walks (anchored_board r) duties positions pools kept) es → IsPoolOf is_at_most (boarded walks (anchored_board r) duties positions pools ranks) es
as-good-boarded r walks duties positions pools kept ranks among good es =
    local_of_all PairingVector (List ℕ) is_at_most ranks_at_most vector-order ranks_order (λ v w. Member (boarded walks (anchored_board r) duties positions pools kept) (v, w))
    (λ v w. Member (boarded walks (anchored_board r) duties positions pools ranks) (v, w)) covering es
  where
    from-pool : ℕ → List (PairingVector × List ℕ)
    from-pool rank = map (shown walks) (get_or pools (get_or positions rank 0) [])

    brings : ℕ → List (PairingVector × List ℕ)
    brings rank = boarding (anchored_board r) (slice_get duties rank) rank (from-pool rank)

    covering : IsCovering is_at_most ranks_at_most (λ v w. Member (boarded walks (anchored_board r) duties positions pools kept) (v, w)) (λ v w. Member (boarded walks (anchored_board r) duties positions pools ranks) (v, w))
    covering = record {
      part = λ v w m.
          let k = Member-flat_map_out brings kept (v, w) m in
          Member-flat_map_in brings ranks k.0 (v, w) (among k.0 k.1) k.2;
      under = λ x y m.
          let k = Member-flat_map_out brings ranks (x, y) m in
          let b = boarding-out (anchored_board r) (slice_get duties k.0) k.0 (from-pool k.0) x y k.2 in
          let g = good k.0 k.1 in
          let q = g.2.boards r b.1.0 x b.0 b.2 b.4 in
          let label = subst (λ p. Member (map (shown walks) (get_or pools p [])) b.1) (sym g.2.position) b.3 in
          let walk = b.1.1 in (
            q.1,
            walk ++ g.0 ∷ [],
            Member-flat_map_in brings kept g.0 (q.1, walk ++ g.0 ∷ []) g.1 (boarding-in (anchored_board r) (slice_get duties g.0) g.0 (from-pool g.0) q.0 b.1 q.1 q.2 label q.3),
            q.4,
            λ e. subst (λ z. ranks_at_most (walk ++ g.0 ∷ []) z ≡ true) b.5 (later-walk walk g.0 k.0 (q.5 e)),
          );
    }
