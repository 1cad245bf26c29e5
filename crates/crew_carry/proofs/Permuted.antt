-- Labels of two pools, in order of vector.
use Rattle.std.proofs.Common.{◌≡◌, Bor, ℕ, zero, suc, List, [], ◌∷◌, Option, Some, length, map, refl, ap, sym, subst}
use Rattle.std.specs.Prelude.{slice_get}
use Rattle.std.specs.List.Sorted.{IsPermutation}
use Rattle.std.proofs.lemmas.List.Sorted.{IsPermutation-map, IsPermutation-sym}
use Rattle.crew_pairing.specs.Legs.{Leg}
use Rattle.crew_pairing.specs.declared.duty.Duty.{Duty}
use Rattle.crew_pool.specs.LabelWalks.{shown}
use Rattle.crew_pool.specs.Ranks.{by_key, key_at}
use Rattle.crew_pool.specs.declared.label_walk.LabelWalk.{LabelWalk}
use Rattle.crew_pool.proofs.Permuted.{Member-permuted}
use Rattle.crew_resource.specs.Members.{Member}
use Rattle.crew_carry.specs.Labels.{AreCarriedLabels, IsCarriedLabel}
use Rattle.crew_carry.specs.Twins.{AreRankTwins}
use Rattle.crew_carry.proofs.CarriedLabels.{labels-keys}
use Rattle.crew_carry.proofs.Pushed.{some-none, some-once}

-- what stands among the sorted stands among the others
pub unsorted : {X : Type 0} (labels : List X) (sorted : List (Bor X)) (items : List (Bor X)) → items ≡ sorted → IsPermutation labels (map (λ b. b.now) sorted) → (l : X) → Member (map (λ b. b.now) items) l → Member labels l
unsorted {X} labels sorted items e p l m =
    let now : Bor X → X = λ b. b.now in
    Member-permuted (map now sorted) labels (IsPermutation-sym labels (map now sorted) p) l (subst (λ (zs : List (Bor X)). Member (map now zs) l) e m)

module _ {V : Type 0} (ranks : List (Option ℕ)) (from to : List (List ℕ)) where
  pub labels-long : (os ns : List (V × LabelWalk)) → AreCarriedLabels ranks from to os ns → length os ≡ length ns
  labels-long [] [] c = refl
  labels-long [] (n ∷ ns) c = absurd c
  labels-long (o ∷ os) [] c = absurd c
  labels-long (o ∷ os) (n ∷ ns) c = ap suc (labels-long os ns c.1)

  pub labels-at : (os ns : List (V × LabelWalk)) (i : ℕ) (o n : V × LabelWalk) → AreCarriedLabels ranks from to os ns → slice_get os i ≡ Some o → slice_get ns i ≡ Some n → IsCarriedLabel ranks from to o n
  labels-at [] ns i o n c p q = absurd (some-none i o p)
  labels-at (x ∷ os) [] i o n c p q = absurd c
  labels-at (x ∷ os) (y ∷ ns) zero o n c p q =
      subst (λ (z : V × LabelWalk). IsCarriedLabel ranks from to z n) (some-once x o p) (subst (λ (z : V × LabelWalk). IsCarriedLabel ranks from to x z) (some-once y n q) c.0)
  labels-at (x ∷ os) (y ∷ ns) (suc i) o n c p q = labels-at os ns i o n c.1 p q

  module _ (olds news : List Duty) (twins : AreRankTwins olds news ranks) where
    abbrev pub KeyedOld : List (V × LabelWalk) → List (V × List (List Leg))
    KeyedOld ls = by_key olds (map (shown from) ls)

    abbrev pub KeyedNew : List (V × LabelWalk) → List (V × List (List Leg))
    KeyedNew ls = by_key news (map (shown to) ls)

    keyed-permuted : (ds : List Duty) (walks : List (List ℕ)) (xs ys : List (V × LabelWalk)) → IsPermutation xs ys → IsPermutation (by_key ds (map (shown walks) xs)) (by_key ds (map (shown walks) ys))
    keyed-permuted ds walks xs ys p =
        let key : V × List ℕ → V × List (List Leg) = λ e. (e.0, map (key_at ds) e.1) in
        IsPermutation-map key (map (shown walks) xs) (map (shown walks) ys) (IsPermutation-map (shown walks) xs ys p)

    -- pools whose labels are twins in another order show the same by key
    pub alike-pools : (old new os ns : List (V × LabelWalk)) → IsPermutation old os → IsPermutation new ns → AreCarriedLabels ranks from to os ns
        → (e : V × List (List Leg))
        → (Member (by_key olds (map (shown from) old)) e → Member (by_key news (map (shown to) new)) e) × (Member (by_key news (map (shown to) new)) e → Member (by_key olds (map (shown from) old)) e)
    alike-pools old new os ns p q c e =
        let keys = labels-keys ranks from to olds news twins os ns c in
        let po = keyed-permuted olds from old os p in
        let pn = keyed-permuted news to new ns q in (
          λ m.
              Member-permuted (by_key news (map (shown to) ns)) (by_key news (map (shown to) new)) (IsPermutation-sym (by_key news (map (shown to) new)) (by_key news (map (shown to) ns)) pn) e
              (subst (λ (zs : List (V × List (List Leg))). Member zs e) (sym keys) (Member-permuted (by_key olds (map (shown from) old)) (by_key olds (map (shown from) os)) po e m)),
          λ m.
              Member-permuted (by_key olds (map (shown from) os)) (by_key olds (map (shown from) old)) (IsPermutation-sym (by_key olds (map (shown from) old)) (by_key olds (map (shown from) os)) po) e
              (subst (λ (zs : List (V × List (List Leg))). Member zs e) keys (Member-permuted (by_key news (map (shown to) new)) (by_key news (map (shown to) ns)) pn e m)),
        )
