-- Labels of two labellings side by side: the same lists, each label with the same keys in both, and
-- what is made of such lists.
use Rattle.std.proofs.Common.{◌≡◌, ◌∙◌, ℕ, suc, Bool, true, false, List, [], ◌∷◌, ◌++◌, Some, length, map, inl, inr, refl, sym, ap, ap₂, subst, ⊎_elim, arith}
use Rattle.std.specs.Prelude.{slice_get}
use Rattle.std.specs.List.{flat_map}
use Rattle.std.specs.declared.cmp.Ordering.{Ordering}
use Rattle.crew_label.specs.Boarding.{waited_label}
use Rattle.crew_label.specs.Tables.{Leaving}
use Rattle.crew_label.specs.declared.label.Label.{Label}
use Rattle.crew_net.specs.Nets.{Net}
use Rattle.crew_pairing.specs.Duties.{RiseByKey}
use Rattle.crew_pairing.specs.Legs.{Leg}
use Rattle.crew_resource.specs.Members.{Member}
use Rattle.crew_resource.proofs.Members.{Member-append, Member-map_out}
use Rattle.crew_labelling.specs.Beside.{AreSame, keyed_labels}
use Rattle.crew_labelling.specs.Candidates.{idle_labels}
use Rattle.crew_labelling.specs.Held.{AreHeld, trail_of}
use Rattle.crew_labelling.specs.Labellings.{labelling_of, pool_of, table_of}
use Rattle.crew_labelling.specs.Terms.{AreLawful, AreTerms, Terms}
use Rattle.crew_labelling.proofs.BesidePools.{pool-beside}
use Rattle.crew_labelling.proofs.BesideWalks.{IsShared, compare-alike, walked}
use Rattle.crew_labelling.proofs.Keyed.{IsRanked, keys}
use Rattle.crew_labelling.proofs.PoolOf.{pool_from}

-- the terms of the same resource and base over another network
abbrev pub beside : {V : Type 0} → Terms V → Net → List ℕ → Leaving → Terms V
beside w other others leaving = record w { net = other; numbers = others; leaves = leaving }

-- two terms by which a pass may go
pub record ArePaired {V : Type 0} (w z : Terms V) : Type 0 where
  pub here : AreTerms w
  pub there : AreTerms z
  pub lawful : AreLawful w
  pub lawful_there : AreLawful z

-- the same labels, each of which ends walks with the same keys
pub record AreShared {V : Type 0} (w z : Terms V) (own others : List (Label V)) : Type 0 where
  pub labels : own ≡ others
  pub both : (l : Label V) → Member own l → IsShared w z l.before

-- the walks of labels are of duties that have ranks
abbrev pub HaveRanks : {V : Type 0} → Terms V → List (Label V) → Type 0
HaveRanks {V} w labels = (l : Label V) → Member labels l → IsRanked w.net.duties (walked w l.before)

first-same : {A : Type 0} (x y : A) (xs ys : List A) → x ∷ xs ≡ y ∷ ys → x ≡ y
first-same x y xs ys e = (cc)

rest-same : {A : Type 0} (x y : A) (xs ys : List A) → x ∷ xs ≡ y ∷ ys → xs ≡ ys
rest-same x y xs ys e = (cc)

-- as what labels have says
pub held-ranked : {V : Type 0} (w : Terms V) (Bound : ℕ → V → Type 0) (labels : List (Label V)) → AreHeld w Bound (table_of w (labelling_of w)) labels → HaveRanks w labels
held-ranked w Bound labels h l m = (h l m).entry.ranked

module _ {V : Type 0} (w z : Terms V) where
  -- shared labels are the same
  keyed-alike : (labels : List (Label V)) → ((l : Label V) → Member labels l → IsShared w z l.before) → keyed_labels w labels ≡ keyed_labels z labels
  keyed-alike [] h = refl
  keyed-alike (l ∷ ls) h = ap₂ (λ (k : List (List Leg)) (es : List (V × List (List Leg))). (l.value, k) ∷ es) (h l (inl refl)).same (keyed-alike ls (λ m k. h m (inr k)))

  pub same-from-shared : (own others : List (Label V)) → AreShared w z own others → AreSame w z own others
  same-from-shared own others h = record { labels = h.labels; alike = keyed-alike own h.both ∙ ap (keyed_labels z) h.labels }

  -- and the same ones shared
  keys-from : (labels : List (Label V)) → keyed_labels w labels ≡ keyed_labels z labels → (l : Label V) → Member labels l → keys w.net.duties (walked w l.before) ≡ keys z.net.duties (walked z l.before)
  keys-from [] e l m = absurd m
  keys-from (x ∷ xs) e l (inl q) =
      let first = first-same (x.value, keys w.net.duties (walked w x.before)) (x.value, keys z.net.duties (walked z x.before)) (keyed_labels w xs) (keyed_labels z xs) e in
      subst (λ (y : Label V). keys w.net.duties (walked w y.before) ≡ keys z.net.duties (walked z y.before)) q (ap (λ (p : V × List (List Leg)). p.1) first)
  keys-from (x ∷ xs) e l (inr m) =
      keys-from xs (rest-same (x.value, keys w.net.duties (walked w x.before)) (x.value, keys z.net.duties (walked z x.before)) (keyed_labels w xs) (keyed_labels z xs) e) l m

  pub shared-from-same : (own others : List (Label V)) → HaveRanks w own → HaveRanks z others → AreSame w z own others → AreShared w z own others
  shared-from-same own others ranked ranks h = record {
    labels = h.labels;
    both = λ l m. record {
      here = ranked l m;
      there = ranks l (subst (λ (ls : List (Label V)). Member ls l) h.labels m);
      same = keys-from own (h.alike ∙ ap (keyed_labels z) (sym h.labels)) l m;
    };
  }

  -- lists that are shared ones
  pub shared-as : (own others ls ms : List (Label V)) → ls ≡ own → ms ≡ others → AreShared w z own others → AreShared w z ls ms
  shared-as own others ls ms p q h = record { labels = p ∙ (h.labels ∙ sym q); both = λ l m. h.both l (subst (λ (xs : List (Label V)). Member xs l) p m) }

  -- labels that wait
  pub shared-waited : (wait : V → V) (own others : List (Label V)) → AreShared w z own others → AreShared w z (map (waited_label wait) own) (map (waited_label wait) others)
  shared-waited wait own others h = record {
    labels = ap (map (waited_label wait)) h.labels;
    both = λ l m.
        let s = Member-map_out (waited_label wait) own l m in
        subst (λ (x : Label V). IsShared w z x.before) s.2 (h.both s.0 s.1);
  }

  -- the empty label
  idle-shared : (here : Bool) (v : V) (l : Label V) → Member (idle_labels here v) l → IsShared w z l.before
  idle-shared true v l (inl e) = subst (λ (x : Label V). IsShared w z x.before) e (record { here = tt; there = tt; same = refl })
  idle-shared true v l (inr m) = absurd m
  idle-shared false v l m = absurd m

  pub shared-idle : (here : Bool) (v : V) → AreShared w z (idle_labels here v) (idle_labels here v)
  shared-idle here v = record { labels = refl; both = idle-shared here v }

  -- one list after another
  pub shared-append : (ls ms more others : List (Label V)) → AreShared w z ls ms → AreShared w z more others → AreShared w z (ls ++ more) (ms ++ others)
  shared-append ls ms more others h k = record {
    labels = ap₂ (λ (a b : List (Label V)). a ++ b) h.labels k.labels;
    both = λ l m. ⊎_elim {C = IsShared w z l.before} (h.both l) (k.both l) (Member-append ls more l m);
  }

  pub shared-flat : {X : Type 0} (f g : X → List (Label V)) (xs ys : List X) → length xs ≡ length ys
      → ((k : ℕ) (x y : X) → slice_get xs k ≡ Some x → slice_get ys k ≡ Some y → AreShared w z (f x) (g y)) → AreShared w z (flat_map f xs) (flat_map g ys)
  shared-flat f g [] [] long h = record { labels = refl; both = λ l m. absurd m }
  shared-flat f g [] (y ∷ ys) long h = absurd (omega (arith, long))
  shared-flat f g (x ∷ xs) [] long h = absurd (omega (arith, long))
  shared-flat f g (x ∷ xs) (y ∷ ys) long h =
      shared-append (f x) (g y) (flat_map f xs) (flat_map g ys) (h 0 x y refl refl) (shared-flat f g xs ys (omega (arith, long)) (λ k a b p q. h (suc k) a b p q))

  -- the pool of shared labels
  pub shared-pool : RiseByKey w.net.duties → RiseByKey z.net.duties → (below same : V → V → Bool) (cmp : V → V → Ordering) (own others : List (Label V)) → AreShared w z own others
      → AreShared w z (pool_of below same cmp (trail_of (table_of w (labelling_of w))) own) (pool_of below same cmp (trail_of (table_of z (labelling_of z))) others)
  shared-pool rise rises below same cmp own others h = record {
    labels =
        pool-beside below same cmp (trail_of (table_of w (labelling_of w))) (trail_of (table_of z (labelling_of z))) own
        (λ l m j k. compare-alike w z rise rises l.before m.before (h.both l j) (h.both m k))
        ∙ ap (pool_of below same cmp (trail_of (table_of z (labelling_of z)))) h.labels;
    both = λ l m. h.both l (pool_from below same cmp (trail_of (table_of w (labelling_of w))) own l m);
  }
