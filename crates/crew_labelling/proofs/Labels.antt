-- What the labels of a pass have, kept by the stages.
use Rattle.std.proofs.Common.{◌≡◌, ◌∙◌, ◌<◌, ◌≤◌, ℕ, suc, List, [], ◌∷◌, ◌++◌, Option, Some, None, ℤ, pos, length, map, inl, inr, refl, sym, ap, subst, arith, length-append}
use Rattle.std.specs.Prelude.{◌≤ℤ◌}
use Rattle.std.specs.List.{flat_map}
use Rattle.std.proofs.lemmas.Int.{ints}
use Rattle.crew_label.specs.Boarding.{waited_label}
use Rattle.crew_label.specs.Pools.{AreCounted}
use Rattle.crew_label.specs.Tables.{Tabled}
use Rattle.crew_label.specs.Walks.{shown, walk_of}
use Rattle.crew_label.specs.declared.label.Label.{Label}
use Rattle.crew_label.specs.declared.label.Link.{Link}
use Rattle.crew_label.proofs.RisingLists.{each-append}
use Rattle.crew_net.proofs.Slices.{some-same}
use Rattle.crew_resource.specs.Events.{labelled}
use Rattle.crew_resource.specs.Members.{Each, Member}
use Rattle.crew_resource.proofs.Members.{Member-flat_map_out, Member-map_in, Member-map_out}
use Rattle.crew_labelling.specs.Held.{AreHeld, IsEntry, IsHeld, leads_of, trail_of}
use Rattle.crew_labelling.specs.Candidates.{waited_entries}
use Rattle.crew_labelling.specs.Terms.{Terms}

module _ {V : Type 0} (w : Terms V) (t : Tabled V) where
  pub counted : (Bound : ℕ → V → Type 0) (labels : List (Label V)) → AreHeld w Bound t labels → AreCounted w.count (leads_of t) (trail_of t) labels
  counted Bound labels h l m = let k = h l m in record { leading = k.leading; counts = k.entry.counts }

  -- labels that wait
  pub waited-held : (arrived ready : ℕ → V → Type 0) (wait : V → V) → ((v : V) → w.count (wait v) ≡ w.count v) → ((n : ℕ) (v : V) → arrived n v → ready n (wait v))
      → (labels : List (Label V)) → AreHeld w arrived t labels → AreHeld w ready t (map (waited_label wait) labels)
  waited-held arrived ready wait same keeps labels h l m =
      let s = Member-map_out (waited_label wait) labels l m in
      let k = h s.0 s.1 in
      subst (IsHeld w ready t) s.2
      (record {
        leading = k.leading;
        entry = record { counts = same s.0.value ∙ k.entry.counts; ranked = k.entry.ranked; few = k.entry.few; bound = keeps (length (walk_of (trail_of t) s.0.before)) s.0.value k.entry.bound };
      })

pub shown-waited : {V : Type 0} (trail : Link → List ℕ) (wait : V → V) (labels : List (Label V)) → map (shown trail) (map (waited_label wait) labels) ≡ waited_entries wait (map (shown trail) labels)
shown-waited trail wait [] = refl
shown-waited trail wait (l ∷ ls) = ap (λ es. (wait l.value, walk_of trail l.before) ∷ es) (shown-waited trail wait ls)

pub labelled-out : {V W : Type 0} (o : Option V) (k : W) (x : V × W) → Member (labelled o k) x → (o ≡ Some x.0) × (x.1 ≡ k)
labelled-out None k x m = absurd m
labelled-out (Some v) k x (inl e) = (ap (λ p. Some p.0) e, ap (λ p. p.1) (sym e))
labelled-out (Some v) k x (inr m) = absurd m

few-of : (n limit : ℕ) (c : ℤ) → c ≡ pos n → c ≤ℤ pos limit → n ≤ limit
few-of n limit c e h = grind (arith, ints)

-- labels that board
module _ {V : Type 0} (w : Terms V) (t : Tabled V) (board : V → Option V) (rank limit : ℕ)
    (ranked : rank < length w.net.duties) (has : w.most ≡ Some limit) (ends : (v z : V) → board v ≡ Some z → w.count z ≤ℤ pos limit)
    (keeps : (n : ℕ) (v z : V) → w.ready n v → board v ≡ Some z → w.arrived (suc n) z) where
  pub boarded-held : (pool view : List (Label V)) → AreHeld w w.ready t pool
      → map (shown (trail_of t)) view ≡ flat_map (λ e. labelled (board e.0) (e.1 ++ rank ∷ [])) (map (shown (trail_of t)) pool)
      → AreCounted w.count (leads_of t) (trail_of t) view → AreHeld w w.arrived t view
  boarded-held pool view held is counts l m =
      let trail = trail_of t in
      let boards = λ (e : V × List ℕ). labelled (board e.0) (e.1 ++ rank ∷ []) in
      let label = counts l m in
      let e = Member-flat_map_out boards (map (shown trail) pool) (shown trail l) (subst (λ (es : List (V × List ℕ)). Member es (shown trail l)) is (Member-map_in (shown trail) view l m)) in
      let k = labelled-out (board e.0.0) (e.0.1 ++ rank ∷ []) (shown trail l) e.2 in
      let s = Member-map_out (shown trail) pool e.0 e.1 in
      let was = subst (IsEntry w w.ready) s.2 (held s.0 s.1).entry in
      let long : length (walk_of trail l.before) ≡ suc (length e.0.1) = ap length k.1 ∙ one-more e.0.1 in
      record {
        leading = label.leading;
        entry = record {
          counts = label.counts;
          ranked = subst (Each (λ r. r < length w.net.duties)) (sym k.1) (each-append (λ r. r < length w.net.duties) e.0.1 rank was.ranked ranked);
          few = λ n h. subst (λ z. length (walk_of trail l.before) ≤ z) (some-same w.most limit n has h) (few-of (length (walk_of trail l.before)) limit (w.count l.value) label.counts (ends e.0.0 l.value k.0));
          bound = subst (λ n. w.arrived n l.value) (sym long) (keeps (length e.0.1) e.0.0 l.value was.bound k.0);
        };
      }
    where
      one-more : (xs : List ℕ) → length (xs ++ rank ∷ []) ≡ suc (length xs)
      one-more xs = let n = length-append xs (rank ∷ []) in omega (arith, n)
