-- What labels that board have, and labels that wait.
use Rattle.std.proofs.Common.{◌≡◌, ℕ, suc, ◌+◌, ◌<◌, Bool, true, List, [], ◌∷◌, ◌++◌, Option, Some, None, ℤ, pos, ◌+ℤ◌, length, get_or, map, take, inl, inr, refl, sym, ◌∙◌, ap, subst, ⊎_elim, arith, append-nil, append_assoc, length-append}
use Rattle.std.specs.Prelude.{slice_get}
use Rattle.std.specs.List.{flat_map}
use Rattle.std.proofs.lemmas.Int.{ints}
use Rattle.std.proofs.lemmas.List.{length-take-le, map-append, take_more}
use Rattle.crew_resource.specs.Events.{labelled}
use Rattle.crew_resource.specs.Members.{Member}
use Rattle.crew_resource.proofs.Members.{Member-append, Member-map_out}
use Rattle.crew_label.specs.Boarding.{LeadInto, boarded_from, linked, waited_label}
use Rattle.crew_label.specs.Pools.{AreCounted, IsCounted}
use Rattle.crew_label.specs.Walks.{shown, walk_of}
use Rattle.crew_label.specs.declared.label.Label.{Label}
use Rattle.crew_label.specs.declared.label.Link.{Link}

pub one_longer : (w : List ℕ) (d : ℕ) → pos (length w) +ℤ pos 1 ≡ pos (length (w ++ d ∷ []))
one_longer w d = let e = length-append w (d ∷ []) in omega (arith, ints, e)

module _ {V : Type 0} (board : V → Option V) (duty : ℕ) where
  abbrev pub link_at : ℕ → Link
  link_at place = record { duty = duty; place = place }

  -- one label more
  boarded-append : (n : ℕ) (ls : List (Label V)) (l : Label V) → boarded_from board duty n (ls ++ l ∷ []) ≡ boarded_from board duty n ls ++ linked (board l.value) (link_at (n + length ls))
  boarded-append n [] l =
      let e : n ≡ n + 0 = omega arith in
      append-nil (linked (board l.value) (link_at n)) ∙ ap (λ k. linked (board l.value) (link_at k)) e
  boarded-append n (x ∷ ls) l =
      let e : n + 1 + length ls ≡ n + suc (length ls) = omega arith in
      let here = linked (board x.value) (link_at n) in
      let rest = boarded_from board duty (n + 1) ls in
      ap (λ ys. here ++ ys) (boarded-append (n + 1) ls l ∙ ap (λ k. rest ++ linked (board l.value) (link_at k)) e)
      ∙ sym (append_assoc here rest (linked (board l.value) (link_at (n + suc (length ls)))))

  pub boarded-more : (ls : List (Label V)) (i : ℕ) (l : Label V) → i < length ls → l ≡ get_or ls i l
      → boarded_from board duty 0 (take i ls) ++ linked (board l.value) (link_at i) ≡ boarded_from board duty 0 (take (i + 1) ls)
  boarded-more ls i l h e =
      let place : i ≡ 0 + length (take i ls) = let k = length-take-le i ls (omega arith) in omega (arith, k) in
      ap (λ k. boarded_from board duty 0 (take i ls) ++ linked (board l.value) (link_at k)) place
      ∙ (sym (boarded-append 0 (take i ls) l)
      ∙ ap (boarded_from board duty 0) (ap (λ z. take i ls ++ z ∷ []) e ∙ sym (take_more ls i l h)))

  module _ (leads : Link → Bool) (trail : Link → List ℕ) (rank : ℕ) where
    -- links from a place on lead to the labels of a list
    Into : ℕ → List (Label V) → Type 0
    Into n ls = (k : ℕ) (l : Label V) → slice_get ls k ≡ Some l → (leads (link_at (n + k)) ≡ true) × (trail (link_at (n + k)) ≡ walk_of trail l.before ++ rank ∷ [])

    At : ℕ → Label V → Type 0
    At n l = (leads (link_at n) ≡ true) × (trail (link_at n) ≡ walk_of trail l.before ++ rank ∷ [])

    into-here : (n : ℕ) (l : Label V) (ls : List (Label V)) → Into n (l ∷ ls) → At n l
    unfolding Into At
    into-here n l ls h =
        let e : n + 0 ≡ n = omega arith in
        subst (λ k. (leads (link_at k) ≡ true) × (trail (link_at k) ≡ walk_of trail l.before ++ rank ∷ [])) e (h 0 l refl)

    into-next : (n : ℕ) (l : Label V) (ls : List (Label V)) → Into n (l ∷ ls) → Into (n + 1) ls
    unfolding Into
    into-next n l ls h k m e =
        let q : n + suc k ≡ n + 1 + k = omega arith in
        subst (λ j. (leads (link_at j) ≡ true) × (trail (link_at j) ≡ walk_of trail m.before ++ rank ∷ [])) q (h (suc k) m e)

    into-first : (ls : List (Label V)) → LeadInto leads trail duty rank ls → Into 0 ls
    unfolding Into
    into-first ls h k l e =
        let q : k ≡ 0 + k = omega arith in
        subst (λ j. (leads (link_at j) ≡ true) × (trail (link_at j) ≡ walk_of trail l.before ++ rank ∷ [])) q (h.there k l e, h.walk k l e)

    linked_entry : (n : ℕ) (l : Label V) (o : Option V) → At n l → map (shown trail) (linked o (link_at n)) ≡ labelled o (walk_of trail l.before ++ rank ∷ [])
    unfolding At
    linked_entry n l None a = refl
    linked_entry n l (Some z) a = ap (λ w. (z, w) ∷ []) a.1

    entries_from : (n : ℕ) (ls : List (Label V)) → Into n ls
        → map (shown trail) (boarded_from board duty n ls) ≡ flat_map (λ e. labelled (board e.0) (e.1 ++ rank ∷ [])) (map (shown trail) ls)
    entries_from n [] h = refl
    entries_from n (l ∷ ls) h =
        map-append (shown trail) (linked (board l.value) (link_at n)) (boarded_from board duty (n + 1) ls)
        ∙ (ap (λ ys. ys ++ map (shown trail) (boarded_from board duty (n + 1) ls)) (linked_entry n l (board l.value) (into-here n l ls h))
        ∙ ap (λ ys. labelled (board l.value) (walk_of trail l.before ++ rank ∷ []) ++ ys) (entries_from (n + 1) ls (into-next n l ls h)))

    pub boarded_entries : (ls : List (Label V)) → LeadInto leads trail duty rank ls
        → map (shown trail) (boarded_from board duty 0 ls) ≡ flat_map (λ e. labelled (board e.0) (e.1 ++ rank ∷ [])) (map (shown trail) ls)
    boarded_entries ls h = entries_from 0 ls (into-first ls h)

    module _ (count : V → ℤ) (one_more : (v z : V) → board v ≡ Some z → count z ≡ count v +ℤ pos 1) where
      linked_counted : (n : ℕ) (l : Label V) (o : Option V) → board l.value ≡ o → At n l → IsCounted count leads trail l → (m : Label V) → Member (linked o (link_at n)) m → IsCounted count leads trail m
      unfolding At
      linked_counted n l None e a i m h = absurd h
      linked_counted n l (Some z) e a i m (inl q) = subst (IsCounted count leads trail) q record {
        leading = a.0;
        counts = one_more l.value z e ∙ (ap (λ k. k +ℤ pos 1) i.counts ∙ (one_longer (walk_of trail l.before) rank ∙ ap (λ w. pos (length w)) (sym a.1)));
      }
      linked_counted n l (Some z) e a i m (inr h) = absurd h

      counted_from : (n : ℕ) (ls : List (Label V)) → Into n ls → AreCounted count leads trail ls → AreCounted count leads trail (boarded_from board duty n ls)
      counted_from n [] h c m k = absurd k
      counted_from n (l ∷ ls) h c m k = ⊎_elim
          (λ p. linked_counted n l (board l.value) refl (into-here n l ls h) (c l (inl refl)) m p)
          (λ p. counted_from (n + 1) ls (into-next n l ls h) (λ x q. c x (inr q)) m p)
          (Member-append (linked (board l.value) (link_at n)) (boarded_from board duty (n + 1) ls) m k)

      pub boarded_counted : (ls : List (Label V)) → LeadInto leads trail duty rank ls → AreCounted count leads trail ls → AreCounted count leads trail (boarded_from board duty 0 ls)
      boarded_counted ls h c = counted_from 0 ls (into-first ls h) c

module _ {V : Type 0} (wait : V → V) where
  pub waited_counted : (count : V → ℤ) (none_more : (v : V) → count (wait v) ≡ count v) (leads : Link → Bool) (trail : Link → List ℕ) (ls : List (Label V))
      → AreCounted count leads trail ls → AreCounted count leads trail (map (waited_label wait) ls)
  waited_counted count none_more leads trail ls c m k =
      let from = Member-map_out (waited_label wait) ls m k in
      let i = c from.0 from.1 in
      subst (IsCounted count leads trail) from.2 record { leading = i.leading; counts = none_more from.0.value ∙ i.counts }
