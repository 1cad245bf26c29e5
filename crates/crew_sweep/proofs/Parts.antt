-- Pools of some that stand in a row: joined, over walks that have grown, and where others change.
use Rattle.std.proofs.Common.{◌≡◌, ◌∙◌, ◌<◌, ◌≤◌, ◌+◌, ◌-◌, ℕ, zero, suc, true, false, List, [], ◌∷◌, ◌++◌, length, map, take, drop, get_or, Some, inl, inr, refl, sym, ap, subst, ⊎_elim, arith, ◌⊎◌}
use Rattle.std.specs.Prelude.{slice_get}
use Rattle.std.specs.List.{flat_map}
use Rattle.crew_net.proofs.Slices.{get-at, listed-at, member-got, part-in, part-out}
use Rattle.crew_pairing.specs.declared.vector.PairingVector.{PairingVector}
use Rattle.crew_pool.specs.Counted.{AreCounted}
use Rattle.crew_pool.specs.LabelWalks.{IsPoolOf, ranks_at_most, shown}
use Rattle.crew_pool.specs.declared.label_walk.LabelWalk.{LabelWalk}
use Rattle.crew_pool.proofs.LabelWalkLemmas.{ranks_order}
use Rattle.crew_resource.specs.Labels.{IsLocal}
use Rattle.crew_resource.specs.Members.{Member}
use Rattle.crew_resource.proofs.Covering.{IsCovering, local_of_all}
use Rattle.crew_resource.proofs.Members.{Member-append, Member-append_left, Member-append_right, Member-flat_map_in, Member-flat_map_out, Member-map_in, Member-map_out}
use Rattle.crew_carry.specs.crew_step.Walks.{HasGrown}
use Rattle.crew_carry.proofs.crew_step_lemmas.Grown.{all-shown-grown, counted-grown}
use Rattle.crew_sweep.specs.Machinery.Parts.{AreHeld, AreSuffixes, IsPart, Within}
use Rattle.crew_sweep.proofs.Fronts.{local-same}
use Rattle.crew_vector.specs.Dominance.{is_at_most}
use Rattle.crew_vector.proofs.Steps.{vector-order}

abbrev Labels : Type 0
Labels = List (PairingVector × LabelWalk)

abbrev Leaves : (PairingVector → List ℕ → Type 0) → List (PairingVector × List ℕ) → Type 0
Leaves = IsLocal is_at_most ranks_at_most

-- the same place
one-place : (a b : ℕ) → a ≤ b → b < a + 1 → b ≡ a
one-place a b h k = omega (arith, h, k)

beside : (p middle : ℕ) → (p < middle) ⊎ (middle ≤ p)
beside p middle = grind arith

-- a pool is what its own labels leave
pub own : (C : PairingVector → List ℕ → Type 0) (es : List (PairingVector × List ℕ)) → Leaves C es → IsPoolOf is_at_most es es
own C es local = record { among = λ v w m. m; covers = λ x y m. local.covers x y (local.among x y m); alone = local.alone }

-- what two pools leave together is what their candidates leave
pub joined-local : (A B C : PairingVector → List ℕ → Type 0) (ps qs es : List (PairingVector × List ℕ)) → ((v : PairingVector) (w : List ℕ) → C v w → A v w ⊎ B v w)
    → ((v : PairingVector) (w : List ℕ) → A v w → C v w) → ((v : PairingVector) (w : List ℕ) → B v w → C v w)
    → Leaves A ps → Leaves B qs → IsPoolOf is_at_most (ps ++ qs) es → Leaves C es
joined-local A B C ps qs es split in-a in-b la lb local = local_of_all PairingVector (List ℕ) is_at_most ranks_at_most vector-order ranks_order (λ v w. Member (ps ++ qs) (v, w)) C covering es local
  where
    covering : IsCovering is_at_most ranks_at_most (λ v w. Member (ps ++ qs) (v, w)) C
    covering = record {
      part = λ v w m. ⊎_elim {C = C v w} (λ k. in-a v w (la.among v w k)) (λ k. in-b v w (lb.among v w k)) (Member-append ps qs (v, w) m);
      under = λ x y c. ⊎_elim {C = (v : PairingVector) × (w : List ℕ) × Member (ps ++ qs) (v, w) × (is_at_most v x ≡ true) × (v ≡ x → ranks_at_most w y ≡ true)}
          (λ k. let e = la.covers x y k in (e.0, e.1, Member-append_left ps qs (e.0, e.1) e.2, e.3, e.4))
          (λ k. let e = lb.covers x y k in (e.0, e.1, Member-append_right ps qs (e.0, e.1) e.2, e.3, e.4))
          (split x y c);
    }

module _ (walks : List (List ℕ)) (held : List Labels) where
  Place : ℕ → ℕ → PairingVector → List ℕ → Type 0
  Place from end = Within walks held from end

  pub part-none : (place : ℕ) → IsPart walks held place place []
  part-none place = record {
    local = record {
      among = λ v w m. absurd m;
      covers = λ x y c. let l = c.1 in let k = c.2 in absurd (omega (arith, l, k));
      alone = λ v w x y m. absurd m;
    };
    counts = λ l m. absurd m;
  }

  pub part-one : AreHeld walks held → (place : ℕ) (labels : Labels) → slice_get held place ≡ Some labels → IsPart walks held place (place + 1) labels
  part-one are place labels at =
      let m = member-got held place labels at in
      let here : get_or held place [] ≡ labels = get-at held place labels [] at in
      let settled = are.settled labels m in
      record {
        local = record {
          among = λ v w k. (place, omega arith, omega arith, subst (λ (ls : Labels). Member (map (shown walks) ls) (v, w)) (sym here) k);
          covers = λ x y c.
              let same : get_or held c.0 [] ≡ labels = ap (λ p. get_or held p []) (one-place place c.0 c.1 c.2) ∙ here in
              settled.covers x y (subst (λ (ls : Labels). Member (map (shown walks) ls) (x, y)) same c.3);
          alone = settled.alone;
        };
        counts = are.pending labels m;
      }

  abbrev Joins : Labels → Labels → Labels → Type 0
  Joins a b r = (candidates : List (PairingVector × List ℕ)) → IsPoolOf is_at_most candidates (map (shown walks) a) → IsPoolOf is_at_most (candidates ++ map (shown walks) b) (map (shown walks) r)

  -- what stands up to a place, and from it on
  split-at : (from middle end : ℕ) → (v : PairingVector) (w : List ℕ) → Within walks held from end v w → Within walks held from middle v w ⊎ Within walks held middle end v w
  split-at from middle end v w c = ⊎_elim {C = Within walks held from middle v w ⊎ Within walks held middle end v w} (λ l. inl (c.0, c.1, l, c.3)) (λ l. inr (c.0, l, c.2, c.3)) (beside c.0 middle)

  earlier : (from middle end : ℕ) → middle ≤ end → (v : PairingVector) (w : List ℕ) → Within walks held from middle v w → Within walks held from end v w
  earlier from middle end h v w c = let l = c.2 in (c.0, c.1, omega (arith, h, l), c.3)

  later : (from middle end : ℕ) → from ≤ middle → (v : PairingVector) (w : List ℕ) → Within walks held middle end v w → Within walks held from end v w
  later from middle end h v w c = let l = c.1 in (c.0, omega (arith, h, l), c.2, c.3)

  pub part-after : (from middle end : ℕ) (a b r : Labels) → from ≤ middle → middle ≤ end → IsPart walks held from middle a → IsPart walks held middle end b → Joins a b r
      → AreCounted (λ (v : PairingVector). v.duties) walks false r → IsPart walks held from end r
  part-after from middle end a b r h k pa pb joins counts = record {
    local = joined-local (Within walks held from middle) (Within walks held middle end) (Within walks held from end) (map (shown walks) a) (map (shown walks) b) (map (shown walks) r)
        (split-at from middle end) (earlier from middle end k) (later from middle end h) pa.local pb.local (joins (map (shown walks) a) (own (Within walks held from middle) (map (shown walks) a) pa.local));
    counts = counts;
  }

  pub part-before : (from middle end : ℕ) (a b r : Labels) → from ≤ middle → middle ≤ end → IsPart walks held middle end a → IsPart walks held from middle b → Joins a b r
      → AreCounted (λ (v : PairingVector). v.duties) walks false r → IsPart walks held from end r
  part-before from middle end a b r h k pa pb joins counts = record {
    local = joined-local (Within walks held middle end) (Within walks held from middle) (Within walks held from end) (map (shown walks) a) (map (shown walks) b) (map (shown walks) r)
        (λ v w c. ⊎_elim {C = Within walks held middle end v w ⊎ Within walks held from middle v w} inr inl (split-at from middle end v w c))
        (later from middle end h) (earlier from middle end k) pa.local pb.local (joins (map (shown walks) a) (own (Within walks held middle end) (map (shown walks) a) pa.local));
    counts = counts;
  }

  -- the pool of a window, over the list of what stands in it
  pub part-listed : (from end : ℕ) (labels : Labels) → from ≤ end → IsPart walks held from end labels
      → IsPoolOf is_at_most (flat_map (map (shown walks)) (take (end - from) (drop from held))) (map (shown walks) labels)
  part-listed from end labels ordered part = local-same is_at_most ranks_at_most (Within walks held from end) (λ v w. Member (flat_map (map (shown walks)) (take (end - from) (drop from held))) (v, w)) (map (shown walks) labels)
      (λ v w c.
      let l = Member-map_out (shown walks) (get_or held c.0 []) (v, w) c.3 in
      let at = listed-at held c.0 l.0 l.1 in
      let there = subst (λ e. Member (map (shown walks) at.0) e) l.2 (Member-map_in (shown walks) at.0 l.0 at.2) in
      Member-flat_map_in (map (shown walks)) (take (end - from) (drop from held)) at.0 (v, w) (part-in held from end c.0 at.0 at.1 c.1 c.2) there)
      (λ v w m.
      let l = Member-flat_map_out (map (shown walks)) (take (end - from) (drop from held)) (v, w) m in
      let p = part-out held from end l.0 ordered l.1 in
      (p.0, p.1, p.2, subst (λ (ls : Labels). Member (map (shown walks) ls) (v, w)) (sym (get-at held p.0 l.0 [] p.3)) l.2))
      part.local

  -- where the row changes elsewhere
  pub part-framed : (new : List Labels) (from end : ℕ) (labels : Labels) → ((p : ℕ) → from ≤ p → p < end → get_or new p [] ≡ get_or held p []) → IsPart walks held from end labels → IsPart walks new from end labels
  part-framed new from end labels same part = record {
    local = local-same is_at_most ranks_at_most (Within walks held from end) (Within walks new from end) (map (shown walks) labels)
        (λ v w c. (c.0, c.1, c.2, subst (λ (ls : Labels). Member (map (shown walks) ls) (v, w)) (sym (same c.0 c.1 c.2)) c.3))
        (λ v w c. (c.0, c.1, c.2, subst (λ (ls : Labels). Member (map (shown walks) ls) (v, w)) (same c.0 c.1 c.2) c.3))
        part.local;
    counts = part.counts;
  }

-- pools to an end, and one more
last-or : {A : Type 0} (xs : List A) (x : A) (i : ℕ) (y : A) → slice_get (xs ++ x ∷ []) i ≡ Some y → (slice_get xs i ≡ Some y) ⊎ ((i ≡ length xs) × (x ≡ y))
last-or [] x zero y h = inr (refl, (cc))
last-or [] x (suc i) y h = absurd (let q : ⊥ = (cc) in q)
last-or (z ∷ zs) x zero y h = inl h
last-or (z ∷ zs) x (suc i) y h = ⊎_elim (λ k. inl k) (λ k. inr (ap suc k.0, k.1)) (last-or zs x i y h)

module _ (walks : List (List ℕ)) (held : List Labels) (end : ℕ) where
  -- the nearest of them alone
  pub suffixes-fewer : (pools : List Labels) (n : ℕ) → AreSuffixes walks held end pools → AreSuffixes walks held end (take n pools)
  suffixes-fewer pools n suffixes = record {
    reach = λ i labels at. suffixes.reach i labels (taken pools n i labels at);
    parts = λ i labels at. suffixes.parts i labels (taken pools n i labels at);
  }
    where
      taken : (xs : List Labels) (n i : ℕ) (x : Labels) → slice_get (take n xs) i ≡ Some x → slice_get xs i ≡ Some x
      taken xs zero i x h = absurd (let q : ⊥ = (cc) in q)
      taken [] (suc n) i x h = h
      taken (y ∷ ys) (suc n) zero x h = h
      taken (y ∷ ys) (suc n) (suc i) x h = taken ys n i x h

  pub suffixes-more : (pools : List Labels) (longer : Labels) → AreSuffixes walks held end pools → length pools ≤ end → IsPart walks held (end - length pools) end longer → AreSuffixes walks held end (pools ++ longer ∷ [])
  suffixes-more pools longer suffixes few part = record {
    reach = λ i labels h. ⊎_elim {C = i ≤ end} (suffixes.reach i labels) (λ k. let e = k.0 in omega (arith, e, few)) (last-or pools longer i labels h);
    parts = λ i labels h. ⊎_elim {C = IsPart walks held (end - i) end labels} (suffixes.parts i labels) (λ k. subst (λ n. IsPart walks held (end - n) end labels) (sym k.0) (subst (λ (ls : Labels). IsPart walks held (end - length pools) end ls) k.1 part)) (last-or pools longer i labels h);
  }

-- over walks that have grown
module _ (before after : List (List ℕ)) (grown : HasGrown before after) where
  shown-same : (held : List Labels) → ((labels : Labels) → Member held labels → AreCounted (λ (v : PairingVector). v.duties) before false labels) → (p : ℕ) → map (shown after) (get_or held p []) ≡ map (shown before) (get_or held p [])
  shown-same [] pending p = refl
  shown-same (h ∷ hs) pending zero = all-shown-grown (λ (v : PairingVector). v.duties) before after false grown h (pending h (inl refl))
  shown-same (h ∷ hs) pending (suc p) = shown-same hs (λ labels m. pending labels (inr m)) p

  pub part-grown : (held : List Labels) → ((labels : Labels) → Member held labels → AreCounted (λ (v : PairingVector). v.duties) before false labels)
      → (from end : ℕ) (labels : Labels) → IsPart before held from end labels → IsPart after held from end labels
  part-grown held pending from end labels part =
      let same = all-shown-grown (λ (v : PairingVector). v.duties) before after false grown labels part.counts in
      record {
        local = subst (λ (es : List (PairingVector × List ℕ)). IsLocal is_at_most ranks_at_most (Within after held from end) es) (sym same)
            (local-same is_at_most ranks_at_most (Within before held from end) (Within after held from end) (map (shown before) labels)
            (λ v w c. (c.0, c.1, c.2, subst (λ (es : List (PairingVector × List ℕ)). Member es (v, w)) (sym (shown-same held pending c.0)) c.3))
            (λ v w c. (c.0, c.1, c.2, subst (λ (es : List (PairingVector × List ℕ)). Member es (v, w)) (shown-same held pending c.0) c.3))
            part.local);
        counts = λ l m. counted-grown (λ (v : PairingVector). v.duties) before after false grown l (part.counts l m);
      }
