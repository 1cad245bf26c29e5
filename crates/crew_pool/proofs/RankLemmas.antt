-- Walks by rank and walks by key: where duties are ranked by key, a pool by rank is one by key.
use Rattle.std.proofs.Common.{◌≡◌, ℕ, zero, suc, ◌<◌, Bool, true, List, [], ◌∷◌, length, map, refl, sym, ◌∙◌, ap, subst, arith}
use Rattle.std.specs.Cmp.Lexicographic.{slice_cmp}
use Rattle.std.specs.Ordering.{is_le, nat_cmp, ordering_reverse, ordering_then}
use Rattle.std.specs.declared.cmp.Ordering.TheVariants.{Less, Greater}
use Rattle.std.specs.Cmp.{nat_cmp_is}
use Rattle.std.proofs.lemmas.Cmp.{tied_itself}
use Rattle.crew_pairing.specs.Duties.{RiseByKey}
use Rattle.crew_pairing.specs.Keys.{key_cmp, key_total, walk_cmp, walk_at_most}
use Rattle.crew_resource.specs.Members.{Each, Member}
use Rattle.crew_pairing.specs.declared.duty.Duty.{Duty}
use Rattle.crew_pairing.specs.Legs.{Leg}
use Rattle.crew_pairing.specs.Local.{IsLocalOf}
use Rattle.crew_pool.specs.Ranks.{AreRanked, by_key, key_at}
use Rattle.crew_pool.specs.LabelWalks.{IsPoolOf}
use Rattle.crew_resource.proofs.Members.{Member-map_in, Member-map_out}

later : (d : Duty) (ds : List Duty) (a : ℕ) → Each (λ e. key_cmp d.key e.key ≡ Less) ds → a < length ds → key_cmp d.key (key_at ds a) ≡ Less
later d [] a h p = absurd (omega arith)
later d (e ∷ es) zero h p = h.0
later d (e ∷ es) (suc a) h p = later d es a h.1 (omega arith)

one_more : (a b : ℕ) → nat_cmp (suc a) (suc b) ≡ nat_cmp a b
one_more a b = grind (arith)

-- in a list that rises by key, places compare as keys
ranks_by_key : (ds : List Duty) → RiseByKey ds → (a b : ℕ) → a < length ds → b < length ds → nat_cmp a b ≡ key_cmp (key_at ds a) (key_at ds b)
ranks_by_key [] rise a b p q = absurd (omega arith)
ranks_by_key (d ∷ ds) rise zero zero p q = sym (tied_itself key_total d.key)
ranks_by_key (d ∷ ds) rise zero (suc b) p q = sym (nat_cmp_is zero (suc b) Less (omega arith)) ∙ sym (later d ds b rise.0 (omega arith))
ranks_by_key (d ∷ ds) rise (suc a) zero p q =
    sym (nat_cmp_is (suc a) zero Greater (omega arith)) ∙ sym (key_total.antisymm (key_at ds a) d.key ∙ ap ordering_reverse (later d ds a rise.0 (omega arith)))
ranks_by_key (d ∷ ds) rise (suc a) (suc b) p q = one_more a b ∙ ranks_by_key ds rise.1 a b (omega arith) (omega arith)

module _ (count : ℕ) (key : ℕ → List Leg) (ranked : (a b : ℕ) → a < count → b < count → nat_cmp a b ≡ key_cmp (key a) (key b)) where
  -- each duty of the walk has a rank
  abbrev pub IsRanked : List ℕ → Type 0
  IsRanked walk = Each (λ a. a < count) walk

  -- walks compare by rank as by key
  pub walks_by_key : (v w : List ℕ) → IsRanked v → IsRanked w → slice_cmp nat_cmp v w ≡ walk_cmp (map key v) (map key w)
  walks_by_key [] [] p q = refl
  walks_by_key [] (b ∷ w) p q = refl
  walks_by_key (a ∷ v) [] p q = refl
  walks_by_key (a ∷ v) (b ∷ w) p q =
      ap (λ o. ordering_then o (slice_cmp nat_cmp v w)) (ranked a b p.0 q.0) ∙ ap (ordering_then (key_cmp (key a) (key b))) (walks_by_key v w p.1 q.1)

  -- an entry with its walk by key
  abbrev pub keyed : {V : Type 0} → V × List ℕ → V × List (List Leg)
  keyed e = (e.0, map key e.1)

  -- what candidates leave by rank is what they leave by key
  pub pool_by_key : {V : Type 0} (below : V → V → Bool) (candidates entries : List (V × List ℕ)) → ((c : V × List ℕ) → Member candidates c → IsRanked c.1)
      → IsPoolOf below candidates entries → IsLocalOf below (map keyed candidates) (map keyed entries)
  pool_by_key {V} below candidates entries ranks i = record {
    among = λ v w m.
        let p = Member-map_out keyed entries (v, w) m in
        subst (Member (map keyed candidates)) p.2 (Member-map_in keyed candidates p.0 (i.among p.0.0 p.0.1 p.1));
    covers = λ x y m.
        let p = Member-map_out keyed candidates (x, y) m in
        let value : p.0.0 ≡ x = ap (λ e. e.0) p.2 in
        let walk : map key p.0.1 ≡ y = ap (λ e. e.1) p.2 in
        let k = i.covers p.0.0 p.0.1 p.1 in (
          k.0,
          map key k.1,
          Member-map_in keyed entries (k.0, k.1) k.2,
          subst (λ z. below k.0 z ≡ true) value k.3,
          λ e.
              subst (λ z. walk_at_most (map key k.1) z ≡ true) walk
              (ap is_le (sym (walks_by_key k.1 p.0.1 (ranks (k.0, k.1) (i.among k.0 k.1 k.2)) (ranks p.0 p.1))) ∙ k.4 (e ∙ sym value)),
        );
    alone = λ v w x y m n h.
        let p = Member-map_out keyed entries (v, w) m in
        let q = Member-map_out keyed entries (x, y) n in
        let pv : p.0.0 ≡ v = ap (λ e. e.0) p.2 in
        let qv : q.0.0 ≡ x = ap (λ e. e.0) q.2 in
        let pw : map key p.0.1 ≡ w = ap (λ e. e.1) p.2 in
        let qw : map key q.0.1 ≡ y = ap (λ e. e.1) q.2 in
        let same = i.alone p.0.0 p.0.1 q.0.0 q.0.1 p.1 q.1 (subst (λ z. below z q.0.0 ≡ true) (sym pv) (subst (λ z. below v z ≡ true) (sym qv) h)) in
        (sym pv ∙ (same.0 ∙ qv), sym pw ∙ (ap (map key) same.1 ∙ qw));
  }

-- over duties that rise by key
pub pool_of_rising : {V : Type 0} (below : V → V → Bool) (ds : List Duty) (candidates entries : List (V × List ℕ)) → RiseByKey ds → AreRanked (length ds) candidates
    → IsPoolOf below candidates entries → IsLocalOf below (by_key ds candidates) (by_key ds entries)
pool_of_rising below ds candidates entries rise ranks i = pool_by_key (length ds) (key_at ds) (ranks_by_key ds rise) below candidates entries ranks i
