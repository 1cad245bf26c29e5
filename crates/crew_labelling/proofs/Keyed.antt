-- Walks by rank and walks by key: what covers by rank covers by key.
use Rattle.std.proofs.Common.{◌≡◌, ◌∙◌, ◌<◌, ◌++◌, ℕ, zero, suc, Bool, true, cond, List, [], ◌∷◌, Option, Some, None, length, map, refl, sym, ap, ap₂, subst, arith}
use Rattle.std.specs.Prelude.{slice_get}
use Rattle.std.specs.List.{flat_map}
use Rattle.std.specs.Ordering.{eq_by_cmp, is_eq, is_le, nat_cmp, ordering_reverse}
use Rattle.std.specs.Cmp.{nat_cmp_is}
use Rattle.std.specs.declared.cmp.Ordering.TheVariants.{Less, Greater}
use Rattle.std.proofs.lemmas.Cmp.{eq_by_cmp_equiv, tied_itself}
use Rattle.std.proofs.lemmas.List.{map-append}
use Rattle.crew_forgetful.specs.Forgetful.{Covers}
use Rattle.crew_label.specs.Walks.{ranks_at_most}
use Rattle.crew_label.proofs.RisingLists.{each-member}
use Rattle.crew_net.specs.Machinery.Numbered.{place_of}
use Rattle.crew_net.proofs.Slices.{member-got}
use Rattle.crew_pairing.specs.Duties.{RiseByKey}
use Rattle.crew_pairing.specs.Keys.{key_cmp, key_total, walk_at_most}
use Rattle.crew_pairing.specs.Legs.{Leg}
use Rattle.crew_pairing.specs.declared.duty.Duty.{Duty}
use Rattle.crew_pool.specs.Ranks.{by_key, key_at}
use Rattle.crew_pool.proofs.RankLemmas.{walks_by_key}
use Rattle.crew_resource.specs.Events.{labelled}
use Rattle.crew_resource.specs.Members.{Each, Member}
use Rattle.crew_resource.proofs.Members.{Member-map_in, Member-map_out}

-- the rank of the first duty with the key
abbrev pub duty_place : List Duty → Duty → ℕ
duty_place duties d = place_of (λ e. eq_by_cmp key_cmp e.key d.key) duties

-- which is the duty's own, where duties rise by key
pub rank-place : (ds : List Duty) → RiseByKey ds → (rank : ℕ) (d : Duty) → slice_get ds rank ≡ Some d → duty_place ds d ≡ rank
rank-place [] rise rank d h = absurd (let q : ⊥ = (cc) in q)
rank-place (e ∷ es) rise zero d h =
    let same : e ≡ d = (cc) in
    let itself : eq_by_cmp key_cmp e.key d.key ≡ true = ap (λ (z : Duty). eq_by_cmp key_cmp z.key d.key) same ∙ (eq_by_cmp_equiv key_total).refl d.key in
    ap (λ b. cond b 0 (suc (duty_place es d))) itself
rank-place (e ∷ es) rise (suc rank) d h =
    let before : key_cmp e.key d.key ≡ Less = each-member (λ f. key_cmp e.key f.key ≡ Less) es d rise.0 (member-got es rank d h) in
    ap (λ b. cond b 0 (suc (duty_place es d))) (ap is_eq before) ∙ ap suc (rank-place es rise.1 rank d h)

pub key-of : (ds : List Duty) (rank : ℕ) (d : Duty) → slice_get ds rank ≡ Some d → key_at ds rank ≡ d.key
key-of [] rank d h = absurd (let q : ⊥ = (cc) in q)
key-of (e ∷ es) zero d h = let same : e ≡ d = (cc) in ap (λ (z : Duty). z.key) same
key-of (e ∷ es) (suc rank) d h = key-of es rank d h

abbrev pub keys : List Duty → List ℕ → List (List Leg)
keys ds k = map (key_at ds) k

abbrev pub keyed : {V : Type 0} → List Duty → V × List ℕ → V × List (List Leg)
keyed ds e = (e.0, keys ds e.1)

abbrev pub IsRanked : List Duty → List ℕ → Type 0
IsRanked ds k = Each (λ rank. rank < length ds) k

later : (d : Duty) (ds : List Duty) (a : ℕ) → Each (λ e. key_cmp d.key e.key ≡ Less) ds → a < length ds → key_cmp d.key (key_at ds a) ≡ Less
later d [] a h p = absurd (omega (arith, p))
later d (e ∷ es) zero h p = h.0
later d (e ∷ es) (suc a) h p = later d es a h.1 (omega (arith, p))

one-more : (a b : ℕ) → nat_cmp (suc a) (suc b) ≡ nat_cmp a b
one-more a b = grind (arith)

-- in a list that rises by key, places compare as keys
ranks-by-key : (ds : List Duty) → RiseByKey ds → (a b : ℕ) → a < length ds → b < length ds → nat_cmp a b ≡ key_cmp (key_at ds a) (key_at ds b)
ranks-by-key [] rise a b p q = absurd (omega (arith, p))
ranks-by-key (d ∷ ds) rise zero zero p q = sym (tied_itself key_total d.key)
ranks-by-key (d ∷ ds) rise zero (suc b) p q = sym (nat_cmp_is zero (suc b) Less (omega arith)) ∙ sym (later d ds b rise.0 (omega (arith, q)))
ranks-by-key (d ∷ ds) rise (suc a) zero p q =
    sym (nat_cmp_is (suc a) zero Greater (omega arith)) ∙ sym (key_total.antisymm (key_at ds a) d.key ∙ ap ordering_reverse (later d ds a rise.0 (omega (arith, p))))
ranks-by-key (d ∷ ds) rise (suc a) (suc b) p q = one-more a b ∙ ranks-by-key ds rise.1 a b (omega (arith, p)) (omega (arith, q))

at-most-keys : (ds : List Duty) → RiseByKey ds → (k l : List ℕ) → IsRanked ds k → IsRanked ds l → ranks_at_most k l ≡ true → walk_at_most (keys ds k) (keys ds l) ≡ true
at-most-keys ds rise k l p q h = ap is_le (sym (walks_by_key (length ds) (key_at ds) (ranks-by-key ds rise) k l p q)) ∙ h

module _ {V : Type 0} (ds : List Duty) (rise : RiseByKey ds) where
  -- entries that cover candidates by rank cover them by key
  pub covers-keyed : (le same : V → V → Bool) (Ranked : V → List ℕ → Type 0) (Keyed : V → List (List Leg) → Type 0) (entries : List (V × List ℕ))
      → ((v : V) (k : List ℕ) → Ranked v k → IsRanked ds k)
      → ((v : V) (k : List ℕ) → Ranked v k → Keyed v (keys ds k))
      → ((v : V) (k : List (List Leg)) → Keyed v k → (l : List ℕ) × Ranked v l × (keys ds l ≡ k))
      → Covers le same ranks_at_most (λ v k. Member entries (v, k)) Ranked
      → Covers le same walk_at_most (λ v k. Member (by_key ds entries) (v, k)) Keyed
  covers-keyed le same Ranked Keyed entries ranked to from c = record {
    part = λ v k m.
        let e = Member-map_out (keyed ds) entries (v, k) m in
        subst (λ (z : V × List (List Leg)). Keyed z.0 z.1) e.2 (to e.0.0 e.0.1 (c.part e.0.0 e.0.1 e.1));
    under = λ v k a.
        let b = from v k a in
        let u = c.under v b.0 b.1 in (
          u.0,
          keys ds u.1,
          Member-map_in (keyed ds) entries (u.0, u.1) u.2,
          (
            u.3.0,
            λ e.
                subst (λ (z : List (List Leg)). walk_at_most (keys ds u.1) z ≡ true) b.2
                (at-most-keys ds rise u.1 b.0 (ranked u.0 u.1 (c.part u.0 u.1 u.2)) (ranked v b.0 b.1) (u.3.1 e)),
          ),
        );
  }

  labelled-keyed : (o : Option V) (k : List ℕ) → map (keyed ds) (labelled o k) ≡ labelled o (keys ds k)
  labelled-keyed None k = refl
  labelled-keyed (Some v) k = refl

  -- boarding by rank and by key
  pub boards-keyed : (board : V → Option V) (rank : ℕ) (d : Duty) → slice_get ds rank ≡ Some d → (entries : List (V × List ℕ))
      → by_key ds (flat_map (λ e. labelled (board e.0) (e.1 ++ rank ∷ [])) entries) ≡ flat_map (λ e. labelled (board e.0) (e.1 ++ d.key ∷ [])) (by_key ds entries)
  boards-keyed board rank d known [] = refl
  boards-keyed board rank d known (e ∷ es) =
      let key = key-of ds rank d known in
      let rest = flat_map (λ (z : V × List ℕ). labelled (board z.0) (z.1 ++ rank ∷ [])) es in
      let one = labelled-keyed (board e.0) (e.1 ++ rank ∷ []) ∙ ap (labelled (board e.0)) (map-append (key_at ds) e.1 (rank ∷ []) ∙ ap (λ (z : List Leg). keys ds e.1 ++ z ∷ []) key) in
      map-append (keyed ds) (labelled (board e.0) (e.1 ++ rank ∷ [])) rest
      ∙ ap₂ (λ (a b : List (V × List (List Leg))). a ++ b) one (boards-keyed board rank d known es)
