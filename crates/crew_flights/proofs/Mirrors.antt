-- Two maps that mirror each other still do when a link is put or taken out of both.
use Rattle.std.proofs.Common.{◌≡◌, ◌⊎◌, ℕ, true, false, cond, refl, sym, ◌∙◌, ap, subst, inl, inr, Option, Some, None}
use Rattle.std.specs.Ordering.{nat_cmp, eq_by_cmp}
use Rattle.std.specs.Cmp.{nat_cmp_total, eq_by_cmp_equiv}
use Rattle.std.specs.FinMap as map
use Rattle.std.proofs.lemmas.Map.Lookups.{exact_unsigned}
use Rattle.std.proofs.lemmas.Map.Views.{tells_apart}
use Rattle.crew_flights.specs.FollowOns.{Links, without_link}
use Rattle.crew_flights.specs.Timetable.{IsMirrored}

some_once : {X : Type 0} (a b : X) → Some a ≡ Some b → a ≡ b
some_once a b e = cc

tie_itself : (n : ℕ) → eq_by_cmp nat_cmp n n ≡ true
tie_itself n = (eq_by_cmp_equiv nat_cmp_total).refl n

-- numbers that don't tie are apart
apart_numbers : (q k : ℕ) → eq_by_cmp nat_cmp q k ≡ false → q ≡ k → ⊥
apart_numbers q k e same = let t : eq_by_cmp nat_cmp q k ≡ true = subst (λ x. eq_by_cmp nat_cmp q x ≡ true) same (tie_itself q) in cc

test_apart : (q k : ℕ) → (q ≡ k → ⊥) → eq_by_cmp nat_cmp q k ≡ false
test_apart q k apart =
    elim (eq_by_cmp nat_cmp q k) as (λ b. eq_by_cmp nat_cmp q k ≡ b → b ≡ false) [
      | true ↦ λ e. absurd (apart (tells_apart exact_unsigned q k e))
      | false ↦ λ e. refl
    ] refl

-- a link that is left where one is taken out
pub removed : (m : Links) (k q p : ℕ) → map.get (map.remove m k) q ≡ Some p → (map.get m q ≡ Some p) × (q ≡ k → ⊥)
removed m k q p h =
    elim (eq_by_cmp nat_cmp q k) as (λ b. eq_by_cmp nat_cmp q k ≡ b → cond b None (map.get m q) ≡ Some p → (map.get m q ≡ Some p) × (q ≡ k → ⊥)) [
      | true ↦ λ e i. absurd (cc)
      | false ↦ λ e i. (i, apart_numbers q k e)
    ] refl (sym (map.get-remove nat_cmp_total m k q) ∙ h)

left_in : (m : Links) (k q p : ℕ) → map.get m q ≡ Some p → (q ≡ k → ⊥) → map.get (map.remove m k) q ≡ Some p
left_in m k q p h apart = map.get-remove nat_cmp_total m k q ∙ ap (λ b. cond b None (map.get m q)) (test_apart q k apart) ∙ h

removed_link : (m : Links) (o : Option ℕ) (q p : ℕ) → map.get (without_link m o) q ≡ Some p → (map.get m q ≡ Some p) × (o ≡ Some q → ⊥)
removed_link m None q p h = (h, λ e. absurd (cc))
removed_link m (Some k) q p h = let r = removed m k q p h in (r.0, λ e. r.1 (sym (some_once k q e)))

left_link : (m : Links) (o : Option ℕ) (q p : ℕ) → map.get m q ≡ Some p → (o ≡ Some q → ⊥) → map.get (without_link m o) q ≡ Some p
left_link m None q p h apart = h
left_link m (Some k) q p h apart = left_in m k q p h (λ e. apart (ap Some (sym e)))

put_here : (m : Links) (k v : ℕ) → map.get (map.insert m k v) k ≡ Some v
put_here m k v = map.get-insert nat_cmp_total m k v k ∙ ap (λ b. cond b (Some v) (map.get m k)) (tie_itself k)

put_elsewhere : (m : Links) (k v q p : ℕ) → map.get m q ≡ Some p → (q ≡ k → ⊥) → map.get (map.insert m k v) q ≡ Some p
put_elsewhere m k v q p h apart = map.get-insert nat_cmp_total m k v q ∙ ap (λ b. cond b (Some v) (map.get m q)) (test_apart q k apart) ∙ h

-- a link is the one that was put, or one from before
pub put_or_old : (m : Links) (k v q p : ℕ) → map.get (map.insert m k v) q ≡ Some p → ((q ≡ k) × (v ≡ p)) ⊎ (map.get m q ≡ Some p)
put_or_old m k v q p h =
    elim (eq_by_cmp nat_cmp q k) as (λ b. eq_by_cmp nat_cmp q k ≡ b → cond b (Some v) (map.get m q) ≡ Some p → ((q ≡ k) × (v ≡ p)) ⊎ (map.get m q ≡ Some p)) [
      | true ↦ λ e i. inl (tells_apart exact_unsigned q k e, some_once v p i)
      | false ↦ λ e i. inr i
    ] refl (sym (map.get-insert nat_cmp_total m k v q) ∙ h)

-- a link that is left where two are taken out is one of others
pub link_of_others : (m : Links) (k : ℕ) (o : Option ℕ) (q p : ℕ) → map.get (without_link (map.remove m k) o) q ≡ Some p → (map.get m q ≡ Some p) × (q ≡ k → ⊥) × (o ≡ Some q → ⊥)
link_of_others m k o q p h =
    let r = removed_link (map.remove m k) o q p h in
    let s = removed m k q p r.0 in
    (s.0, s.1, r.1)

module _ (m w : Links) (there : IsMirrored m w) where
  pub mirrored_without : (n : ℕ) → IsMirrored (without_link (map.remove m n) (map.get w n)) (without_link (map.remove w n) (map.get m n))
  mirrored_without n a b h =
      let p = removed_link (map.remove m n) (map.get w n) a b h in
      let q = removed m n a b p.0 in
      let back = there a b q.0 in
      left_link (map.remove w n) (map.get m n) b a (left_in w n b a back (λ e. p.1 (subst (λ x. map.get w x ≡ Some a) e back)))
      (λ e. q.1 (some_once a n (sym back ∙ there n b e)))

  pub mirrored_unlinked : (n : ℕ) → IsMirrored (map.remove m n) (without_link w (map.get m n))
  mirrored_unlinked n a b h =
      let q = removed m n a b h in
      let back = there a b q.0 in
      left_link w (map.get m n) b a back (λ e. q.1 (some_once a n (sym back ∙ there n b e)))

  pub mirrored_removed : (n : ℕ) → IsMirrored (without_link m (map.get w n)) (map.remove w n)
  mirrored_removed n a b h =
      let p = removed_link m (map.get w n) a b h in
      let back = there a b p.0 in
      left_in w n b a back (λ e. p.1 (subst (λ x. map.get w x ≡ Some a) e back))

  pub mirrored_linked : (k v : ℕ) → map.get w v ≡ None → IsMirrored (map.insert m k v) (map.insert w v k)
  mirrored_linked k v free a b h = by (put_or_old m k v a b h)
    where
      by : ((a ≡ k) × (v ≡ b)) ⊎ (map.get m a ≡ Some b) → map.get (map.insert w v k) b ≡ Some a
      by (inl (is, at)) = subst (λ x. map.get (map.insert w v k) x ≡ Some a) at (put_here w v k ∙ ap Some (sym is))
      by (inr old) = let back = there a b old in put_elsewhere w v k b a back (λ e. let none : map.get w b ≡ None = ap (map.get w) e ∙ free in absurd (cc))
