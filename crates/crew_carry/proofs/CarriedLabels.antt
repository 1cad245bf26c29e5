-- What labels show that are carried one by one.
use Rattle.std.proofs.Common.{◌≡◌, ◌<◌, ◌++◌, ◌∷◌, [], inl, inr, ℕ, ℤ, pos, zero, suc, Bool, true, false, List, Option, Some, length, map, cond, refl, ap, arith, sym, ◌∙◌, subst}
use Rattle.std.specs.Prelude.{nat_eq, slice_get}
use Rattle.std.proofs.lemmas.List.{length-map, map-append}
use Rattle.crew_pairing.specs.declared.duty.Duty.{Duty}
use Rattle.crew_pool.specs.Arena.{walk_at}
use Rattle.crew_pool.specs.Counted.{AreCounted, AreWhole}
use Rattle.crew_pool.specs.LabelWalks.{duty_of, shown, walk_of_label}
use Rattle.crew_pool.specs.Ranks.{AreRanked, by_key, key_at}
use Rattle.crew_pool.specs.declared.label_walk.LabelWalk.{LabelWalk}
use Rattle.crew_resource.specs.Members.{Each, Member}
use Rattle.crew_step.specs.Walks.{HasGrown}
use Rattle.crew_carry.specs.Carried.{AreTwinWalks, IsCarried, twin_of}
use Rattle.crew_carry.specs.Labels.{AreCarriedLabels, IsCarriedLabel}
use Rattle.crew_carry.specs.Twins.{AreRankTwins}

first-of : {X : Type 0} (x y : X) (xs ys : List X) → x ∷ xs ≡ y ∷ ys → x ≡ y
first-of x y xs ys e = cc

rest-of : {X : Type 0} (x y : X) (xs ys : List X) → x ∷ xs ≡ y ∷ ys → xs ≡ ys
rest-of x y xs ys e = cc

-- a rank that has a twin
twin-there : (ranks : List (Option ℕ)) (r k : ℕ) → twin_of ranks r ≡ Some k → slice_get ranks r ≡ Some (Some k)
twin-there [] r k e = absurd (let q : ⊥ = (cc) in q)
twin-there (o ∷ ranks) zero k e = ap (λ z. Some z) e
twin-there (o ∷ ranks) (suc r) k e = twin-there ranks r k e

-- walks of twins
module _ (ranks : List (Option ℕ)) (olds news : List Duty) (twins : AreRankTwins olds news ranks) where
  pub twins-keys : (w v : List ℕ) → AreTwinWalks ranks w v → map (key_at olds) w ≡ map (key_at news) v
  twins-keys [] [] h = refl
  twins-keys [] (k ∷ v) h = absurd (let q : ⊥ = (cc) in q)
  twins-keys (r ∷ w) [] h = absurd (let q : ⊥ = (cc) in q)
  twins-keys (r ∷ w) (k ∷ v) h =
      let some : ℕ → Option ℕ = λ n. Some n in
      let one = twins.same r k (twin-there ranks r k (first-of (twin_of ranks r) (Some k) (map (twin_of ranks) w) (map some v) h)) in
      let others = twins-keys w v (rest-of (twin_of ranks r) (Some k) (map (twin_of ranks) w) (map some v) h) in
      (λ i. one i ∷ others i)

  pub twins-within : (w v : List ℕ) → AreTwinWalks ranks w v → Each (λ k. k < length news) v
  twins-within w [] h = tt
  twins-within [] (k ∷ v) h = absurd (let q : ⊥ = (cc) in q)
  twins-within (r ∷ w) (k ∷ v) h =
      let some : ℕ → Option ℕ = λ n. Some n in (
        twins.within r k (twin-there ranks r k (first-of (twin_of ranks r) (Some k) (map (twin_of ranks) w) (map some v) h)),
        twins-within w v (rest-of (twin_of ranks r) (Some k) (map (twin_of ranks) w) (map some v) h),
      )

pub twins-long : (ranks : List (Option ℕ)) (w v : List ℕ) → AreTwinWalks ranks w v → length v ≡ length w
twins-long ranks w v h =
    let some : ℕ → Option ℕ = λ n. Some n in
    sym (length-map v some) ∙ (sym (ap length h) ∙ length-map w (twin_of ranks))

-- one walk after another
twins-append : (ranks : List (Option ℕ)) (w v x y : List ℕ) → AreTwinWalks ranks w v → AreTwinWalks ranks x y → AreTwinWalks ranks (w ++ x) (v ++ y)
twins-append ranks w v x y h k =
    let some : ℕ → Option ℕ = λ n. Some n in
    map-append (twin_of ranks) w x ∙ (ap (λ (os : List (Option ℕ)). os ++ map (twin_of ranks) x) h ∙ (ap (λ (os : List (Option ℕ)). map some v ++ os) k ∙ sym (map-append some v y)))

no-duty : (d : ℕ) → nat_eq d 4294967295 ≡ true → duty_of d ≡ []
no-duty d e = ap (λ b. cond b [] (d ∷ [])) e

-- where there is no duty on either side
pub none-twins : (ranks : List (Option ℕ)) (a b : ℕ) → nat_eq a 4294967295 ≡ true → nat_eq b 4294967295 ≡ true → AreTwinWalks ranks (duty_of a) (duty_of b)
none-twins ranks a b p q =
    let some : ℕ → Option ℕ = λ n. Some n in
    ap (map (twin_of ranks)) (no-duty a p) ∙ sym (ap (map some) (no-duty b q))

stand-same : (ranks : List (Option ℕ)) (x y : Bool) (a b : ℕ) → AreTwinWalks ranks (cond x [] (a ∷ [])) (cond y [] (b ∷ [])) → y ≡ x
stand-same ranks true true a b h = refl
stand-same ranks true false a b h = absurd (let q : ⊥ = (cc) in q)
stand-same ranks false true a b h = absurd (let q : ⊥ = (cc) in q)
stand-same ranks false false a b h = refl

-- a duty has a twin that is one
pub stands-same : (ranks : List (Option ℕ)) (a b : ℕ) → AreTwinWalks ranks (duty_of a) (duty_of b) → nat_eq b 4294967295 ≡ nat_eq a 4294967295
stands-same ranks a b h = stand-same ranks (nat_eq a 4294967295) (nat_eq b 4294967295) a b h

module _ {V : Type 0} (ranks : List (Option ℕ)) (from : List (List ℕ)) where
  -- the walk with its duty
  label-twins : (to : List (List ℕ)) (o n : V × LabelWalk) → IsCarriedLabel ranks from to o n → AreTwinWalks ranks (walk_of_label from o.1) (walk_of_label to n.1)
  label-twins to o n c = twins-append ranks (walk_at from o.1.walk) (walk_at to n.1.walk) (duty_of o.1.duty) (duty_of n.1.duty) c.walk c.duty

  label-grown : (to now : List (List ℕ)) → HasGrown to now → (o n : V × LabelWalk) → IsCarriedLabel ranks from to o n → IsCarriedLabel ranks from now o n
  label-grown to now h o n c =
      let a = c.there in
      let b = h.longer in
      record {
        value = c.value;
        there = omega (arith, a, b);
        duty = c.duty;
        walk = subst (λ (v : List ℕ). AreTwinWalks ranks (walk_at from o.1.walk) v) (sym (h.same n.1.walk a)) c.walk;
      }

  pub labels-more : (to now : List (List ℕ)) → HasGrown to now → (os ns : List (V × LabelWalk)) (o n : V × LabelWalk) → AreCarriedLabels ranks from to os ns → IsCarriedLabel ranks from now o n
      → AreCarriedLabels ranks from now (os ++ o ∷ []) (ns ++ n ∷ [])
  labels-more to now h [] [] o n c d = (d, tt)
  labels-more to now h [] (m ∷ ns) o n c d = absurd c
  labels-more to now h (p ∷ os) [] o n c d = absurd c
  labels-more to now h (p ∷ os) (m ∷ ns) o n c d = (label-grown to now h p m c.0, labels-more to now h os ns o n c.1 d)

  module _ (to : List (List ℕ)) where
    pub labels-values : (os ns : List (V × LabelWalk)) → AreCarriedLabels ranks from to os ns → map (λ (l : V × LabelWalk). l.0) ns ≡ map (λ (l : V × LabelWalk). l.0) os
    labels-values [] [] c = refl
    labels-values [] (n ∷ ns) c = absurd c
    labels-values (o ∷ os) [] c = absurd c
    labels-values (o ∷ os) (n ∷ ns) c =
        let one = c.0.value in
        let others = labels-values os ns c.1 in
        (λ i. one i ∷ others i)

    -- each has its old label
    pub labels-old : (os ns : List (V × LabelWalk)) → AreCarriedLabels ranks from to os ns → (n : V × LabelWalk) → Member ns n → (o : V × LabelWalk) × Member os o × IsCarriedLabel ranks from to o n
    labels-old [] [] c n m = absurd m
    labels-old [] (x ∷ ns) c n m = absurd c
    labels-old (o ∷ os) [] c n m = absurd c
    labels-old (o ∷ os) (x ∷ ns) c n (inl e) = (o, inl refl, subst (λ (z : V × LabelWalk). IsCarriedLabel ranks from to o z) e c.0)
    labels-old (o ∷ os) (x ∷ ns) c n (inr m) = let r = labels-old os ns c.1 n m in (r.0, inr r.1, r.2)

    pub labels-counted : (os ns : List (V × LabelWalk)) → AreCarriedLabels ranks from to os ns → (count : V → ℤ) → AreCounted count from true os → AreCounted count to true ns
    labels-counted os ns c count counted n m =
        let r = labels-old os ns c n m in
        let is = r.2 in
        let was = counted r.0 r.1 in
        record {
          there = is.there;
          stands = stands-same ranks r.0.1.duty n.1.duty is.duty ∙ was.stands;
          counts = ap count is.value ∙ (was.counts ∙ ap (λ (k : ℕ). pos k) (sym (twins-long ranks (walk_of_label from r.0.1) (walk_of_label to n.1) (label-twins to r.0 n is))));
        }

    module _ (olds news : List Duty) (twins : AreRankTwins olds news ranks) where
      pub labels-keys : (os ns : List (V × LabelWalk)) → AreCarriedLabels ranks from to os ns → by_key news (map (shown to) ns) ≡ by_key olds (map (shown from) os)
      labels-keys [] [] c = refl
      labels-keys [] (n ∷ ns) c = absurd c
      labels-keys (o ∷ os) [] c = absurd c
      labels-keys (o ∷ os) (n ∷ ns) c =
          let value = c.0.value in
          let keys : map (key_at news) (walk_of_label to n.1) ≡ map (key_at olds) (walk_of_label from o.1) =
          sym (twins-keys ranks olds news twins (walk_of_label from o.1) (walk_of_label to n.1) (label-twins to o n c.0)) in
          let others = labels-keys os ns c.1 in
          (λ i. (value i, keys i) ∷ others i)

      pub labels-ranked : (os ns : List (V × LabelWalk)) → AreCarriedLabels ranks from to os ns → AreRanked (length news) (map (shown to) ns)
      labels-ranked [] [] c e m = absurd m
      labels-ranked [] (n ∷ ns) c e m = absurd c
      labels-ranked (o ∷ os) [] c e m = absurd c
      labels-ranked (o ∷ os) (n ∷ ns) c e (inl s) =
          subst (λ (z : V × List ℕ). Each (λ k. k < length news) z.1) s
          (twins-within ranks olds news twins (walk_of_label from o.1) (walk_of_label to n.1) (label-twins to o n c.0))
      labels-ranked (o ∷ os) (n ∷ ns) c e (inr m) = labels-ranked os ns c.1 e m

-- labels whose walks were carried to their own places are carried as they are
pub labels-in-place : {V : Type 0} (ranks : List (Option ℕ)) (from to : List (List ℕ)) (places : List (Option ℕ)) → IsCarried ranks from to places → (ls : List (V × LabelWalk))
    → ((l : V × LabelWalk) → Member ls l → slice_get places l.1.walk ≡ Some (Some l.1.walk)) → AreWhole ls → AreCarriedLabels ranks from to ls ls
labels-in-place ranks from to places c [] at w = tt
labels-in-place ranks from to places c (l ∷ ls) at w =
    let e = at l (inl refl) in (
      record { value = refl; there = c.there l.1.walk l.1.walk e; duty = none-twins ranks l.1.duty l.1.duty (w l (inl refl)) (w l (inl refl)); walk = c.shows l.1.walk l.1.walk e },
      labels-in-place ranks from to places c ls (λ m k. at m (inr k)) (λ m k. w m (inr k)),
    )
