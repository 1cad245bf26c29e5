-- Labels that have waited and stand to each other as they did.
use Rattle.std.proofs.Common.{◌≡◌, ℕ, Bool, true, List, [], ◌∷◌, map, inl, inr, refl, sym, ◌∙◌, ap, subst, Ordering}
use Rattle.std.specs.declared.cmp.Ordering.TheVariants.{Less}
use Rattle.crew_resource.specs.Members.{Each, Member}
use Rattle.crew_resource.specs.Resource.{OrderLaws}
use Rattle.crew_resource.proofs.Members.{Member-map_in, Member-map_out}
use Rattle.crew_resource.proofs.Values.{below_order}
use Rattle.crew_forgetful.specs.Forgetful.{StandsFor}
use Rattle.crew_forgetful.proofs.Covered.{stands_refl}
use Rattle.crew_label.specs.Boarding.{waited_label}
use Rattle.crew_label.specs.Pools.{ArePoolOf, AreRising}
use Rattle.crew_label.specs.Walks.{ranks_at_most, shown, walk_of}
use Rattle.crew_label.specs.declared.label.Label.{Label}
use Rattle.crew_label.specs.declared.label.Link.{Link}
use Rattle.crew_label.proofs.MergedPools.{ranks_order}

module _ {V : Type 0} (below same : V → V → Bool) (trail : Link → List ℕ) where
  abbrev Stands : V × List ℕ → V × List ℕ → Type 0
  Stands p q = StandsFor below same ranks_at_most p.0 p.1 q.0 q.1

  -- a pool is one of its own labels
  pub pool-itself : (cmp : V → V → Ordering) → OrderLaws cmp below → ((a : V) → same a a ≡ true)
      → ((a b c : V) → below a b ≡ true → below b c ≡ true → same a c ≡ true → (same a b ≡ true) × (same b c ≡ true))
      → (candidates : List (V × List ℕ)) (pool : List (Label V)) → ArePoolOf below same trail candidates pool
      → ArePoolOf below same trail (map (shown trail) pool) pool
  pool-itself cmp order itself between candidates pool h = record {
    among = λ v w m. m;
    covers = λ x y m. (x, y, m, stands_refl V (List ℕ) below same ranks_at_most (below_order order) ranks_order itself between x y);
    alone = h.alone;
  }

  module _ (wait : V → V) (monotone : (a b : V) → below a b ≡ true → below (wait a) (wait b) ≡ true) (keeps : (a b : V) → same (wait a) (wait b) ≡ same a b) where
    abbrev pub waits : V × List ℕ → V × List ℕ
    waits e = (wait e.0, e.1)

    abbrev later : Label V → Label V
    later l = waited_label wait l

    stands-on : (p q : V × List ℕ) → Stands p q → Stands (waits p) (waits q)
    stands-on p q s = (monotone p.0 q.0 s.0, λ e. s.1 (sym (keeps p.0 q.0) ∙ e))

    label-of : (pool : List (Label V)) (e : V × List ℕ) → Member (map (shown trail) (map later pool)) e → (l : Label V) × Member pool l × (waits (shown trail l) ≡ e)
    label-of pool e m =
        let a = Member-map_out (shown trail) (map later pool) e m in
        let b = Member-map_out later pool a.0 a.1 in
        (b.0, b.1, ap (shown trail) b.2 ∙ a.2)

    entry-of : (pool : List (Label V)) (e : V × List ℕ) → Member (map (shown trail) pool) e → Member (map (shown trail) (map later pool)) (waits e)
    entry-of pool e m =
        let a = Member-map_out (shown trail) pool e m in
        subst (λ (z : V × List ℕ). Member (map (shown trail) (map later pool)) (waits z)) a.2
        (Member-map_in (shown trail) (map later pool) (later a.0) (Member-map_in later pool a.0 a.1))

    module _ (pool : List (Label V)) (reflects : (a b : Label V) → Member pool a → Member pool b → below (wait a.value) (wait b.value) ≡ true → below a.value b.value ≡ true)
        (candidates : List (V × List ℕ)) (h : ArePoolOf below same trail candidates pool) where
      among-waited : (e : V × List ℕ) → Member (map (shown trail) (map later pool)) e → Member (map waits candidates) e
      among-waited e m =
          let l = label-of pool e m in
          let s = shown trail l.0 in
          subst (λ (z : V × List ℕ). Member (map waits candidates) z) l.2
          (Member-map_in waits candidates s (h.among s.0 s.1 (Member-map_in (shown trail) pool l.0 l.1)))

      covers-waited : (e : V × List ℕ) → Member (map waits candidates) e → (v : V) × (w : List ℕ) × Member (map (shown trail) (map later pool)) (v, w) × StandsFor below same ranks_at_most v w e.0 e.1
      covers-waited e m =
          let c = Member-map_out waits candidates e m in
          let u = h.covers c.0.0 c.0.1 c.1 in
          (wait u.0, u.1, entry-of pool (u.0, u.1) u.2, subst (λ (z : V × List ℕ). Stands (wait u.0, u.1) z) c.2 (stands-on (u.0, u.1) c.0 u.3))

      alone-labels : (a b : Label V) → Member pool a → Member pool b → Stands (waits (shown trail a)) (waits (shown trail b)) → waits (shown trail a) ≡ waits (shown trail b)
      alone-labels a b p q s =
          let e = h.alone a.value (walk_of trail a.before) b.value (walk_of trail b.before) (Member-map_in (shown trail) pool a p) (Member-map_in (shown trail) pool b q)
          (reflects a b p q s.0, λ f. s.1 (keeps a.value b.value ∙ f)) in
          ap (λ v. (wait v, walk_of trail a.before)) e.0 ∙ ap (λ w. (wait b.value, w)) e.1

      alone-waited : (d e : V × List ℕ) → Member (map (shown trail) (map later pool)) d → Member (map (shown trail) (map later pool)) e → Stands d e → d ≡ e
      alone-waited d e m n s =
          let a = label-of pool d m in
          let b = label-of pool e n in
          let t = subst (λ (z : V × List ℕ). Stands z (waits (shown trail b.0))) (sym a.2) (subst (λ (z : V × List ℕ). Stands d z) (sym b.2) s) in
          sym a.2 ∙ (alone-labels a.0 b.0 a.1 b.1 t ∙ b.2)

      pub waited-on : ArePoolOf below same trail (map waits candidates) (map later pool)
      waited-on = record {
        among = λ v w m. among-waited (v, w) m;
        covers = λ x y m. covers-waited (x, y) m;
        alone = λ v w x y m n s. let e = alone-waited (v, w) (x, y) m n s in (ap (λ p. p.0) e, ap (λ p. p.1) e);
      }

module _ {V : Type 0} (cmp : V → V → Ordering) (wait : V → V) where
  each-on : (v : V) (ls : List (Label V)) → ((m : Label V) → Member ls m → cmp v m.value ≡ Less → cmp (wait v) (wait m.value) ≡ Less)
      → Each (λ m. cmp v m.value ≡ Less) ls → Each (λ m. cmp (wait v) m.value ≡ Less) (map (waited_label wait) ls)
  each-on v [] keeps h = tt
  each-on v (l ∷ ls) keeps h = (keeps l (inl refl) h.0, each-on v ls (λ m k. keeps m (inr k)) h.1)

  -- labels whose listing waiting keeps rise as they did
  pub rises-on : (ls : List (Label V)) → ((a b : Label V) → Member ls a → Member ls b → cmp a.value b.value ≡ Less → cmp (wait a.value) (wait b.value) ≡ Less)
      → AreRising cmp ls → AreRising cmp (map (waited_label wait) ls)
  rises-on [] keeps h = tt
  rises-on (l ∷ ls) keeps h = (each-on l.value ls (λ m k. keeps l m (inl refl) (inr k)) h.0, rises-on ls (λ a b p q. keeps a b (inr p) (inr q)) h.1)

-- what labels that have waited show
pub waited-shown : {V : Type 0} (trail : Link → List ℕ) (wait : V → V) (labels : List (Label V))
    → map (shown trail) (map (waited_label wait) labels) ≡ map (λ e. (wait e.0, e.1)) (map (shown trail) labels)
waited-shown trail wait [] = refl
waited-shown trail wait (l ∷ ls) = ap (λ es. (wait l.value, walk_of trail l.before) ∷ es) (waited-shown trail wait ls)
