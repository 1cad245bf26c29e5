-- The pool of labels is one wherever their walks compare alike.
use Rattle.std.proofs.Common.{◌≡◌, ◌∙◌, ℕ, Bool, ◌&&◌, ◌||◌, not, List, [], ◌∷◌, inl, inr, refl, ap, Ordering}
use Rattle.std.specs.List.{filter, list_any}
use Rattle.crew_label.specs.Pools.{stands_label}
use Rattle.crew_label.specs.Walks.{ranks_at_most, walk_of}
use Rattle.crew_label.specs.declared.label.Label.{Label}
use Rattle.crew_label.specs.declared.label.Link.{Link}
use Rattle.crew_resource.specs.Members.{Member}
use Rattle.crew_labelling.specs.Labellings.{offered, pool_of}
use Rattle.crew_labelling.proofs.PoolOf.{pool_from}

any-alike : {X : Type 0} (f g : X → Bool) (xs : List X) → ((x : X) → Member xs x → f x ≡ g x) → list_any f xs ≡ list_any g xs
any-alike f g [] h = refl
any-alike f g (x ∷ xs) h = rw (h x (inl refl), any-alike f g xs (λ y m. h y (inr m))) refl

filter-alike : {X : Type 0} (f g : X → Bool) (xs : List X) → ((x : X) → Member xs x → f x ≡ g x) → filter f xs ≡ filter g xs
filter-alike f g [] h = refl
filter-alike f g (x ∷ xs) h = rw (h x (inl refl), filter-alike f g xs (λ y m. h y (inr m))) refl

module _ {V : Type 0} (below same : V → V → Bool) (cmp : V → V → Ordering) (trail now : Link → List ℕ) where
  -- the walks of two labels compare alike
  abbrev pub CompareAlike : Label V → Label V → Type 0
  CompareAlike a b = ranks_at_most (walk_of trail a.before) (walk_of trail b.before) ≡ ranks_at_most (walk_of now a.before) (walk_of now b.before)

  stands-alike : (a b : Label V) → CompareAlike a b → stands_label below same trail a b ≡ stands_label below same now a b
  stands-alike a b h = ap (λ (c : Bool). below a.value b.value && (not (same a.value b.value) || c)) h

  offered-alike : (l : Label V) (pool : List (Label V)) → ((m : Label V) → Member pool m → CompareAlike l m) → ((m : Label V) → Member pool m → CompareAlike m l)
      → offered below same cmp trail l pool ≡ offered below same cmp now l pool
  offered-alike l pool out into =
      let any = any-alike (λ m. stands_label below same trail m l) (λ m. stands_label below same now m l) pool (λ m k. stands-alike m l (into m k)) in
      let left = filter-alike (λ m. not (stands_label below same trail l m)) (λ m. not (stands_label below same now l m)) pool (λ m k. ap not (stands-alike l m (out m k))) in
      rw (any, left) refl

  -- so their pool is the same
  pub pool-beside : (ls : List (Label V)) → ((l m : Label V) → Member ls l → Member ls m → CompareAlike l m) → pool_of below same cmp trail ls ≡ pool_of below same cmp now ls
  pool-beside [] h = refl
  pool-beside (l ∷ ls) h =
      let pool = pool_of below same cmp trail ls in
      let rest = pool-beside ls (λ a b j k. h a b (inr j) (inr k)) in
      offered-alike l pool (λ m k. h l m (inl refl) (inr (pool_from below same cmp trail ls m k))) (λ m k. h m l (inr (pool_from below same cmp trail ls m k)) (inl refl))
      ∙ ap (offered below same cmp now l) rest
