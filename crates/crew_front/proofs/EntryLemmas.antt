-- Lists that rise with no element at most another.
use Rattle.std.proofs.Common.{◌≡◌, ◌≢◌, ◌≤◌, ◌<◌, ℕ, suc, ◌+◌, Bool, true, false, cond, not, List, [], ◌∷◌, ◌++◌, length, take, drop, map, get_or, Some, inl, inr, refl, sym, ◌∙◌, ap, subst, ⊎_elim, arith, Ordering}
use Rattle.std.specs.Prelude.{slice_get, unwrap_or, Result, Ok, Err, OnErr}
use Rattle.std.specs.List.{filter, insert, position, position_or_len, prefix_len, All, Any, AllByRecursion}
use Rattle.std.proofs.lemmas.List.Quantifiers.{position-Some}
use Rattle.std.proofs.lemmas.Option.{slice_get-get_or}
use Rattle.std.specs.Ordering.{is_eq, is_lt}
use Rattle.std.specs.Cmp.{IsTotalOrder}
use Rattle.std.specs.declared.cmp.Ordering.TheVariants.{Less, Equal, Greater}
use Rattle.std.proofs.lemmas.Bool.{cases_Bool, false≢true, not-true}
use Rattle.std.proofs.lemmas.List.Sums.{prefix_len-le-length}
use Rattle.std.proofs.lemmas.Bool.Decides.{nat_tests}
use Rattle.std.proofs.lemmas.Cmp.{tied_itself}
use Rattle.std.proofs.Math.Numerals.{one-add}
use Rattle.crew_resource.specs.Members.{Member}
use Rattle.crew_resource.proofs.Lists.{Member-All}
use Rattle.crew_resource.proofs.Members.{Member-filter_out, Member-get, Member-map_out}
use Rattle.crew_resource.specs.Resource.{OrderLaws}
use Rattle.crew_resource.specs.Entries.{Parted, PartedFromAll, IsApart, placed}

-- a fact that holds anyway
pub on_err : {T E : Type 0} (r : Result T E) (P : Type 0) → P → OnErr r P
on_err (Ok x) P p = tt
on_err (Err e) P p = p

-- where there was room for one more, there is room when fewer stand there
pub room : {n m k l : ℕ} → n + 1 ≤ k → m ≤ n → l ≡ k → m < l
room {n} {m} {k} {l} some fewer same = omega (arith, some, fewer, same)

-- an insert at the first place that passes
pub insert-first : {X : Type 0} (p : X → Bool) (x : X) (xs : List X) → insert xs (position_or_len p xs) x ≡ placed p x xs
insert-first p x [] = refl
insert-first p x (y ∷ ys) =
    elim (p y) as (λ b. take (cond (not b) (1 + position_or_len p ys) 0) (y ∷ ys) ++ x ∷ drop (cond (not b) (1 + position_or_len p ys) 0) (y ∷ ys) ≡ cond b (x ∷ y ∷ ys) (y ∷ placed p x ys))
    [ true ↦ refl | false ↦ rw one-add (ap (λ r. y ∷ r) (insert-first p x ys)) ]

pub unwrap_or-position : {X : Type 0} (p : X → Bool) (xs : List X) → unwrap_or (position p xs) (length xs) ≡ position_or_len p xs
unwrap_or-position p xs = let h = prefix_len-le-length (λ x. not (p x)) xs in grind (arith, nat_tests)

-- a fact of each member is one of all
pub All-from_members : {X : Type 0} (P : X → Type 0) (xs : List X) → ((x : X) → Member xs x → P x) → All P xs
All-from_members P xs h k d l = h (get_or xs k d) (Member-get xs k d l)

pub Member-Any : {X : Type 0} (P : X → Type 0) (xs : List X) (x : X) → Member xs x → P x → Any P xs
Member-Any P [] x m p = absurd m
Member-Any P (y ∷ ys) x (inl e) p = (0, x, omega arith, e, p)
Member-Any P (y ∷ ys) x (inr m) p = let k = Member-Any P ys x m p in (suc k.0, k.1, omega (arith, k.2), k.3, k.4)

equal_from_test : (o : Ordering) → is_eq o ≡ true → o ≡ Equal
equal_from_test Less e = absurd (false≢true e)
equal_from_test Equal e = refl
equal_from_test Greater e = absurd (false≢true e)

-- what the elements of a filter are parted from
pub PartedFromAll-filter : {X V : Type 0} (cmp : V → V → Ordering) (below : V → V → Bool) (f : X → V) (p : X → Bool) (a : V) (xs : List X) → PartedFromAll cmp below a (map f xs) → PartedFromAll cmp below a (map f (filter p xs))
PartedFromAll-filter cmp below f p a [] h = tt
PartedFromAll-filter cmp below f p a (x ∷ xs) h =
    let rest = PartedFromAll-filter cmp below f p a xs h.1 in
    elim (p x) as (λ b. PartedFromAll cmp below a (map f (cond b (x ∷ filter p xs) (filter p xs)))) [ true ↦ (h.0, rest) | false ↦ rest ]

pub IsApart-filter : {X V : Type 0} (cmp : V → V → Ordering) (below : V → V → Bool) (f : X → V) (p : X → Bool) (xs : List X) → IsApart cmp below (map f xs) → IsApart cmp below (map f (filter p xs))
IsApart-filter cmp below f p [] h = tt
IsApart-filter cmp below f p (x ∷ xs) h =
    let rest = IsApart-filter cmp below f p xs h.1 in
    let here = PartedFromAll-filter cmp below f p (f x) xs h.0 in
    elim (p x) as (λ b. IsApart cmp below (map f (cond b (x ∷ filter p xs) (filter p xs)))) [ true ↦ (here, rest) | false ↦ rest ]

module _ {X V : Type 0} (cmp : V → V → Ordering) (below : V → V → Bool) (f : X → V) (total : IsTotalOrder cmp) (laws : OrderLaws cmp below) (v : X) where
  PartedFromAll-before : (xs : List X) → ((y : X) → Member xs y → (below (f y) (f v) ≡ false) × (below (f v) (f y) ≡ false)) → (a : V) → cmp (f v) a ≡ Less → PartedFromAll cmp below a (map f xs) → PartedFromAll cmp below (f v) (map f xs)
  PartedFromAll-before [] out a l h = tt
  PartedFromAll-before (x ∷ xs) out a l h = (
    record { rises = total.trans (f v) a (f x) l h.0.rises; forth = (out x (inl refl)).1; back = (out x (inl refl)).0 },
    PartedFromAll-before xs (λ y m. out y (inr m)) a l h.1,
  )

  PartedFromAll-placed : (a : V) (xs : List X) → Parted cmp below a (f v) → PartedFromAll cmp below a (map f xs) → PartedFromAll cmp below a (map f (placed (λ y. is_lt (cmp (f v) (f y))) v xs))
  PartedFromAll-placed a [] here h = (here, tt)
  PartedFromAll-placed a (x ∷ xs) here h =
      let rest = PartedFromAll-placed a xs here h.1 in
      elim (is_lt (cmp (f v) (f x))) as (λ b. PartedFromAll cmp below a (map f (cond b (v ∷ x ∷ xs) (x ∷ placed (λ y. is_lt (cmp (f v) (f y))) v xs)))) [ true ↦ (here, h) | false ↦ (h.0, rest) ]

  less_from_test : (o : Ordering) → is_lt o ≡ true → o ≡ Less
  less_from_test Less e = refl
  less_from_test Equal e = absurd (false≢true e)
  less_from_test Greater e = absurd (false≢true e)

  more_from_test : (o : Ordering) → is_lt o ≡ false → (o ≡ Equal → ⊥) → o ≡ Greater
  more_from_test Less e n = absurd (false≢true (sym e))
  more_from_test Equal e n = absurd (n refl)
  more_from_test Greater e n = refl

  -- what the elements are parted from may be placed among them
  pub IsApart-placed : (xs : List X) → ((y : X) → Member xs y → (below (f y) (f v) ≡ false) × (below (f v) (f y) ≡ false)) → IsApart cmp below (map f xs) → IsApart cmp below (map f (placed (λ y. is_lt (cmp (f v) (f y))) v xs))
  IsApart-placed [] out h = (tt, tt)
  IsApart-placed (x ∷ xs) out h =
      let q = out x (inl refl) in
      ⊎_elim {C = IsApart cmp below (map f (placed (λ y. is_lt (cmp (f v) (f y))) v (x ∷ xs)))}
      (λ t. rw t (
        (
          record { rises = less_from_test (cmp (f v) (f x)) t; forth = q.1; back = q.0 },
          PartedFromAll-before xs (λ y m. out y (inr m)) (f x) (less_from_test (cmp (f v) (f x)) t) h.0,
        ),
        h,
      ))
      (λ n.
      let more = more_from_test (cmp (f v) (f x)) n (λ e. false≢true (sym q.1 ∙ (ap (below (f v)) (sym (laws.exact (f v) (f x) e)) ∙ laws.reflexive (f v)))) in
      let less : cmp (f x) (f v) ≡ Less = total.antisymm (f x) (f v) ∙ ap Rattle.std.specs.Ordering.ordering_reverse more in
      rw n (
        PartedFromAll-placed (f x) xs (record { rises = less; forth = q.0; back = q.1 }) h.0,
        IsApart-placed xs (λ y m. out y (inr m)) h.1,
      ))
      (cases_Bool (is_lt (cmp (f v) (f x))))

-- an offer's three cases, over plain lists
module _ {V W : Type 0} (cmp : V → V → Ordering) (below : V → V → Bool) (total : IsTotalOrder cmp) (laws : OrderLaws cmp below) (old : List (V × W)) (v : V) where
  pub joined_apart : (w : W) → All (λ e. below e.0 v ≡ false) old → IsApart cmp below (map (λ e. e.0) old) → IsApart cmp below (map (λ e. e.0) (placed (λ e. is_lt (cmp v e.0)) (v, w) (filter (λ e. not (below v e.0)) old)))
  joined_apart w none h =
      IsApart-placed {X = V × W} cmp below (λ e. e.0) total laws (v, w) (filter (λ e. not (below v e.0)) old)
      (λ y m.
      let k = Member-filter_out (λ e. not (below v e.0)) old y m in
      (Member-All (λ e. below e.0 v ≡ false) old y none k.0, not-true (below v y.0) k.1))
      (IsApart-filter cmp below (λ e. e.0) (λ e. not (below v e.0)) old h)

  -- a vector that is there, and at most this one, beats it where this one is not at most it
  pub beaten_by : (u : V) → Member (map (λ e. e.0) old) u → below u v ≡ true → below v u ≡ false → Any (λ e. (below e.0 v ≡ true) × (e.0 ≢ v)) old
  beaten_by u m t f =
      let k = Member-map_out (λ (e : V × W). e.0) old u m in
      Member-Any (λ e. (below e.0 v ≡ true) × (e.0 ≢ v)) old k.0 k.1 (
        subst (λ z. below z v ≡ true) (sym k.2) t,
        λ q. false≢true (sym f ∙ (ap (below v) (sym k.2 ∙ q) ∙ laws.reflexive v)),
      )

  -- the place of a vector that is there
  pub place_there : (xs : List (V × W)) → Member (map (λ e. e.0) xs) v → (was : W) × (slice_get xs (position_or_len (λ e. is_eq (cmp v e.0)) xs) ≡ Some (v, was))
  place_there [] m = absurd m
  place_there (x ∷ xs) m =
      let p = λ (e : V × W). is_eq (cmp v e.0) in
      ⊎_elim {C = (was : W) × (slice_get (x ∷ xs) (position_or_len p (x ∷ xs)) ≡ Some (v, was))}
      (λ t.
      let same : v ≡ x.0 = laws.exact v x.0 (equal_from_test (cmp v x.0) t) in (
        x.1,
        ap (λ b. slice_get (x ∷ xs) (cond (not b) (1 + position_or_len p xs) 0)) t ∙ ap (λ z. Some (z, x.1)) (sym same),
      ))
      (λ f.
      let rest = place_there xs (⊎_elim {C = Member (map (λ e. e.0) xs) v} (λ e. absurd (false≢true (sym f ∙ (ap (λ z. is_eq (cmp v z)) e ∙ ap is_eq (tied_itself total v))))) (λ k. k) m) in (
        rest.0,
        ap (λ b. slice_get (x ∷ xs) (cond (not b) (1 + position_or_len p xs) 0)) f ∙ rw one-add rest.1,
      ))
      (cases_Bool (p x))

  pub tied_with : (i : ℕ) (e : V × W) → position (λ e. below e.0 v) old ≡ Some i → e ≡ get_or old i e → below v e.0 ≡ true → slice_get old i ≡ Some (v, e.1)
  tied_with i e p is t =
      let k = position-Some (λ e. below e.0 v) old i e p in
      let same : e.0 ≡ v = laws.antisymmetric e.0 v (subst (λ (z : V × W). below z.0 v ≡ true) (sym is) k.1) t in
      slice_get-get_or old i e k.0 ∙ ap Some (sym is ∙ ap (λ z. (z, e.1)) same)
