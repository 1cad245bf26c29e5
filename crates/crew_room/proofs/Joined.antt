-- Labels that join others: what they leave together.
use Rattle.std.proofs.Common.{◌≡◌, ℕ, ◌+◌, ◌<◌, Bool, true, false, cond, not, List, [], ◌∷◌, ◌++◌, ◌⊎◌, get_or, length, take, inl, inr, refl, sym, ◌∙◌, ap, ⊎_elim, append-nil, Ordering}
use Rattle.std.specs.Cmp.{IsTotalOrder}
use Rattle.std.specs.List.{filter, list_any}
use Rattle.std.specs.List.Sorted.{IsPermutation}
use Rattle.std.specs.Ordering.{ordering_reverse}
use Rattle.std.specs.declared.cmp.Ordering.TheVariants.{Less, Equal, Greater}
use Rattle.std.proofs.lemmas.List.{take_more}
use Rattle.std.proofs.lemmas.List.Elements.{filter-append}
use Rattle.std.proofs.lemmas.List.Sorted.{list_any-IsPermutation}
use Rattle.crew_resource.specs.Members.{Each, Member}
use Rattle.crew_resource.proofs.Members.{Member-append, Member-append_left, Member-append_right, Member-filter_out}
use Rattle.crew_resource.proofs.Order.{IsOrder}
use Rattle.crew_label.specs.Pools.{ArePoolOf, AreRising, stands_label}
use Rattle.crew_label.specs.declared.label.Label.{Label}
use Rattle.crew_label.specs.declared.label.Link.{Link}
use Rattle.crew_label.proofs.MergedPools.{kept_apart, merged_pool}
use Rattle.crew_room.specs.Rooms.{HaveOwnValues}
use Rattle.crew_room.specs.Machinery.Joins.{free_of, joined}

-- what joins was on one side or the other
pub from_joined : {X : Type 0} (stands : X → X → Bool) (one two : List X) (x : X) → Member (joined stands one two) x → Member one x ⊎ Member two x
from_joined stands one two x m = ⊎_elim
    (λ k. inl (Member-filter_out (λ z. not (list_any (λ l. stands l z) (free_of stands one two))) one x k).0)
    (λ k. inr (Member-filter_out (λ z. not (list_any (λ l. stands l z) one)) two x k).0)
    (Member-append (free_of stands (free_of stands one two) one) (free_of stands one two) x m)

-- a test that is the same leaves the same
filter-alike : {X : Type 0} (p q : X → Bool) (xs : List X) → ((x : X) → p x ≡ q x) → filter p xs ≡ filter q xs
filter-alike p q [] h = refl
filter-alike p q (x ∷ xs) h = ap (λ b. cond b (x ∷ filter p xs) (filter p xs)) (h x) ∙ ap (λ ys. cond (q x) (x ∷ ys) ys) (filter-alike p q xs h)

-- in another order the others leave the same free
pub free_permuted : {X : Type 0} (stands : X → X → Bool) (others moved list : List X) → IsPermutation others moved → free_of stands others list ≡ free_of stands moved list
free_permuted {X} stands others moved list p =
    filter-alike (λ (z : X). not (list_any (λ (l : X). stands l z) others)) (λ (z : X). not (list_any (λ (l : X). stands l z) moved)) list
    (λ z. ap not (list_any-IsPermutation (λ (l : X). stands l z) others moved p))

-- the free ones of some more elements
pub free_both : {X : Type 0} (stands : X → X → Bool) (others list more all old new : List X) → list ++ more ≡ all
    → old ≡ free_of stands others list → new ≡ old ++ free_of stands others more → new ≡ free_of stands others all
free_both {X} stands others list more all old new whole was e =
    let p = λ (z : X). not (list_any (λ (l : X). stands l z) others) in
    e ∙ (ap (λ (zs : List X). zs ++ free_of stands others more) was ∙ (sym (filter-append p list more) ∙ ap (filter p) whole))

-- the free ones of one element more
pub free_more : {X : Type 0} (stands : X → X → Bool) (others list : List X) (i : ℕ) (x : X) (old new : List X) → i < length list → x ≡ get_or list i x
    → old ≡ free_of stands others (take i list) → new ≡ old ++ free_of stands others (x ∷ []) → new ≡ free_of stands others (take (i + 1) list)
free_more stands others list i x old new h is was e =
    free_both stands others (take i list) (x ∷ []) (take (i + 1) list) old new (ap (λ z. take i list ++ z ∷ []) is ∙ sym (take_more list i x h)) was e

-- one for which another may stand adds nothing
pub free_none : {X : Type 0} (stands : X → X → Bool) (others old : List X) (x : X) → list_any (λ l. stands l x) others ≡ true → old ≡ old ++ free_of stands others (x ∷ [])
free_none stands others old x t = sym (append-nil old) ∙ ap (λ b. old ++ cond (not b) (x ∷ []) []) (sym t)

-- one for which none may stand adds itself
pub free_one : {X : Type 0} (stands : X → X → Bool) (others old : List X) (x : X) → list_any (λ l. stands l x) others ≡ false → old ++ x ∷ [] ≡ old ++ free_of stands others (x ∷ [])
free_one stands others old x f = ap (λ b. old ++ cond (not b) (x ∷ []) []) (sym f)

module _ {V : Type 0} where
  each-filter : (P : Label V → Type 0) (p : Label V → Bool) (ls : List (Label V)) → Each P ls → Each P (filter p ls)
  each-filter P p [] h = tt
  each-filter P p (l ∷ ls) h =
      let rest = each-filter P p ls h.1 in
      elim (p l) as (λ b. Each P (cond b (l ∷ filter p ls) (filter p ls))) [ true ↦ (h.0, rest) | false ↦ rest ]

  apart-filter : (p : Label V → Bool) (ls : List (Label V)) → HaveOwnValues ls → HaveOwnValues (filter p ls)
  apart-filter p [] h = tt
  apart-filter p (l ∷ ls) h =
      let first = each-filter (λ m. l.value ≡ m.value → ⊥) p ls h.0 in
      let rest = apart-filter p ls h.1 in
      elim (p l) as (λ b. HaveOwnValues (cond b (l ∷ filter p ls) (filter p ls))) [ true ↦ (first, rest) | false ↦ rest ]

  each-both : (P : Label V → Type 0) (ls ms : List (Label V)) → Each P ls → ((m : Label V) → Member ms m → P m) → Each P (ls ++ ms)
  each-both P [] [] h f = tt
  each-both P [] (m ∷ ms) h f = (f m (inl refl), each-both P [] ms tt (λ n k. f n (inr k)))
  each-both P (l ∷ ls) ms h f = (h.0, each-both P ls ms h.1 f)

  pub apart-both : (ls ms : List (Label V)) → HaveOwnValues ls → HaveOwnValues ms → ((l m : Label V) → Member ls l → Member ms m → l.value ≡ m.value → ⊥) → HaveOwnValues (ls ++ ms)
  apart-both [] ms p q f = q
  apart-both (l ∷ ls) ms p q f = (each-both (λ m. l.value ≡ m.value → ⊥) ls ms p.0 (λ m k. f l m (inl refl) k), apart-both ls ms p.1 q (λ a b m n. f a b (inr m) n))

less_itself : (o : Ordering) → o ≡ ordering_reverse o → o ≡ Less → ⊥
less_itself Less e h = let q : ⊥ = (cc) in q
less_itself Equal e h = let q : ⊥ = (cc) in q
less_itself Greater e h = let q : ⊥ = (cc) in q

module _ {V : Type 0} (cmp : V → V → Ordering) (total : IsTotalOrder cmp) where
  each-less : (v : V) (ls : List (Label V)) → Each (λ m. cmp v m.value ≡ Less) ls → Each (λ m. v ≡ m.value → ⊥) ls
  each-less v [] h = tt
  each-less v (l ∷ ls) h =
      (λ e. less_itself (cmp v v) (total.antisymm v v) (ap (cmp v) e ∙ h.0), each-less v ls h.1)

  -- values that rise stand once each
  pub rising-apart : (ls : List (Label V)) → AreRising cmp ls → HaveOwnValues ls
  rising-apart [] h = tt
  rising-apart (l ∷ ls) h = (each-less l.value ls h.0, rising-apart ls h.1)

module _ {V : Type 0} (le same : V → V → Bool) (trail : Link → List ℕ) (order : IsOrder le) (same_itself : (a : V) → same a a ≡ true)
    (same_between : (a b c : V) → le a b ≡ true → le b c ≡ true → same a c ≡ true → (same a b ≡ true) × (same b c ≡ true)) (one two : List (Label V)) where
  abbrev stands : Label V → Label V → Bool
  stands a b = stands_label le same trail a b

  abbrev free : List (Label V)
  free = free_of stands one two

  abbrev kept : List (Label V)
  kept = free_of stands free one

  pub joined_apart : HaveOwnValues one → HaveOwnValues two → HaveOwnValues (joined stands one two)
  joined_apart p q = apart-both kept free (apart-filter (λ m. not (list_any (λ l. stands l m) free)) one p) (apart-filter (λ m. not (list_any (λ l. stands l m) one)) two q)
      (λ a b m n e. kept_apart le same trail order same_itself same_between one two a b m n e)

  pub joined_pool : (C D : List (V × List ℕ)) → ArePoolOf le same trail C one → ArePoolOf le same trail D two → ArePoolOf le same trail (C ++ D) (joined stands one two)
  joined_pool C D i j = merged_pool le same trail order same_itself same_between one two free kept (kept ++ free) refl refl
      (λ l m. Member-append kept free l m) (λ l m. Member-append_left kept free l m) (λ l m. Member-append_right kept free l m) C D i j
