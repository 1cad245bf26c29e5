-- The numbers that what two networks have alike keeps.
use Rattle.std.proofs.Common.{◌≡◌, ◌<◌, ◌+◌, ◌++◌, ◌∙◌, ℕ, zero, suc, List, [], ◌∷◌, Option, Some, None, Ordering, inl, inr, length, length-append, map, refl, ap, sym, subst, arith}
use Rattle.std.specs.Prelude.{IfSome, IsSome, slice_get, option_and_then}
use Rattle.std.specs.declared.cmp.Ordering.TheVariants.{Less}
use Rattle.std.specs.Cmp.{IsTotalOrder}
use Rattle.std.proofs.lemmas.Cmp.{tied_itself}
use Rattle.std.proofs.lemmas.Option.{same_Some}
use Rattle.slab.specs.Slab.{ContainsKey, SameValues, Slab}
use Rattle.crew_pairing.specs.Duties.{RiseByKey}
use Rattle.crew_pairing.specs.Keys.{key_cmp, key_total}
use Rattle.crew_pairing.specs.Legs.{Leg}
use Rattle.crew_pairing.specs.declared.duty.Duty.{Duty}
use Rattle.crew_net.specs.Nets.{IsRankOfKey}
use Rattle.crew_resource.specs.Members.{Each, Member}
use Rattle.crew_resource.proofs.Members.{Member-at}
use Rattle.crew_numbers.specs.Machinery.Kept.{AlikeIn, AreKeptOf, IsFoundAt, IsKeptNumber, StayIn}
use Rattle.crew_numbers.specs.Machinery.Taken.{AreDistinct, AreFresh, AreKept, AreNumbered, Keep}
use Rattle.crew_numbers.proofs.Gets.{none-below, one-value, pushed-cases, there, within}

abbrev Rises : {X : Type 0} → (X → X → Ordering) → List X → Type 0
Rises cmp [] = Unit {0}
Rises cmp (x ∷ xs) = Each (λ y. cmp x y ≡ Less) xs × Rises cmp xs

each-at : {X : Type 0} (P : X → Type 0) (xs : List X) (i : ℕ) (x : X) → Each P xs → slice_get xs i ≡ Some x → P x
each-at P [] i x e h = absurd (none-below i x h)
each-at P (y ∷ xs) zero x e h = subst P (same_Some y x h) e.0
each-at P (y ∷ xs) (suc i) x e h = each-at P xs i x e.1 h

apart : {X : Type 0} (cmp : X → X → Ordering) → IsTotalOrder cmp → (x y : X) → x ≡ y → cmp x y ≡ Less → ⊥
apart cmp total x y e l =
    let tied = tied_itself total x in
    let less = subst (λ z. cmp x z ≡ Less) (sym e) l in
    let z : ⊥ = (cc) in z

distinct : {X : Type 0} (cmp : X → X → Ordering) → IsTotalOrder cmp → (xs : List X) → Rises cmp xs → AreDistinct xs
distinct cmp total [] up i j x a b = absurd (none-below i x a)
distinct cmp total (y ∷ xs) up zero zero x a b = refl
distinct cmp total (y ∷ xs) up zero (suc j) x a b = absurd (apart cmp total y x (same_Some y x a) (each-at (λ z. cmp y z ≡ Less) xs j x up.0 b))
distinct cmp total (y ∷ xs) up (suc i) zero x a b = absurd (apart cmp total y x (same_Some y x b) (each-at (λ z. cmp y z ≡ Less) xs i x up.0 a))
distinct cmp total (y ∷ xs) up (suc i) (suc j) x a b = ap suc (distinct cmp total xs up.1 i j x a b)

abbrev pub keys_of : List Duty → List (List Leg)
keys_of ds = map (λ (d : Duty). d.key) ds

each-key : (k : List Leg) (ds : List Duty) → Each (λ e. key_cmp k e.key ≡ Less) ds → Each (λ l. key_cmp k l ≡ Less) (keys_of ds)
each-key k [] e = tt
each-key k (d ∷ ds) e = (e.0, each-key k ds e.1)

keys-rise : (ds : List Duty) → RiseByKey ds → Rises key_cmp (keys_of ds)
keys-rise [] up = tt
keys-rise (d ∷ ds) up = (each-key d.key ds up.0, keys-rise ds up.1)

pub keys-distinct : (ds : List Duty) → RiseByKey ds → AreDistinct (keys_of ds)
keys-distinct ds up = distinct key_cmp key_total (keys_of ds) (keys-rise ds up)

-- what was found had the place that stands there
pub kept-number : {K : Type 0} (olds : List K) (numbers : List ℕ) (k : K) (found o : Option ℕ) → length numbers ≡ length olds → IsFoundAt olds k found → o ≡ option_and_then (slice_get numbers) found → IsKeptNumber olds numbers k o
kept-number olds numbers k None o long f e = subst (IsKeptNumber olds numbers k) (sym e) f
kept-number olds numbers k (Some r) o long f e =
    let w = within olds r k f in
    let p = there numbers r (omega (arith, w, long)) in
    subst (IsKeptNumber olds numbers k) (sym (e ∙ p.1)) (r, f, p.1)

-- what was found stands at a place
pub found-within : {K : Type 0} (olds : List K) (numbers : List ℕ) (k : K) (found : Option ℕ) → length numbers ≡ length olds → IsFoundAt olds k found → IfSome found (λ p. p < length numbers)
found-within olds numbers k None long f = tt
found-within olds numbers k (Some r) long f = let w = within olds r k f in omega (arith, w, long)

-- what has been found so far
pub record AreKeptSo {K : Type 0} (olds news : List K) (numbers : List ℕ) (n : ℕ) (kept : List (Option ℕ)) : Type 0 where
  pub long : length kept ≡ n
  pub exact : (i : ℕ) (k : K) (o : Option ℕ) → slice_get news i ≡ Some k → slice_get kept i ≡ Some o → IsKeptNumber olds numbers k o

pub kept-none : {K : Type 0} (olds news : List K) (numbers : List ℕ) → AreKeptSo olds news numbers 0 []
kept-none olds news numbers = record { long = refl; exact = λ i k o a b. absurd (none-below i o b) }

pub kept-more : {K : Type 0} (olds news : List K) (numbers : List ℕ) (n : ℕ) (kept : List (Option ℕ)) (k : K) (found o : Option ℕ) → length numbers ≡ length olds → slice_get news n ≡ Some k → IsFoundAt olds k found → o ≡ option_and_then (slice_get numbers) found → AreKeptSo olds news numbers n kept → AreKeptSo olds news numbers (n + 1) (kept ++ o ∷ [])
kept-more olds news numbers n kept k found o long at f e is = record {
  long = longer kept o is.long;
  exact = λ i x p a b. elim (pushed-cases kept o n i p is.long b) [
    | inl w ↦ subst (IsKeptNumber olds numbers x) w.1 (subst (λ y. IsKeptNumber olds numbers y o) (one-value (slice_get news n) k x at (ap (slice_get news) (sym w.0) ∙ a)) (kept-number olds numbers k found o long f e))
    | inr w ↦ is.exact i x p a w.1
  ];
}
  where
    longer : (l : List (Option ℕ)) (o : Option ℕ) → length l ≡ n → length (l ++ o ∷ []) ≡ n + 1
    longer l o h = let a = length-append l (o ∷ []) in omega (arith, a, h)

pub kept-all : {K : Type 0} (olds news : List K) (numbers : List ℕ) (n : ℕ) (kept : List (Option ℕ)) → n ≡ length news → AreKeptSo olds news numbers n kept → AreKeptOf olds news numbers kept
kept-all olds news numbers n kept e is = record { long = is.long ∙ e; exact = is.exact }

pub stay-in : {K : Type 0} (olds news : List K) (before after : List ℕ) (kept : List (Option ℕ)) → AreDistinct olds → AreKeptOf olds news before kept → Keep kept after → StayIn olds news before after
stay-in {K} olds news before after kept apart is keep r i n k a b c =
    let w = within news i k b in
    let long = is.long in
    let o = there kept i (omega (arith, w, long)) in
    by o.0 o.1 (is.exact i k o.0 b o.1)
  where
    by : (o : Option ℕ) → slice_get kept i ≡ Some o → IsKeptNumber olds before k o → slice_get after i ≡ Some n
    by None e f = absurd (f r a)
    by (Some m) e f =
        let same = apart f.0 r k f.1 a in
        let number = one-value (slice_get before r) m n (ap (slice_get before) (sym same) ∙ f.2) c in
        keep i n (e ∙ ap (λ (n : ℕ). Some (Some n)) number)

module _ {K : Type 0} (olds news : List K) (numbers ranks : List ℕ) (keys copy : Slab Unit) (kept : List (Option ℕ)) (count : ℕ) (all : AreNumbered numbers ranks keys count) (same : SameValues keys copy) (is : AreKeptOf olds news numbers kept) where
  -- the number that an item keeps was its own
  own : (i n : ℕ) → slice_get kept i ≡ Some (Some n) → (r : ℕ) × (slice_get numbers r ≡ Some n) × ((k : K) × ((slice_get news i ≡ Some k) × (slice_get olds r ≡ Some k)))
  own i n h =
      let w = within kept i (Some n) h in
      let long = is.long in
      let k = there news i (omega (arith, w, long)) in
      let f = is.exact i k.0 (Some n) k.1 h in
      (f.0, f.2, (k.0, (k.1, f.1)))

  -- a number is of one rank
  one-rank : (r s n : ℕ) → slice_get numbers r ≡ Some n → slice_get numbers s ≡ Some n → r ≡ s
  one-rank r s n a b = one-value (slice_get ranks n) r s (all.are.told r n a) (all.are.told s n b)

  copy-held : (r n : ℕ) → slice_get numbers r ≡ Some n → ContainsKey copy n
  copy-held r n e = subst (λ (o : Option Unit). IsSome o) (sym (same n)) (all.taken.held r n e)

  -- the numbers that are kept are keys, and different
  pub are-kept : AreDistinct news → AreKept kept copy
  are-kept apart = record {
    held = λ i n h. let f = own i n h in copy-held f.0 n f.1;
    apart = λ i j n a b.
        let f = own i n a in
        let g = own j n b in
        let key = one-value (slice_get olds g.0) f.2.0 g.2.0 (ap (slice_get olds) (sym (one-rank f.0 g.0 n f.1 g.1)) ∙ f.2.1.1) g.2.1.1 in
        apart i j g.2.0 (f.2.1.0 ∙ ap (λ z. Some z) key) g.2.1.0;
  }

  -- a key tells a rank
  pub copy-below : (n : ℕ) → ContainsKey copy n → n < length ranks
  copy-below n h =
      let f = all.taken.only n (subst (λ (o : Option Unit). IsSome o) (same n) h) in
      within ranks n f.0 (all.are.told f.0 n f.1)

  -- what has one number in both is the same: it kept it, since others took none that was a key
  pub alike-in : (after : List ℕ) → AreFresh kept copy after → AlikeIn olds news numbers after
  alike-in after fresh r i n k l a b c d = elim (fresh i n d) [
    | inl h ↦ (
        let f = own i n h in
        let here = one-value (slice_get news i) f.2.0 l f.2.1.0 b in
        one-value (slice_get olds r) k l a (ap (slice_get olds) (one-rank r f.0 n c f.1) ∙ (f.2.1.1 ∙ ap (λ z. Some z) here))
        )
    | inr out ↦ absurd (out (copy-held r n c))
  ]

pub get-mapped : {X Y : Type 0} (f : X → Y) (xs : List X) (i : ℕ) (x : X) → slice_get xs i ≡ Some x → slice_get (map f xs) i ≡ Some (f x)
get-mapped f [] i x e = absurd (none-below i x e)
get-mapped f (y ∷ xs) zero x e = ap (λ z. Some (f z)) (same_Some y x e)
get-mapped f (y ∷ xs) (suc i) x e = get-mapped f xs i x e

pub mapped-at : {X Y : Type 0} (f : X → Y) (xs : List X) (i : ℕ) (y : Y) → slice_get (map f xs) i ≡ Some y → (x : X) × (slice_get xs i ≡ Some x) × (f x ≡ y)
mapped-at f [] i y e = absurd (none-below i y e)
mapped-at f (x ∷ xs) zero y e = (x, refl, same_Some (f x) y e)
mapped-at f (x ∷ xs) (suc i) y e = mapped-at f xs i y e

pub member-at : {X : Type 0} (xs : List X) (x : X) → Member xs x → (i : ℕ) × (slice_get xs i ≡ Some x)
member-at [] x m = absurd m
member-at (y ∷ xs) x (inl e) = (0, ap (λ z. Some z) e)
member-at (y ∷ xs) x (inr m) = let i = member-at xs x m in (suc i.0, i.1)

-- the rank of a key is where it stands among the keys
pub rank-found : (ds : List Duty) (key : List Leg) (r : Option ℕ) → IsRankOfKey ds key r → IsFoundAt (keys_of ds) key r
rank-found ds key None f = λ i e. let d = mapped-at (λ (d : Duty). d.key) ds i key e in f d.0 (Member-at ds i d.0 d.1) d.2
rank-found ds key (Some r) f = get-mapped (λ (d : Duty). d.key) ds r f.0 f.1 ∙ ap (λ z. Some z) f.2

-- the same of equal lists
pub kept-along : {K : Type 0} {olds news : List K} {numbers numbers' : List ℕ} {kept kept' : List (Option ℕ)} → numbers ≡ numbers' → kept ≡ kept' → AreKeptOf olds news numbers kept → AreKeptOf olds news numbers' kept'
kept-along {K} {olds} {news} {numbers} {numbers'} {kept} {kept'} a b is =
    subst (λ (l : List ℕ). AreKeptOf olds news l kept') a (subst (AreKeptOf olds news numbers) b is)
