-- Partials that are taken one after another.
use Rattle.std.proofs.Common.{◌≡◌, ◌<◌, ◌+◌, ℕ, List, [], ◌++◌, Some, length, refl, sym, ap, subst, arith, take, append_assoc, append-nil, length-append}
use Rattle.std.specs.Prelude.{slice_get}
use Rattle.std.specs.List.{flat_map}
use Rattle.std.proofs.lemmas.Grind.{flat_map-append}
use Rattle.crew_pairing.proofs.Tree.{flat_map-room}
use Rattle.crew_audit.specs.Machinery.Taking.{Took}
use Rattle.crew_audit.specs.declared.partial.Partial.{Partial}
use Rattle.crew_audit.proofs.Flat.{more-at}

pub took-none : {S : Type 0} (count : S → ℕ) (holds : S → List Partial → Type 0) (a : S) → Took count holds a a []
took-none count holds a = record { more = omega arith; behind = λ ps h. subst (holds a) (sym (append-nil ps)) h }

pub took-join : {S : Type 0} (count : S → ℕ) (holds : S → List Partial → Type 0) (a b c : S) (xs ys : List Partial) → Took count holds a b xs → Took count holds b c ys → Took count holds a c (xs ++ ys)
took-join count holds a b c xs ys first second = record {
  more = let one = first.more in let two = second.more in omega (arith, one, two, length-append xs ys);
  behind = λ ps h. subst (holds c) (append_assoc ps xs ys) (second.behind (ps ++ xs) (first.behind ps h));
}

-- a loop over a list: one element more
pub took-at : {S X : Type 0} (count : S → ℕ) (holds : S → List Partial → Type 0) (F : X → List Partial) (xs : List X) (i : ℕ) (x : X) (start before now : S) → slice_get xs i ≡ Some x
    → Took count holds start before (flat_map F (take i xs)) → Took count holds before now (F x) → Took count holds start now (flat_map F (take (i + 1) xs))
took-at count holds F xs i x start before now at b e =
    let so_far = flat_map F (take i xs) in
    subst (Took count holds start now) (more-at F xs i x [] so_far (so_far ++ F x) at refl refl) (took-join count holds start before now so_far (F x) b e)

-- an element that adds nothing
pub took-skip : {S X : Type 0} (count : S → ℕ) (holds : S → List Partial → Type 0) (F : X → List Partial) (xs : List X) (i : ℕ) (x : X) (start before : S) → slice_get xs i ≡ Some x
    → Took count holds start before (flat_map F (take i xs)) → F x ≡ [] → Took count holds start before (flat_map F (take (i + 1) xs))
took-skip count holds F xs i x start before at b none =
    took-at count holds F xs i x start before before at b (subst (Took count holds before before) (sym none) (took-none count holds before))

-- more than so many already
pub took-over : {S X : Type 0} (count : S → ℕ) (holds : S → List Partial → Type 0) (F : X → List Partial) (xs : List X) (i : ℕ) (x : X) (start before : S) (n : ℕ) → slice_get xs i ≡ Some x
    → Took count holds start before (flat_map F (take i xs)) → n < count before + length (F x) → n < count start + length (flat_map F xs)
took-over count holds F xs i x start before n at b h = let more = b.more in omega (arith, h, more, flat_map-room F xs i x at)

-- more than so many in the second of two lists
pub over-after : {S : Type 0} (count : S → ℕ) (holds : S → List Partial → Type 0) (start now : S) (mine own rest : List Partial) (n : ℕ) → mine ≡ own → Took count holds start now mine
    → n < count now + length rest → n < count start + length (own ++ rest)
over-after count holds start now mine own rest n e a h = let more = a.more in omega (arith, h, ap length e, more, length-append own rest)

pub joined-up : {S : Type 0} (count : S → ℕ) (holds : S → List Partial → Type 0) (start now end : S) (mine own rest : List Partial) → mine ≡ own → Took count holds start now mine
    → Took count holds now end rest → Took count holds start end (own ++ rest)
joined-up count holds start now end mine own rest e a b =
    took-join count holds start now end own rest (subst (Took count holds start now) e a) b

-- what two lists lead to, one after the other, as the code has them
pub took-both : {S X : Type 0} (count : S → ℕ) (holds : S → List Partial → Type 0) (f : X → List Partial) (start now end : S) (mine more xs ys : List X) → mine ≡ xs → more ≡ ys
    → Took count holds start now (flat_map f mine) → Took count holds now end (flat_map f more) → Took count holds start end (flat_map f (xs ++ ys))
took-both {S} {X} count holds f start now end mine more xs ys e g a b =
    rw flat_map-append (subst (λ (zs : List X). Took count holds start end (flat_map f xs ++ flat_map f zs)) g (subst (λ (zs : List X). Took count holds start end (flat_map f zs ++ flat_map f more)) e (took-join count holds start now end (flat_map f mine) (flat_map f more) a b)))

pub over-first : {X : Type 0} (f : X → List Partial) (n m : ℕ) (mine xs ys : List X) → mine ≡ xs → n < m + length (flat_map f mine) → n < m + length (flat_map f (xs ++ ys))
over-first {X} f n m mine xs ys e h =
    let same = ap (λ (zs : List X). length (flat_map f zs)) e in
    omega (arith, h, same, ap length (flat_map-append f xs ys), length-append (flat_map f xs) (flat_map f ys))

pub over-second : {S X : Type 0} (count : S → ℕ) (holds : S → List Partial → Type 0) (f : X → List Partial) (start now : S) (n : ℕ) (mine more xs ys : List X) → mine ≡ xs → more ≡ ys
    → Took count holds start now (flat_map f mine) → n < count now + length (flat_map f more) → n < count start + length (flat_map f (xs ++ ys))
over-second {S} {X} count holds f start now n mine more xs ys e g a h =
    let taken = a.more in
    let one = ap (λ (zs : List X). length (flat_map f zs)) e in
    let two = ap (λ (zs : List X). length (flat_map f zs)) g in
    omega (arith, h, taken, one, two, ap length (flat_map-append f xs ys), length-append (flat_map f xs) (flat_map f ys))
