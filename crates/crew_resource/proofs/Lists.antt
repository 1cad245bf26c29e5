-- Lists by place: what passes, what is set.
use Rattle.std.proofs.Common.{◌≡◌, ℕ, zero, suc, ◌<◌, ◌≤◌, Bool, false, List, [], ◌∷◌, length, map, set, Some, None, inl, inr, sym, ◌∙◌, ap, subst, refl, arith}
use Rattle.std.specs.Prelude.{slice_get}
use Rattle.std.specs.List.{position, position_or_len, All, AllByRecursion}
use Rattle.std.proofs.lemmas.Bool.Decides.{nat_tests}
use Rattle.std.proofs.lemmas.List.Elements.{recursion_from_All}
use Rattle.std.proofs.lemmas.List.Sums.{fails_before_first}
use Rattle.crew_resource.specs.Members.{Member}

-- with no place, each element fails
pub none_passes : {X : Type 0} (p : X → Bool) (xs : List X) → position p xs ≡ None → All (λ x. p x ≡ false) xs
none_passes p xs e k d h = fails_before_first p xs k d (let q : length xs ≤ position_or_len p xs = grind (arith, nat_tests) in omega arith)

member_recursion : {X : Type 0} (P : X → Type 0) (xs : List X) (x : X) → AllByRecursion P xs → Member xs x → P x
member_recursion P [] x h m = absurd m
member_recursion P (y ∷ ys) x h (inl e) = subst P e h.0
member_recursion P (y ∷ ys) x h (inr m) = member_recursion P ys x h.1 m

pub Member-All : {X : Type 0} (P : X → Type 0) (xs : List X) (x : X) → All P xs → Member xs x → P x
Member-All P xs x h m = member_recursion P xs x (recursion_from_All P xs h) m

pub within_some : {X : Type 0} (xs : List X) (i : ℕ) (x : X) → slice_get xs i ≡ Some x → i < length xs
within_some [] i x g = absurd (let q : ⊥ = (cc) in q)
within_some (y ∷ ys) zero x g = omega arith
within_some (y ∷ ys) (suc i) x g = let k = within_some ys i x g in omega (arith, k)

-- an entry's walk may change
pub map-slice_set : {X V : Type 0} (f : X → V) (xs : List X) (i : ℕ) (x y : X) → slice_get xs i ≡ Some x → f y ≡ f x → map f (set xs i y) ≡ map f xs
map-slice_set f [] i x y g e = refl
map-slice_set f (z ∷ xs) zero x y g e = let q : z ≡ x = (cc) in ap (λ r. r ∷ map f xs) (e ∙ ap f (sym q))
map-slice_set f (z ∷ xs) (suc i) x y g e = ap (λ r. f z ∷ r) (map-slice_set f xs i x y g e)
