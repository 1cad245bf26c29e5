-- Labels that may stand for others, and where they are.
use Rattle.std.proofs.Common.{◌≡◌, ℕ, ◌+◌, ◌<◌, Bool, true, not, ◌||◌, List, ◌∷◌, length, get_or, map, take, drop, ℤ, inl, sym, ◌∙◌, ap, subst, arith}
use Rattle.std.proofs.lemmas.Bool.{and_parts}
use Rattle.std.proofs.lemmas.List.{drop_more, length-map, take-append-drop}
use Rattle.std.proofs.lemmas.List.Filters.{FiltersInPlace}
use Rattle.crew_resource.specs.Members.{Member}
use Rattle.crew_resource.proofs.Members.{Member-append_right, Member-get_or}
use Rattle.crew_label.specs.Pools.{stands_label}
use Rattle.crew_label.specs.Walks.{ranks_at_most, walk_of}
use Rattle.crew_label.specs.declared.label.Label.{Label}
use Rattle.crew_label.specs.declared.label.Link.{Link}

-- the value of a label that may stand for another is at most the other's
pub stands_below : {V : Type 0} (below same : V → V → Bool) (trail : Link → List ℕ) (a b : Label V) → stands_label below same trail a b ≡ true → below a.value b.value ≡ true
stands_below below same trail a b e =
    (and_parts (below a.value b.value) (not (same a.value b.value) || ranks_at_most (walk_of trail a.before) (walk_of trail b.before)) e).0

-- what stands at the place of a row is an element
pub there_in : {X : Type 0} (f : X → List ℤ) (rows : List (List ℤ)) (items xs : List X) → rows ≡ map f items → items ≡ xs → (place : ℕ) (x : X) → place < length rows → x ≡ get_or items place x → Member xs x
there_in {X} f rows items xs marked seen place x h is =
    let long : length rows ≡ length items = ap length marked ∙ length-map items f in
    subst (λ (ys : List X). Member ys x) seen (Member-get_or items place x (omega (arith, h, long)) (sym is))

-- what comes next in a list that is filtered in place was there at first
pub still_there : {X : Type 0} {p : X → Bool} {xs ys : List X} {k i : ℕ} {x : X} → FiltersInPlace p xs ys k i → i < length ys → x ≡ get_or ys i x → Member xs x
still_there {X} {p} {xs} {ys} {k} {i} {x} h l is =
    let here : Member (get_or ys i x ∷ drop (i + 1) ys) x = inl (sym is) in
    subst (λ (zs : List X). Member zs x) (take-append-drop i xs)
    (Member-append_right (take i xs) (drop i xs) x (subst (λ (zs : List X). Member zs x) (sym (drop_more ys i x l) ∙ h.rest) here))
