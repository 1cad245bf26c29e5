-- Links whose duties have other ranks, and the walks that they make.
use Rattle.std.proofs.Common.{Some, None, ◌≡◌, ◌≤◌, ◌<◌, ◌+◌, ◌++◌, ◌∙◌, ℕ, zero, suc, List, Option, [], ◌∷◌, refl, sym, ap, ap₂, arith, Bool, true, false, nat_lt, get_or, length, map, take}
use Rattle.std.specs.Prelude.{slice_get}
use Rattle.std.proofs.lemmas.Bool.Decides.{nat_tests}
use Rattle.std.proofs.lemmas.List.{map-append, take_more}
use Rattle.std.proofs.lemmas.Option.{get_or_from_slice_get}
use Rattle.std.proofs.Math.ListN.{get_or-map}
use Rattle.std.proofs.lemmas.Simd.{map-map}
use Rattle.crew_pool.specs.Arena.{walk_at}
use Rattle.crew_pool.specs.Machinery.ArenaLinks.{AreLinked, all_walks, walks_from}
use Rattle.crew_pool.specs.Machinery.Links.{link_now, link_under, rank_now}
use Rattle.crew_pool.specs.Renumbered.{or_else, rank_under, walks_under}
use Rattle.crew_pool.specs.declared.links.Link.{Link}

-- one link more is taken
pub take-seen : (links : List Link) (i : ℕ) (l : Link) → i < length links → slice_get links i ≡ Some l → take (i + 1) links ≡ take i links ++ l ∷ []
take-seen links i l h e = take_more links i l h ∙ ap (λ (x : Link). take i links ++ x ∷ []) (get_or_from_slice_get links i l l e)

-- two functions that agree everywhere
pub map-agree : {X Y : Type 0} (f g : X → Y) → ((x : X) → f x ≡ g x) → (xs : List X) → map f xs ≡ map g xs
map-agree f g e [] = refl
map-agree f g e (x ∷ xs) = ap₂ ◌∷◌ (e x) (map-agree f g e xs)

-- links of which no rank has changed
pub links-stay : (links : List Link) → map (link_now []) links ≡ links
links-stay [] = refl
links-stay (l ∷ links) = ap (λ (ls : List Link). l ∷ ls) (links-stay links)

-- past the end of a list stands what is asked for
past : {X : Type 0} (xs : List X) (i : ℕ) (d : X) → length xs ≤ i → get_or xs i d ≡ d
past [] i d h = refl
past (x ∷ xs) zero d h = absurd (omega (arith, h))
past (x ∷ xs) (suc i) d h = past xs i d (omega (arith, h))

-- past the last rank none has a twin
pub own-past : (twins : List (Option ℕ)) (rank : ℕ) → length twins ≤ rank → rank_under twins rank ≡ rank
own-past twins rank h = ap (or_else rank) (past twins rank None h)

-- what holds of all ranks below a bound, and past it
pub for-all : (P : ℕ → Type 0) (n : ℕ) → ((k : ℕ) → k < n → P k) → ((k : ℕ) → n ≤ k → P k) → (k : ℕ) → P k
for-all P n below past k = by (nat_lt k n) refl
  where
    by : (b : Bool) → nat_lt k n ≡ b → P k
    by true e = below k (grind (arith, nat_tests, e))
    by false e = past k (grind (arith, nat_tests, e))

-- two turns of ranks are one
pub links-turned : (twins : List (Option ℕ)) (ranks news : List ℕ) → ((rank : ℕ) → rank_now news rank ≡ rank_under twins (rank_now ranks rank)) → (links : List Link)
    → map (link_now news) links ≡ map (link_under twins) (map (link_now ranks) links)
links-turned twins ranks news e links =
    map-agree (link_now news) (λ (l : Link). link_under twins (link_now ranks l)) (λ (l : Link). ap (λ (k : ℕ). record { before = l.before; duty = k }) (e l.duty)) links ∙ sym (map-map (link_under twins) (link_now ranks) links)

-- links stay linked
pub AreLinked-under : (twins : List (Option ℕ)) (i : ℕ) (links : List Link) → AreLinked i links → AreLinked i (map (link_under twins) links)
AreLinked-under twins i [] h = tt
AreLinked-under twins i (l ∷ links) h = (h.0, AreLinked-under twins (i + 1) links h.1)

walks_from-under : (twins : List (Option ℕ)) (walks : List (List ℕ)) (links : List Link) → walks_from (walks_under twins walks) (map (link_under twins) links) ≡ walks_under twins (walks_from walks links)
walks_from-under twins walks [] = refl
walks_from-under twins walks (l ∷ links) =
    let T = rank_under twins in
    let w = walk_at walks l.before in
    let at : walk_at (walks_under twins walks) l.before ≡ map T w = get_or-map (map T) walks l.before [] in
    let one : walk_at (walks_under twins walks) l.before ++ T l.duty ∷ [] ≡ map T (w ++ l.duty ∷ []) = ap (λ (xs : List ℕ). xs ++ T l.duty ∷ []) at ∙ sym (map-append T w (l.duty ∷ [])) in
    let more : walks_under twins walks ++ (walk_at (walks_under twins walks) l.before ++ T l.duty ∷ []) ∷ [] ≡ walks_under twins (walks ++ (w ++ l.duty ∷ []) ∷ [])
    = ap (λ (x : List ℕ). walks_under twins walks ++ x ∷ []) one ∙ sym (map-append (map T) walks ((w ++ l.duty ∷ []) ∷ [])) in
    ap (λ (ws : List (List ℕ)). walks_from ws (map (link_under twins) links)) more ∙ walks_from-under twins (walks ++ (w ++ l.duty ∷ []) ∷ []) links

-- the walks that links make by the ranks of twins
pub all_walks-under : (twins : List (Option ℕ)) (links : List Link) → all_walks (map (link_under twins) links) ≡ walks_under twins (all_walks links)
all_walks-under twins links = walks_from-under twins ([] ∷ []) links
