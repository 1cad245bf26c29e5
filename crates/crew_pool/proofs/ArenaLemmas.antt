-- Links and the walks that they make.
use Rattle.std.proofs.Common.{Some, ◌≡◌, ℕ, zero, suc, ◌+◌, ◌-◌, ◌<◌, ◌≤◌, List, [], ◌∷◌, ◌++◌, length, get_or, refl, sym, ◌∙◌, ap, subst, arith, append_assoc}
use Rattle.std.specs.Cmp.Lexicographic.{slice_cmp}
use Rattle.std.specs.Ordering.{nat_cmp, ordering_then}
use Rattle.std.specs.Prelude.{slice_get}
use Rattle.std.proofs.lemmas.Option.{get_or_from_slice_get}
use Rattle.std.proofs.lemmas.Cmp.{nat_cmp_total, tied_itself}
use Rattle.std.proofs.Math.Seq.{get_or-append_seam}
use Rattle.std.proofs.lemmas.List.{get_or_append_left, length-append}
use Rattle.crew_pool.specs.Arena.{walk_at}
use Rattle.crew_pool.specs.Machinery.ArenaLinks.{walks_from, all_walks, AreLinked}
use Rattle.crew_pool.specs.declared.links.Link.{Link}

length-walks_from : (ws : List (List ℕ)) (ls : List Link) → length (walks_from ws ls) ≡ length ws + length ls
length-walks_from ws [] = omega arith
length-walks_from ws (l ∷ ls) =
    let w : List ℕ = walk_at ws l.before ++ l.duty ∷ [] in
    let h = length-walks_from (ws ++ w ∷ []) ls in
    let k = length-append ws (w ∷ []) in
    omega arith

pub length-all_walks : (ls : List Link) → length (all_walks ls) ≡ 1 + length ls
length-all_walks ls = length-walks_from ([] ∷ []) ls

walks_from-more : (ws : List (List ℕ)) (ls : List Link) (l : Link) → walks_from ws (ls ++ l ∷ []) ≡ walks_from ws ls ++ (walk_at (walks_from ws ls) l.before ++ l.duty ∷ []) ∷ []
walks_from-more ws [] l = refl
walks_from-more ws (x ∷ ls) l = walks_from-more (ws ++ (walk_at ws x.before ++ x.duty ∷ []) ∷ []) ls l

-- one link more is one walk more
pub all_walks-more : (ls : List Link) (l : Link) → all_walks (ls ++ l ∷ []) ≡ all_walks ls ++ (walk_at (all_walks ls) l.before ++ l.duty ∷ []) ∷ []
all_walks-more ls l = walks_from-more ([] ∷ []) ls l

pub AreLinked-more : (i : ℕ) (ls : List Link) (l : Link) → AreLinked i ls → l.before ≤ i + length ls → AreLinked i (ls ++ l ∷ [])
AreLinked-more i [] l h b = (omega arith, tt)
AreLinked-more i (x ∷ ls) l h b = (h.0, AreLinked-more (i + 1) ls l h.1 (omega arith))

walks_from-below : (ws : List (List ℕ)) (ls : List Link) (p : ℕ) → p < length ws → walk_at (walks_from ws ls) p ≡ walk_at ws p
walks_from-below ws [] p h = refl
walks_from-below ws (l ∷ ls) p h =
    let w : List ℕ = walk_at ws l.before ++ l.duty ∷ [] in
    let k = length-append ws (w ∷ []) in
    walks_from-below (ws ++ w ∷ []) ls p (omega arith) ∙ get_or_append_left ws (w ∷ []) [] p h

link_walk : (ws : List (List ℕ)) (ls : List Link) (i k : ℕ) (d : Link) → AreLinked i ls → length ws ≡ i + 1 → k < length ls
    → ((get_or ls k d).before ≤ i + k) × (walk_at (walks_from ws ls) (i + 1 + k) ≡ walk_at (walks_from ws ls) (get_or ls k d).before ++ (get_or ls k d).duty ∷ [])
link_walk ws [] i k d h e b = absurd (omega arith)
link_walk ws (l ∷ ls) i zero d h e b =
    let w : List ℕ = walk_at ws l.before ++ l.duty ∷ [] in
    let m = length-append ws (w ∷ []) in
    let first : l.before ≤ i = h.0 in
    let here : length ws ≡ i + 1 + 0 = omega arith in (
      omega arith,
      walks_from-below (ws ++ w ∷ []) ls (i + 1 + 0) (omega arith)
          ∙ (ap (λ n. get_or (ws ++ w ∷ []) n []) (sym here)
          ∙ (get_or-append_seam ws w [] []
          ∙ ap (λ z. z ++ l.duty ∷ []) (sym (walks_from-below (ws ++ w ∷ []) ls l.before (omega arith) ∙ get_or_append_left ws (w ∷ []) [] l.before (omega arith))))),
    )
link_walk ws (l ∷ ls) i (suc k) d h e b =
    let w : List ℕ = walk_at ws l.before ++ l.duty ∷ [] in
    let m = length-append ws (w ∷ []) in
    let rest = link_walk (ws ++ w ∷ []) ls (i + 1) k d h.1 (omega arith) (omega arith) in
    let same : i + 1 + 1 + k ≡ i + 1 + suc k = omega arith in (
      omega arith,
      subst (λ n. walk_at (walks_from (ws ++ w ∷ []) ls) n ≡ walk_at (walks_from (ws ++ w ∷ []) ls) (get_or ls k d).before ++ (get_or ls k d).duty ∷ []) same rest.1,
    )

-- the walk at a place other than the first
pub walk_of_link : (ls : List Link) (x : ℕ) (d : Link) → AreLinked 0 ls → 1 ≤ x → x < length (all_walks ls)
    → ((get_or ls (x - 1) d).before < x) × (walk_at (all_walks ls) x ≡ walk_at (all_walks ls) (get_or ls (x - 1) d).before ++ (get_or ls (x - 1) d).duty ∷ [])
walk_of_link ls x d h one b =
    let n = length-all_walks ls in
    let k = link_walk ([] ∷ []) ls 0 (x - 1) d h refl (omega arith) in
    let same : 0 + 1 + (x - 1) ≡ x = omega arith in
    (omega arith, subst (λ y. walk_at (all_walks ls) y ≡ walk_at (all_walks ls) (get_or ls (x - 1) d).before ++ (get_or ls (x - 1) d).duty ∷ []) same k.1)

-- the same, of the link that was found there
pub walk_of_seen : (ls : List Link) (x : ℕ) (l : Link) → AreLinked 0 ls → 1 ≤ x → x < length (all_walks ls) → slice_get ls (x - 1) ≡ Some l → (l.before < x) × (walk_at (all_walks ls) x ≡ walk_at (all_walks ls) l.before ++ l.duty ∷ [])
walk_of_seen ls x l h one b e =
    subst (λ (m : Link). (m.before < x) × (walk_at (all_walks ls) x ≡ walk_at (all_walks ls) m.before ++ m.duty ∷ [])) (get_or_from_slice_get ls (x - 1) l l e) (walk_of_link ls x l h one b)

pub first_walk : (ls : List Link) → walk_at (all_walks ls) 0 ≡ []
first_walk ls = walks_from-below ([] ∷ []) ls 0 (omega arith)

-- of two places whose walks are as long, neither is the first, unless both are
pub not_first : (ls : List Link) (x y : ℕ) (d : Link) → AreLinked 0 ls → y < length (all_walks ls) → length (walk_at (all_walks ls) x) ≡ length (walk_at (all_walks ls) y) → (x ≡ y → ⊥) → 1 ≤ x
not_first ls (suc x) y d h b e n = omega arith
not_first ls zero zero d h b e n = absurd (n refl)
not_first ls zero (suc y) d h b e n =
    let k = walk_of_link ls (suc y) d h (omega arith) b in
    let long = ap length k.1 in
    let more = length-append (walk_at (all_walks ls) (get_or ls (suc y - 1) d).before) ((get_or ls (suc y - 1) d).duty ∷ []) in
    let none = ap length (first_walk ls) in
    absurd (omega arith)

-- what lists have before does not count
pub cmp_after : (w s t : List ℕ) → slice_cmp nat_cmp (w ++ s) (w ++ t) ≡ slice_cmp nat_cmp s t
cmp_after [] s t = refl
cmp_after (x ∷ w) s t = ap (λ o. ordering_then o (slice_cmp nat_cmp (w ++ s) (w ++ t))) (tied_itself nat_cmp_total x) ∙ cmp_after w s t

pub one_more : (w v s all : List ℕ) (d : ℕ) → all ≡ w ++ s → w ≡ v ++ d ∷ [] → all ≡ v ++ d ∷ s
one_more w v s all d e f = e ∙ (ap (λ z. z ++ s) f ∙ append_assoc v (d ∷ []) s)

pub shorter : (w v : List ℕ) (d : ℕ) → w ≡ v ++ d ∷ [] → length w ≡ length v + 1
shorter w v d f = ap length f ∙ length-append v (d ∷ [])
