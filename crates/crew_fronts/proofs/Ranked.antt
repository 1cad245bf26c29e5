-- The fronts of duties by rank.
use Rattle.std.proofs.Common.{◌≡◌, ◌∙◌, ℕ, zero, suc, true, false, cond, List, [], ◌∷◌, Some, get_or, inl, inr, map, ap, subst}
use Rattle.std.specs.Prelude.{slice_get}
use Rattle.std.specs.Ordering.{eq_by_cmp, is_eq}
use Rattle.std.specs.declared.cmp.Ordering.TheVariants.{Less}
use Rattle.std.proofs.lemmas.Cmp.{eq_by_cmp_equiv}
use Rattle.crew_pairing.specs.Duties.{RiseByKey}
use Rattle.crew_pairing.specs.Keys.{key_cmp, key_total}
use Rattle.crew_pairing.specs.declared.duty.Duty.{Duty}
use Rattle.crew_resource.specs.Members.{Each, Member}
use Rattle.crew_fronts.specs.Fronts.{rank_of}

itself : (d : Duty) → eq_by_cmp key_cmp d.key d.key ≡ true
itself d = (eq_by_cmp_equiv key_total).refl d.key

-- a key that comes before another isn't it
apart : (d e : Duty) → key_cmp d.key e.key ≡ Less → eq_by_cmp key_cmp d.key e.key ≡ false
apart d e h = ap is_eq h

at-first : (d : Duty) (ds : List Duty) (k : ℕ) (e : Duty) → Each (λ e. key_cmp d.key e.key ≡ Less) ds → slice_get ds k ≡ Some e → key_cmp d.key e.key ≡ Less
at-first d [] k e h q = absurd (let z : ⊥ = (cc) in z)
at-first d (x ∷ xs) zero e h q = let i : x ≡ e = (cc) in subst (λ (z : Duty). key_cmp d.key z.key ≡ Less) i h.0
at-first d (x ∷ xs) (suc k) e h q = at-first d xs k e h.1 q

pub rank-is : (ds : List Duty) (k : ℕ) (d : Duty) → RiseByKey ds → slice_get ds k ≡ Some d → rank_of ds d.key ≡ k
rank-is [] k d h q = absurd (let z : ⊥ = (cc) in z)
rank-is (x ∷ xs) zero d h q =
    let i : x ≡ d = (cc) in
    ap (λ b. cond b 0 (suc (rank_of xs d.key))) (ap (λ (z : Duty). eq_by_cmp key_cmp z.key d.key) i ∙ itself d)
rank-is (x ∷ xs) (suc k) d h q =
    ap (λ b. cond b 0 (suc (rank_of xs d.key))) (apart x d (at-first x xs k d h.0 q)) ∙ ap suc (rank-is xs k d h.1 q)

pub ranked : (ds : List Duty) (d : Duty) → Member ds d → (k : ℕ) × (slice_get ds k ≡ Some d)
ranked [] d m = absurd m
ranked (x ∷ xs) d (inl q) = (0, ap (λ z. Some z) q)
ranked (x ∷ xs) d (inr m) = let r = ranked xs d m in (suc r.0, r.1)

pub get-map : {X Y : Type 0} (f : X → Y) (xs : List X) (k : ℕ) (x : X) (y : Y) → slice_get xs k ≡ Some x → get_or (map f xs) k y ≡ f x
get-map f [] k x y q = absurd (let z : ⊥ = (cc) in z)
get-map f (z ∷ xs) zero x y q = let i : z ≡ x = (cc) in ap f i
get-map f (z ∷ xs) (suc k) x y q = get-map f xs k x y q

-- the front at the rank of a duty
pub at-duty : {Y : Type 0} (f : Duty → Y) (ds : List Duty) (d : Duty) (y : Y) → RiseByKey ds → Member ds d → get_or (map f ds) (rank_of ds d.key) y ≡ f d
at-duty f ds d y h m =
    let r = ranked ds d m in
    ap (λ k. get_or (map f ds) k y) (rank-is ds r.0 d h r.1) ∙ get-map f ds r.0 d y r.1
