-- Each step keeps the rule.
use Rattle.std.proofs.Common.{◌≡◌, ◌≢◌, ℕ, List, [], ◌∷◌, ◌++◌, fold, set, true, false, true≢false, refl, ap, sym, ◌∙◌, subst, ⊎_elim}
use mathlib.Core.Option.{some, some-ne-none}
use lib.ListN.{get_elem?}
use Rattle.crossbeam_utils.specs.Register.{Admits, Turns, TurnsAt, Forks, Merges}
use Rattle.atomic_table.proofs.Lists.{at_set, at_snoc}
use Rattle.std.specs.Arc.{arc_value}
use Rattle.crew_version.specs.Versions.{Snapshot}
use Rattle.crew_publish.specs.declared.shown.Shown.{Shown}
use Rattle.crew_publish.specs.declared.shown.Common.{Common}
use Rattle.crew_publish.specs.Chain.{Follows, Ends}
use Rattle.crew_resource.specs.Chains.{IsChain}
use Rattle.crew_publish.specs.Machinery.Rule.{AllBegin, Kept, Seen, list_of, Added, Opened, IsHeld}
use Rattle.crew_publish.proofs.Chains.{prefix_self, all_longer, chain_push, ends_push, same_end}

-- a new seat knows nothing
pub admits : Admits Kept []
admits x views h = (h.0, h.1, h.2, h.3, λ seat v e. ⊎_elim (λ was. h.4 seat v was) (λ (same : [] ≡ v). subst (λ (u : List (List Snapshot)). AllBegin u h.0) same tt) (at_snoc views [] v seat e))

-- where one seat changes, and what each seat knew begins the new whole
set_fits : (views : List (List (List Snapshot))) (seat : ℕ) (w : List (List Snapshot)) (whole : List Snapshot)
    → ((j : ℕ) (u : List (List Snapshot)) → get_elem? views j ≡ some u → AllBegin u whole) → AllBegin w whole
    → (j : ℕ) (u : List (List Snapshot)) → get_elem? (set views seat w) j ≡ some u → AllBegin u whole
set_fits views seat w whole others mine j u e =
    ⊎_elim (λ (t : (j ≡ seat) × (w ≡ u)). subst (λ (y : List (List Snapshot)). AllBegin y whole) t.1 mine) (λ (t : (j ≢ seat) × (get_elem? views j ≡ some u)). others j u t.1) (at_set views seat j w u e)

pub looks : (seat : ℕ) (v : List (List Snapshot)) → Turns Kept seat v (λ x. x) Seen
looks seat v x views h at =
    let begun = h.4 seat v at in
    (h.0 ∷ v, (h.0, h.1, h.2, h.3, set_fits views seat (h.0 ∷ v) h.0 h.4 (prefix_self h.0, begun)), (h.0, refl, h.1, h.2, begun))

-- the list that the writer's seat stands for is the published list
whole : (v : List (List Snapshot)) (x : Shown) (all : List Snapshot) → IsHeld v x → AllBegin v all → IsChain Follows all → Ends all (arc_value x.version) → (x.opening ≡ true → all ≡ arc_value x.version ∷ []) → list_of v (arc_value x.version) ≡ all
whole [] x all held b c e o = sym (o held)
whole (l ∷ ls) x all held b c e o = same_end l all (arc_value x.version) b.0 c held.2 e

pub adds : (seat : ℕ) (v : List (List Snapshot)) (x y : Shown) → IsHeld v x → Follows (arc_value x.version) (arc_value y.version) → y.opening ≡ false → TurnsAt Kept seat v x y Added
adds seat v x y held follows later views h at =
    let all = h.0 in
    let new = arc_value y.version in
    let more = all ++ new ∷ [] in
    let is : list_of v (arc_value x.version) ≡ all = whole v x all held (h.4 seat v at) h.1 h.2 h.3 in
    let w = (list_of v (arc_value x.version) ++ new ∷ []) ∷ [] in
    let mine : AllBegin w more = (subst (λ (l : List Snapshot). AllBegin ((l ++ new ∷ []) ∷ []) more) (sym is) (prefix_self more, tt)) in (
      w,
      (
        more,
        chain_push all (arc_value x.version) new h.1 h.2 follows,
        ends_push all new,
        (λ o. absurd (true≢false (sym o ∙ later))),
        set_fits views seat w more (λ j u e. all_longer u all new (h.4 j u e)) mine,
      ),
      refl,
    )

fold_last : {S O : Type 0} (f : S → O → S) (s : S) (xs : List O) (x : O) → fold f s (xs ++ x ∷ []) ≡ f (fold f s xs) x
fold_last f s [] x = refl
fold_last f s (y ∷ ys) x = fold_last f (f s y) ys x

abbrev pub common : Shown → Common
common s = record { version = arc_value s.version; opening = s.opening }

-- whatever was pending before, the last operation says what is shown
pub shows_last : {O : Type 0} (value : O → Snapshot) (x next : Shown) (before ops : List O) (last : O) → ops ≡ before ++ last ∷ []
    → common next ≡ fold (λ (s : Common) (a : O). record { version = value a; opening = false }) (common x) ops → (arc_value next.version ≡ value last) × (next.opening ≡ false)
shows_last {O = O} value x next before ops last is e =
    let f : Common → O → Common = λ s a. record { version = value a; opening = false } in
    let all : common next ≡ f (fold f (common x) before) last = e ∙ ap (λ os. fold f (common x) os) is ∙ fold_last f (common x) before last in
    (ap (λ (z : Common). z.version) all, ap (λ (z : Common). z.opening) all)

-- after a publication the seat stands for the list with what is shown at its end
pub held_chain : (v : List (List Snapshot)) (x : Shown) → IsHeld v x → IsChain Follows (list_of v (arc_value x.version))
held_chain [] x held = tt
held_chain (l ∷ ls) x held = held.1

pub held_ends : (v : List (List Snapshot)) (x : Shown) → IsHeld v x → Ends (list_of v (arc_value x.version)) (arc_value x.version)
held_ends [] x held = refl
held_ends (l ∷ ls) x held = held.2

pub held_after : (v w : List (List Snapshot)) (x y : Shown) → Added v x y w → IsHeld v x → Follows (arc_value x.version) (arc_value y.version) → IsHeld w y
held_after v w x y is held follows =
    let l = list_of v (arc_value x.version) in
    let new = arc_value y.version in
    subst (λ (u : List (List Snapshot)). IsHeld u y) (sym is) (refl, chain_push l (arc_value x.version) new (held_chain v x held) (held_ends v x held) follows, ends_push l new)

-- at the start one version is shown, and the writer's seat knows nothing
pub begins : (v : Snapshot) (x : Shown) → arc_value x.version ≡ v → Kept x ([] ∷ [])
begins v x is = (v ∷ [], tt, sym is, (λ _. ap (λ (u : Snapshot). u ∷ []) (sym is)), λ seat w e. ⊎_elim (λ (none : get_elem? {A = List (List Snapshot)} [] seat ≡ some w). absurd (some-ne-none w (sym none))) (λ (same : [] ≡ w). subst (λ (u : List (List Snapshot)). AllBegin u (v ∷ [])) same tt) (at_snoc [] [] w seat e))

-- the same shown again
pub opens : (seat : ℕ) (v : List (List Snapshot)) (x y : Shown) → IsHeld v x → common y ≡ common x → TurnsAt Kept seat v x y Opened
opens seat v x y held same views h at =
    let l = list_of v (arc_value x.version) in
    let is : l ≡ h.0 = whole v x h.0 held (h.4 seat v at) h.1 h.2 h.3 in
    let version : arc_value y.version ≡ arc_value x.version = ap (λ (z : Common). z.version) same in
    let opening : y.opening ≡ x.opening = ap (λ (z : Common). z.opening) same in
    let mine : AllBegin (l ∷ []) h.0 = subst (λ (m : List Snapshot). AllBegin (m ∷ []) h.0) (sym is) (prefix_self h.0, tt) in
    (l ∷ [], (h.0, h.1, subst (λ (u : Snapshot). Ends h.0 u) (sym version) h.2, (λ o. h.3 (sym opening ∙ o) ∙ ap (λ (u : Snapshot). u ∷ []) (sym version)), set_fits views seat (l ∷ []) h.0 h.4 mine), refl)

all_both : (ls ms : List (List Snapshot)) (w : List Snapshot) → AllBegin ls w → AllBegin ms w → AllBegin (ls ++ ms) w
all_both [] ms w h k = k
all_both (l ∷ ls) ms w h k = (h.0, all_both ls ms w h.1 k)

pub forks : (seat : ℕ) (v : List (List Snapshot)) → Forks Kept seat v v v
forks seat v x views h at = (h.0, h.1, h.2, h.3, λ j u e. ⊎_elim (λ was. set_fits views seat v h.0 h.4 (h.4 seat v at) j u was) (λ (same : v ≡ u). subst (λ (z : List (List Snapshot)). AllBegin z h.0) same (h.4 seat v at)) (at_snoc (set views seat v) v u j e))

pub merges : (seat : ℕ) (v : List (List Snapshot)) (other : ℕ) (w : List (List Snapshot)) → Merges Kept seat v other w (w ++ v) []
merges seat v other w x views h at apart there =
    let mine = h.4 seat v at in
    let both = w ++ v in
    let theirs : AllBegin w h.0 = ⊎_elim (λ (t : (other ≡ seat) × (both ≡ w)). absurd (apart t.0)) (λ (t : (other ≢ seat) × (get_elem? views other ≡ some w)). h.4 other w t.1) (at_set views seat other both w there) in
    (h.0, h.1, h.2, h.3, set_fits (set views seat both) other [] h.0 (set_fits views seat both h.0 h.4 (all_both w v h.0 theirs mine)) tt)
