use Rattle.std.proofs.Common.{◌≡◌, ◌<◌, ◌+◌, ◌++◌, ◌∷◌, ◌∙◌, [], List, ℕ, ℤ, ◌≤◌, ap, arith, drop, false, get_or, length, map, set, subst, sym, take, true, ⊎_elim}
use Rattle.std.proofs.lemmas.List.{drop-set-lt, get_or-drop, length-drop, take_all, take_more_set}
use Rattle.std.proofs.lemmas.Grind.{drop_more_same}
use Rattle.crew_resource.specs.Members.{Member}
use Rattle.crew_resource.proofs.Members.{Member-append}
use Rattle.crew_pool.specs.Apart.{AreApart}
use Rattle.crew_pool.specs.Counted.{AreCounted, IsCounted}
use Rattle.crew_pool.specs.LabelWalks.{shown}
use Rattle.crew_pool.specs.declared.label_walk.LabelWalk.{LabelWalk}
use Rattle.crew_step.proofs.Grown.{all-shown-there, counted-grown, grown-through, one-more-shown, shown-grown, vectors-shown}
use Rattle.crew_step.proofs.Loops.{item-at, item-known}
use Rattle.crew_step.proofs.waiting.waiting_labels.Goals as goal

-- what comes next is as it was
still : {X : Type 0} (now old : List X) (i : ℕ) (x : X) → drop i now ≡ drop i old → i < length old → x ≡ get_or now i x → (i < length now) × (x ≡ get_or old i x)
still now old i x same inside is =
    let here : i + 0 ≡ i = omega arith in (
      omega (arith, inside, ap length same, length-drop i now, length-drop i old),
      is ∙ (ap (λ k. get_or now k x) (sym here) ∙ (sym (get_or-drop i now 0 x) ∙ (ap (λ xs. get_or xs 0 x) same ∙ (get_or-drop i old 0 x ∙ ap (λ k. get_or old k x) here)))),
    )

pub make_whole-requires-clause-there : goal.make_whole-requires-clause-there
make_whole-requires-clause-there g c =
    let inside : c.loop-place.place < length c.args.pool = omega (arith, ap length c.into_vec-labels.ensures.all) in
    let p = c.index_mut.result.now in
    let inv = c.loop-place.invariant in
    let was = still c.loop-place.labels.items c.args.pool c.loop-place.place p inv.2 inside c.index_mut.ensures.value in
    let there = (c.requires p (item-known c.args.pool c.loop-place.place p inside was.1)).0 in
    let longer = inv.0.longer in
    omega (arith, there, longer)

pub make_whole-requires-clause-pending : goal.make_whole-requires-clause-pending
make_whole-requires-clause-pending g c =
    let inside : c.loop-place.place < length c.args.pool = omega (arith, ap length c.into_vec-labels.ensures.all) in
    let p = c.index_mut.result.now in
    let was = still c.loop-place.labels.items c.args.pool c.loop-place.place p c.loop-place.invariant.2 inside c.index_mut.ensures.value in
    (c.requires p (item-known c.args.pool c.loop-place.place p inside was.1)).1

pub loop-place-preserved : goal.loop-place-preserved
loop-place-preserved g c =
    let inside : c.loop-place.place < length c.args.pool = omega (arith, ap length c.into_vec-labels.ensures.all) in
    let Label = g.row.R-Value.Denot × LabelWalk in
    let p = c.index_mut.result.now in
    let i = c.loop-place.place in
    let ls = c.loop-place.labels.items in
    let pool = c.args.pool in
    let inv = c.loop-place.invariant in
    let at = still ls pool i p inv.2 inside c.index_mut.ensures.value in
    let known = item-known pool i p inside at.1 in
    let first = c.args.walks.now in
    let was = c.loop-place.walks in
    let now = c.make_whole.new.walks in
    let x = c.make_whole.new.label in
    let step = c.in_ok-make_whole.ensures in
    let more : take (i + 1) (set ls i x) ≡ take i ls ++ x ∷ [] = take_more_set ls i x at.0 in
    let longer = step.grown.longer in
    let same = one-more-shown first now (take i ls) pool i x p (item-at pool i p inside at.1) (all-shown-there was now step.grown (take i ls) inv.3 ∙ inv.1)
    (step.same ∙ shown-grown first was inv.0 p (c.requires p known).0)
    in
    let there : (l : Label) → Member (take i ls ++ x ∷ []) l → l.1.walk < length now = λ l m. ⊎_elim {C = l.1.walk < length now} (λ o. let h = inv.3 l o in omega (arith, h, longer))
    (λ n. ⊎_elim {C = l.1.walk < length now} (λ e. subst (λ (y : Label). y.1.walk < length now) e step.there) (λ b. absurd b) n) (Member-append (take i ls) (x ∷ []) l m)
    in
    let counts : (count : g.row.R-Value.Denot → ℤ) → AreCounted count first false pool → AreCounted count now true (take i ls ++ x ∷ []) = λ count all l m.
    ⊎_elim {C = IsCounted count now true l} (λ o. counted-grown count was now true step.grown l (inv.4 count all l o))
    (λ n. ⊎_elim {C = IsCounted count now true l} (λ e. subst (IsCounted count now true) e (step.counts count (counted-grown count first was false inv.0 p (all p known)))) (λ b. absurd b) n) (Member-append (take i ls) (x ∷ []) l m)
    in (
      grown-through first was now inv.0 step.grown,
      ap (map (shown now)) more ∙ same,
      drop-set-lt (i + 1) ls i x (omega arith) ∙ drop_more_same ls pool i inv.2,
      subst (λ (es : List Label). (l : Label) → Member es l → l.1.walk < length now) (sym more) there,
      subst (λ (es : List Label). (count : g.row.R-Value.Denot → ℤ) → AreCounted count first false pool → AreCounted count now true es) (sym more) counts,
    )

-- when the loop is over all labels are whole
all-whole : {X : Type 0} (now old : List X) (i : ℕ) → drop i now ≡ drop i old → length old ≤ i → (take i now ≡ now) × (take i old ≡ old)
all-whole now old i same past = (
  take_all i now (omega (arith, past, ap length same, length-drop i now, length-drop i old)),
  take_all i old past,
)

pub from_apart-requires : goal.from_apart-requires
from_apart-requires g c =
    let V = g.row.R-Value.Denot in
    let first = c.args.walks.now in
    let ls = c.loop-place.labels.items in
    let inv = c.loop-place.invariant in
    let all = all-whole ls c.args.pool c.loop-place.place inv.2 (omega (arith, ap length c.into_vec-labels.ensures.all)) in
    let shows : map (shown c.loop-place.walks) ls ≡ map (shown first) c.args.pool = ap (map (shown c.loop-place.walks)) (sym all.0) ∙ (inv.1 ∙ ap (map (shown first)) all.1) in
    let vectors : map (λ (l : V × LabelWalk). l.0) ls ≡ map (λ (l : V × LabelWalk). l.0) c.args.pool =
    sym (vectors-shown c.loop-place.walks ls) ∙ (ap (map (λ e. e.0)) shows ∙ vectors-shown first c.args.pool) in
    subst (AreApart g.R.Resource.below) (sym vectors) c.into_vec-labels.ensures.apart

pub returns-clause-same : goal.returns-clause-same
returns-clause-same g c =
    let first = c.args.walks.now in
    let ls = c.loop-place.labels.items in
    let inv = c.loop-place.invariant in
    let all = all-whole ls c.args.pool c.loop-place.place inv.2 (omega (arith, ap length c.into_vec-labels.ensures.all)) in
    ap (map (shown c.loop-place.walks)) (c.from_apart.ensures ∙ sym all.0) ∙ (inv.1 ∙ ap (map (shown first)) all.1)

pub returns-clause-counts : goal.returns-clause-counts
returns-clause-counts g c = λ count counted.
    let V = g.row.R-Value.Denot in
    let ls = c.loop-place.labels.items in
    let inv = c.loop-place.invariant in
    let all = all-whole ls c.args.pool c.loop-place.place inv.2 (omega (arith, ap length c.into_vec-labels.ensures.all)) in
    subst (λ (es : List (V × LabelWalk)). AreCounted count c.loop-place.walks true es) (all.0 ∙ sym c.from_apart.ensures) (inv.4 count counted)
