use Rattle.std.proofs.Common.{◌≡◌, Bool, ◌<◌, ◌++◌, ◌∷◌, ◌∙◌, [], List, ap, length, map, pos, refl, subst, sym, true, ⊎_elim, ℕ, ℤ}
use Rattle.crew_pool.specs.Apart.{AreApart}
use Rattle.crew_pool.specs.Arena.{walk_at}
use Rattle.crew_pool.specs.Counted.{AreCounted, IsCounted}
use Rattle.crew_pool.specs.LabelWalks.{IsPoolOf, shown}
use Rattle.crew_pool.specs.declared.label_walk.LabelWalk.{LabelWalk}
use Rattle.crew_pool.proofs.BoardLemmas.{counted_alike}
use Rattle.crew_step.proofs.departure.with_idle.Goals as goal

abbrev idle-label : {V : Type 0} → V → ℕ → V × LabelWalk
idle-label value place = (value, record { walk = place; duty = 4294967295 })

idle-alone : {V : Type 0} (none now ls : List (V × LabelWalk)) (value : V) (place : ℕ) → none ≡ [] → now ≡ none ++ idle-label value place ∷ [] → ls ≡ now → ls ≡ idle-label value place ∷ []
idle-alone none now ls value place e n s = s ∙ (n ∙ ap (λ xs. xs ++ idle-label value place ∷ []) e)

-- a list of the empty label alone
module _ {V : Type 0} (walks : List (List ℕ)) (value : V) (place : ℕ) (ls : List (V × LabelWalk)) (is : ls ≡ idle-label value place ∷ [])
    (empty : walk_at walks place ≡ []) where
  idle-apart : (below : V → V → Bool) → AreApart below (map (λ l. l.0) ls)
  idle-apart below = subst (λ (es : List (V × LabelWalk)). AreApart below (map (λ l. l.0) es)) (sym is) (tt, tt)

  idle-shown : map (shown walks) ls ≡ (value, []) ∷ []
  idle-shown = ap (map (shown walks)) is ∙ ap (λ w. (value, w ++ []) ∷ []) empty

  idle-counted : (count : V → ℤ) → place < length walks → count value ≡ pos 0 → AreCounted count walks true ls
  idle-counted count there idle =
      let one : IsCounted count walks true (idle-label value place) = record { there = there; stands = refl; counts = idle ∙ ap (λ w. pos (length (w ++ []))) (sym empty) } in
      subst (AreCounted count walks true) (sym is) (λ l m. ⊎_elim {C = IsCounted count walks true l} (λ e. subst (IsCounted count walks true) e one) (λ b. absurd b) m)

pub merge-requires-clause-apart : goal.merge-requires-clause-apart
merge-requires-clause-apart g c =
    let is = idle-alone c.new-labels.result.items c.push.new.self.items c.deref.result.now c.args.value c.empty_walk-walk.result c.new-labels.ensures.items c.in_ok-push.ensures.items c.deref.ensures.value in
    idle-apart c.args.walks.now c.args.value c.empty_walk-walk.result c.deref.result.now is c.empty_walk-walk.ensures.empty g.R.Resource.below

pub merge-requires-clause-between : goal.merge-requires-clause-between
merge-requires-clause-between g c = λ a b m n e.
    let V = g.row.R-Value.Denot in
    let count = g.R.Staged.count_of c.args.resource.now in
    let walks = c.args.walks.now in
    let is = idle-alone c.new-labels.result.items c.push.new.self.items c.deref.result.now c.args.value c.empty_walk-walk.result c.new-labels.ensures.items c.in_ok-push.ensures.items c.deref.ensures.value in
    let counted = idle-counted walks c.args.value c.empty_walk-walk.result c.deref.result.now is c.empty_walk-walk.ensures.empty count c.empty_walk-walk.ensures.there c.requires.idle in
    let pool = subst (λ (es : List (V × LabelWalk)). AreCounted {V = V} count walks true es) (sym c.in_ok-growing.ensures) c.requires.pool in
    counted_alike count walks true a b (pool a m) (counted b n) e

pub merge-requires-clause-within : goal.merge-requires-clause-within
merge-requires-clause-within g c = λ a b m n e.
    let count = g.R.Staged.count_of c.args.resource.now in
    let walks = c.args.walks.now in
    let is = idle-alone c.new-labels.result.items c.push.new.self.items c.deref.result.now c.args.value c.empty_walk-walk.result c.new-labels.ensures.items c.in_ok-push.ensures.items c.deref.ensures.value in
    let counted = idle-counted walks c.args.value c.empty_walk-walk.result c.deref.result.now is c.empty_walk-walk.ensures.empty count c.empty_walk-walk.ensures.there c.requires.idle in
    counted_alike count walks true a b (counted a m) (counted b n) e

pub returns-clause-local : goal.returns-clause-local
returns-clause-local g c = λ candidates local.
    let V = g.row.R-Value.Denot in
    let walks = c.args.walks.now in
    let below = g.R.Resource.below in
    let is = idle-alone c.new-labels.result.items c.push.new.self.items c.deref.result.now c.args.value c.empty_walk-walk.result c.new-labels.ensures.items c.in_ok-push.ensures.items c.deref.ensures.value in
    let whole = idle-shown walks c.args.value c.empty_walk-walk.result c.deref.result.now is c.empty_walk-walk.ensures.empty in
    let before = subst (λ (es : List (V × LabelWalk)). IsPoolOf below candidates (map (shown {V = V} walks) es)) (sym c.in_ok-growing.ensures) local in
    let after = subst (λ (es : List (V × List ℕ)). IsPoolOf below (candidates ++ es) (map (shown {V = V} walks) c.merge.new.self)) whole (c.in_ok-merge.ensures.local candidates before) in
    subst (λ (es : List (V × LabelWalk)). IsPoolOf below (candidates ++ (c.args.value, []) ∷ []) (map (shown {V = V} walks) es)) (sym c.into_pool.ensures) after

pub returns-clause-counts : goal.returns-clause-counts
returns-clause-counts g c =
    let V = g.row.R-Value.Denot in
    let count = g.R.Staged.count_of c.args.resource.now in
    let walks = c.args.walks.now in
    let is = idle-alone c.new-labels.result.items c.push.new.self.items c.deref.result.now c.args.value c.empty_walk-walk.result c.new-labels.ensures.items c.in_ok-push.ensures.items c.deref.ensures.value in
    let counted = idle-counted walks c.args.value c.empty_walk-walk.result c.deref.result.now is c.empty_walk-walk.ensures.empty count c.empty_walk-walk.ensures.there c.requires.idle in
    let pool = subst (λ (es : List (V × LabelWalk)). AreCounted {V = V} count walks true es) (sym c.in_ok-growing.ensures) c.requires.pool in
    let after : AreCounted {V = V} count walks true c.merge.new.self = λ l m. ⊎_elim {C = IsCounted count walks true l} (pool l) (counted l) (c.merge.ensures.from l m) in
    subst (λ (es : List (V × LabelWalk)). AreCounted {V = V} count walks true es) (sym c.into_pool.ensures) after
