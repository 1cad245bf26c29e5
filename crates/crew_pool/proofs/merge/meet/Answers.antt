use Rattle.std.proofs.Common.{ℕ, cond, not, List, [], ◌∷◌, ◌++◌, map, ap, arith, sym, ◌∙◌, subst, append-nil}
use Rattle.std.specs.List.Sorted.{IsPermutation}
use Rattle.std.proofs.lemmas.List.Quantifiers.{position-Some}
use Rattle.std.proofs.lemmas.List.Sorted.{IsPermutation-map, IsPermutation-sym}
use Rattle.crew_pool.specs.Machinery.Meets.{vectors_of}
use Rattle.crew_pool.specs.LabelWalks.{IsPoolOf, shown}
use Rattle.crew_pool.specs.declared.label_walk.LabelWalk.{LabelWalk}
use Rattle.crew_pool.proofs.MergeLemmas.{found_lower, free_none, free_some}
use Rattle.crew_pool.proofs.Permuted.{IsPoolOf-permuted, Member-permuted}
use Rattle.crew_pool.proofs.merge.meet.Goals as goal

pub returns-in_default-clause-room : goal.returns-in_default-clause-room
returns-in_default-clause-room g c =
    let below = g.R.Resource.below in
    let l = c.args.label.now in
    let none = sym c.first_at_most.ensures ∙ c.in_default.is in
    let free = free_none below c.args.labels.now l none in
    c.in_ok-push.ensures.ok
    ∙ (ap (λ v. c.args.room.now ++ (v, l.1) ∷ []) c.in_ok-copy.ensures
    ∙ ap (λ b. c.args.room.now ++ cond b (l ∷ []) []) (sym free))

pub returns-in_default-clause-local : goal.returns-in_default-clause-local
returns-in_default-clause-local g c cs i =
    let below = g.R.Resource.below in
    let l = c.args.label.now in
    let ws = c.args.walks.now in
    let none = sym c.first_at_most.ensures ∙ c.in_default.is in
    let free = free_none below c.args.labels.now l none in
    subst (λ (es : List (g.row.R-Value.Denot × List ℕ)). IsPoolOf below es (map (shown ws) c.args.labels.now))
    (sym (append-nil cs) ∙ ap (λ b. cs ++ map (shown ws) (cond (not b) (l ∷ []) [])) (sym free)) i

pub yield_to-requires-clause-place : goal.yield_to-requires-clause-place
yield_to-requires-clause-place g c =
    let below = g.R.Resource.below in
    let l = c.args.label.now in
    let items = c.args.labels.now in
    let some = sym c.first_at_most.ensures ∙ c.in-Some.is in
    let k = position-Some (λ e. below e.0 l.0) items c.in-Some.place l some in
    k.0

pub yield_to-requires-clause-lower : goal.yield_to-requires-clause-lower
yield_to-requires-clause-lower g c held e =
    let below = g.R.Resource.below in
    let l = c.args.label.now in
    let items = c.args.labels.now in
    let some = sym c.first_at_most.ensures ∙ c.in-Some.is in
    found_lower below items l c.in-Some.place some held e

pub drift-requires : goal.drift-requires
drift-requires g c =
    let below = g.R.Resource.below in
    let l = c.args.label.now in
    let items = c.args.labels.now in
    let some = sym c.first_at_most.ensures ∙ c.in-Some.is in
    let k = position-Some (λ e. below e.0 l.0) items c.in-Some.place l some in
    omega (arith, k.0, c.yield_to.ensures.long)

pub returns-clause-vectors : goal.returns-clause-vectors
returns-clause-vectors g c =
    subst (λ (vs : List (g.row.R-Value.Denot)). IsPermutation vs (vectors_of c.drift.new.labels)) c.yield_to.ensures.vectors
    (IsPermutation-map (λ (x : g.row.R-Value.Denot × LabelWalk). x.0) c.yield_to.new.labels c.drift.new.labels c.drift.ensures)

pub returns-clause-from : goal.returns-clause-from
returns-clause-from g c a m =
    c.yield_to.ensures.from a (Member-permuted c.drift.new.labels c.yield_to.new.labels (IsPermutation-sym c.yield_to.new.labels c.drift.new.labels c.drift.ensures) a m)

pub returns-clause-room : goal.returns-clause-room
returns-clause-room g c =
    let below = g.R.Resource.below in
    let l = c.args.label.now in
    let items = c.args.labels.now in
    let some = sym c.first_at_most.ensures ∙ c.in-Some.is in
    let free = free_some below items l c.in-Some.place some in
    sym (append-nil c.args.room.now) ∙ ap (λ b. c.args.room.now ++ cond b (l ∷ []) []) (sym free)

pub returns-clause-local : goal.returns-clause-local
returns-clause-local g c cs i =
    let below = g.R.Resource.below in
    let l = c.args.label.now in
    let items = c.args.labels.now in
    let some = sym c.first_at_most.ensures ∙ c.in-Some.is in
    let ws = c.args.walks.now in
    let free = free_some below items l c.in-Some.place some in
    subst (λ (es : List (g.row.R-Value.Denot × List ℕ)). IsPoolOf below es (map (shown ws) c.drift.new.labels))
    (ap (λ b. cs ++ map (shown ws) (cond (not b) (l ∷ []) [])) (sym free))
    (IsPoolOf-permuted below ws (cs ++ shown ws l ∷ []) c.yield_to.new.labels c.drift.new.labels c.drift.ensures (c.yield_to.ensures.local cs i))
