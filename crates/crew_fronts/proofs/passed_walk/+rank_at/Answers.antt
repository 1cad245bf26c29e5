use Rattle.std.proofs.Common.{◌≡◌, ◌++◌, ◌∷◌, [], ℕ, List, Some, length, sym, ◌∙◌, ap, arith}
use Rattle.std.specs.Prelude.{slice_get}
use Rattle.crew_label.specs.Walks.{walk_of}
use Rattle.crew_fronts.proofs.Places.{at-end, before-end, one-more}
use Rattle.crew_fronts.proofs.passed_walk.+rank_at.Goals as goal

pub overflow_sub-count : goal.overflow_sub-count
overflow_sub-count g t c =
    let trail = g.T.Trails.trail c.args.trails.now in
    let whole = ap (walk_of trail) c.in_ok-last.was ∙ c.before-before.ensures.walk in
    let long = one-more (walk_of trail c.before-before.result) (walk_of trail c.args.link) (g.T.Trails.rank c.args.trails.now c.in_ok-last.last.duty) whole in
    let count = c.requires.count in
    omega (arith, long, count)

pub returns-then-place-count : goal.returns-then-place-count
returns-then-place-count g t c =
    let trail = g.T.Trails.trail c.args.trails.now in
    let d = g.T.Trails.rank c.args.trails.now c.in_ok-last.last.duty in
    let rest = walk_of trail c.before-before.result in
    let whole = ap (walk_of trail) c.in_ok-last.was ∙ c.before-before.ensures.walk in
    let long = one-more rest (walk_of trail c.args.link) d whole in
    let count = c.requires.count in
    let here = c.if-place-count.true in
    let at : length rest ≡ c.args.place = omega (arith, long, count, here) in
    ap (λ k. Some k) c.rank.ensures ∙ (sym (at-end rest d) ∙ (ap (slice_get (rest ++ d ∷ [])) at ∙ ap (λ (l : List ℕ). slice_get l c.args.place) (sym whole)))

pub returns-else-place-count : goal.returns-else-place-count
returns-else-place-count g t c =
    let trail = g.T.Trails.trail c.args.trails.now in
    let d = g.T.Trails.rank c.args.trails.now c.in_ok-last.last.duty in
    let rest = walk_of trail c.before-before.result in
    let whole = ap (walk_of trail) c.in_ok-last.was ∙ c.before-before.ensures.walk in
    let long = one-more rest (walk_of trail c.args.link) d whole in
    let count = c.requires.count in
    let away : (c.args.place ≡ length rest → ⊥) = λ e. c.if-place-count.false (omega (arith, e, long, count)) in
    c.rank_at.ensures ∙ (sym (before-end rest d c.args.place away) ∙ ap (λ (l : List ℕ). slice_get l c.args.place) (sym whole))
