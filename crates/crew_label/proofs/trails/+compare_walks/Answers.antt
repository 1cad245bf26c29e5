use Rattle.std.proofs.Common.{◌≡◌, ◌∷◌, [], ◌++◌, length, sym, ◌∙◌, ap, arith}
use Rattle.std.specs.Cmp.Lexicographic.{slice_cmp}
use Rattle.std.specs.Ordering.{nat_cmp, ordering_then}
use Rattle.crew_label.specs.Walks.{walk_of}
use Rattle.crew_label.proofs.WalkOrder.{cmp_longer, longer, alike}
use Rattle.crew_label.proofs.trails.+compare_walks.Goals as goal

pub returns-then-is_same_link : goal.returns-then-is_same_link
returns-then-is_same_link g t c =
    let trail = g.T.Trails.trail c.args.trails.now in
    alike (walk_of trail c.args.a) (walk_of trail c.args.b) (ap (walk_of trail) c.in-Some-Some.is-0 ∙ (ap trail (c.is_same_link.ensures.0 c.if-is_same_link.true) ∙ sym (ap (walk_of trail) c.in-Some-Some.is-1)))

pub returns : goal.returns
returns g t c =
    let trail = g.T.Trails.trail c.args.trails.now in
    let x = g.T.Trails.rank c.args.trails.now c.in-Some-Some.x.duty in
    let y = g.T.Trails.rank c.args.trails.now c.in-Some-Some.y.duty in
    let p = walk_of trail c.before-2.result in
    let q = walk_of trail c.before-3.result in
    let one = ap (walk_of trail) c.in-Some-Some.is-0 ∙ c.before-2.ensures.walk in
    let two = ap (walk_of trail) c.in-Some-Some.is-1 ∙ c.before-3.ensures.walk in
    let long : length p ≡ length q = omega (arith, longer (walk_of trail c.args.a) p x one, longer (walk_of trail c.args.b) q y two, c.requires.long) in
    c.then.ensures
    ∙ (ap (λ o. ordering_then o c.cmp.result) c.compare_walks.ensures
    ∙ (ap (ordering_then (slice_cmp nat_cmp p q)) (c.cmp.ensures ∙ (ap (λ n. nat_cmp n c.rank-2.result) c.rank.ensures ∙ ap (nat_cmp x) c.rank-2.ensures))
    ∙ (sym (cmp_longer p q x y long)
    ∙ (ap (λ z. slice_cmp nat_cmp z (q ++ y ∷ [])) (sym one) ∙ ap (slice_cmp nat_cmp (walk_of trail c.args.a)) (sym two)))))
