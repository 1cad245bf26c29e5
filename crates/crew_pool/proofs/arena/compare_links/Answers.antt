use Rattle.std.proofs.Common.{[], ◌∷◌, ◌++◌, arith, refl, sym, ◌∙◌, ap, append-nil}
use Rattle.std.specs.Cmp.Lexicographic.{slice_cmp}
use Rattle.std.specs.Ordering.{nat_cmp, ordering_then}
use Rattle.crew_pool.specs.Arena.{walk_at}
use Rattle.crew_pool.specs.Machinery.ArenaLinks.{all_walks}
use Rattle.crew_pool.specs.declared.links.Link.{Link}
use Rattle.crew_pool.proofs.ArenaLemmas.{length-all_walks, walk_of_seen, not_first, cmp_after, one_more, shorter}
use Rattle.crew_pool.proofs.arena.compare_links.Goals as goal

pub loop-x-init : goal.loop-x-init
loop-x-init c = (
  c.requires.a,
  c.requires.b,
  c.requires.same,
  ([], [], sym (append-nil (walk_at (all_walks c.args.links.now) c.args.a)), sym (append-nil (walk_at (all_walks c.args.links.now) c.args.b)), refl, refl),
)

pub overflow_sub-x : goal.overflow_sub-x
overflow_sub-x c =
    let i = c.loop-x.invariant in
    not_first c.args.links.now c.loop-x.x c.loop-x.y (record { before = 0; duty = 0 }) c.requires.linked i.1 i.2 c.loop-x-test.true

pub at-p-requires : goal.at-p-requires
at-p-requires c =
    let i = c.loop-x.invariant in
    let one = not_first c.args.links.now c.loop-x.x c.loop-x.y (record { before = 0; duty = 0 }) c.requires.linked i.1 i.2 c.loop-x-test.true in
    let n = length-all_walks c.args.links.now in
    omega (arith, i.0)

pub overflow_sub-y : goal.overflow_sub-y
overflow_sub-y c =
    let i = c.loop-x.invariant in
    not_first c.args.links.now c.loop-x.y c.loop-x.x (record { before = 0; duty = 0 }) c.requires.linked i.0 (sym i.2) (λ e. c.loop-x-test.true (sym e))

pub at-q-requires : goal.at-q-requires
at-q-requires c =
    let i = c.loop-x.invariant in
    let one = not_first c.args.links.now c.loop-x.y c.loop-x.x (record { before = 0; duty = 0 }) c.requires.linked i.0 (sym i.2) (λ e. c.loop-x-test.true (sym e)) in
    let n = length-all_walks c.args.links.now in
    omega (arith, i.1)

pub loop-x-smaller : goal.loop-x-smaller
loop-x-smaller c =
    let i = c.loop-x.invariant in
    let d : Link = record { before = 0; duty = 0 } in
    let one = not_first c.args.links.now c.loop-x.x c.loop-x.y d c.requires.linked i.1 i.2 c.loop-x-test.true in
    (walk_of_seen c.args.links.now c.loop-x.x c.at-p.result c.requires.linked one i.0 c.at-p.ensures).0

pub loop-x-preserved : goal.loop-x-preserved
loop-x-preserved c =
    let i = c.loop-x.invariant in
    let d : Link = record { before = 0; duty = 0 } in
    let ls = c.args.links.now in
    let ws = all_walks ls in
    let px = walk_of_seen ls c.loop-x.x c.at-p.result c.requires.linked (not_first ls c.loop-x.x c.loop-x.y d c.requires.linked i.1 i.2 c.loop-x-test.true) i.0 c.at-p.ensures in
    let qy = walk_of_seen ls c.loop-x.y c.at-q.result c.requires.linked (not_first ls c.loop-x.y c.loop-x.x d c.requires.linked i.0 (sym i.2) (λ e. c.loop-x-test.true (sym e))) i.1 c.at-q.ensures in
    let p = c.at-p.result in
    let q = c.at-q.result in
    let sx = shorter (walk_at ws c.loop-x.x) (walk_at ws p.before) p.duty px.1 in
    let sy = shorter (walk_at ws c.loop-x.y) (walk_at ws q.before) q.duty qy.1 in
    let s = i.3.0 in
    let t = i.3.1 in (
      omega (arith, px.0, i.0),
      omega (arith, qy.0, i.1),
      omega (arith, sx, sy, i.2),
      (
        p.duty ∷ s,
        q.duty ∷ t,
        one_more (walk_at ws c.loop-x.x) (walk_at ws p.before) s (walk_at ws c.args.a) p.duty i.3.2 px.1,
        one_more (walk_at ws c.loop-x.y) (walk_at ws q.before) t (walk_at ws c.args.b) q.duty i.3.3 qy.1,
        omega (arith, i.3.4),
        c.then-order.ensures ∙ (ap (λ o. ordering_then o c.loop-x.order) c.cmp.ensures ∙ ap (λ o. ordering_then (nat_cmp p.duty q.duty) o) i.3.5),
      ),
    )

pub returns : goal.returns
returns c =
    let i = c.loop-x.invariant in
    let ws = all_walks c.args.links.now in
    let s = i.3.0 in
    let t = i.3.1 in
    i.3.5
    ∙ (sym (cmp_after (walk_at ws c.loop-x.x) s t)
    ∙ (ap (λ z. slice_cmp nat_cmp z (walk_at ws c.loop-x.x ++ t)) (sym i.3.2)
    ∙ ap (λ z. slice_cmp nat_cmp (walk_at ws c.args.a) z) (ap (λ y. walk_at ws y ++ t) c.loop-x-test.false ∙ sym i.3.3)))
