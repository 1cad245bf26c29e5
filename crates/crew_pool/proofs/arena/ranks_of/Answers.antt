use Rattle.std.proofs.Common.{List, ℕ, [], ◌∷◌, ◌++◌, arith, sym, ◌∙◌, ap}
use Rattle.std.specs.Prelude.{reverse}
use Rattle.std.proofs.lemmas.List.{reverse-append}
use Rattle.crew_pool.specs.Arena.{walk_at}
use Rattle.crew_pool.specs.Machinery.ArenaLinks.{all_walks}
use Rattle.crew_pool.proofs.ArenaLemmas.{first_walk, length-all_walks, one_more, walk_of_seen}
use Rattle.crew_pool.proofs.LabelWalkLemmas.{reverse-duty}
use Rattle.crew_pool.proofs.arena.ranks_of.Goals as goal

pub loop-place-init : goal.loop-place-init
loop-place-init c =
    (c.requires.walk, ap (λ (xs : List ℕ). walk_at (all_walks c.args.links.now) c.args.label.walk ++ xs) (sym (reverse-duty c.args.label.duty) ∙ ap reverse (sym c.in_ok-ranks.ensures)))

pub at-link-requires : goal.at-link-requires
at-link-requires c =
    let i = c.loop-place.invariant in
    let n = length-all_walks c.args.links.now in
    omega (arith, i.0)

pub loop-place-smaller : goal.loop-place-smaller
loop-place-smaller c =
    (walk_of_seen c.args.links.now c.loop-place.place c.at-link.result c.requires.linked (omega arith) c.loop-place.invariant.0 c.at-link.ensures).0

pub loop-place-preserved : goal.loop-place-preserved
loop-place-preserved c =
    let i = c.loop-place.invariant in
    let ls = c.args.links.now in
    let ws = all_walks ls in
    let k = walk_of_seen ls c.loop-place.place c.at-link.result c.requires.linked (omega arith) i.0 c.at-link.ensures in
    let p = c.at-link.result in (
      omega (arith, k.0, i.0),
      one_more (walk_at ws c.loop-place.place) (walk_at ws p.before) (reverse c.loop-place.ranks.items) _ p.duty i.1 k.1
          ∙ ap (λ (xs : List ℕ). walk_at ws p.before ++ xs) (sym (ap reverse c.in_ok-push.ensures.items ∙ reverse-append c.loop-place.ranks.items (p.duty ∷ []))),
    )

pub returns : goal.returns
returns c =
    let i = c.loop-place.invariant in
    c.reverse.ensures.items ∙ sym (i.1 ∙ ap (λ (xs : List ℕ). xs ++ reverse c.loop-place.ranks.items) (ap (walk_at (all_walks c.args.links.now)) c.loop-place-test.false ∙ first_walk c.args.links.now))
