use Rattle.std.proofs.Common.{◌≡◌, ◌<◌, ◌++◌, ◌∷◌, [], length, ap, arith, subst, ◌∙◌}
use Rattle.crew_pool.specs.Arena.{walk_at}
use Rattle.crew_pool.specs.Machinery.ArenaLinks.{all_walks}
use Rattle.crew_pool.specs.declared.links.Link.{Link}
use Rattle.crew_pool.proofs.ArenaLemmas.{first_walk, length-all_walks, walk_of_seen}
use Rattle.crew_pool.proofs.arena.Walks.last.Goals as goal

pub returns-then-place-eq0-clause-none : goal.returns-then-place-eq0-clause-none
returns-then-place-eq0-clause-none c =
    λ _. ap (walk_at c.args.self.now) c.if-place-eq0.true ∙ subst (λ ws. walk_at ws 0 ≡ []) c.self.view_is (first_walk c.self.inside.links)

pub at-link-requires : goal.at-link-requires
at-link-requires c =
    let links = c.self.inside.links in
    let long : length (all_walks links) ≡ length c.args.self.now = ap length c.self.view_is in
    let n = length-all_walks links in
    omega (arith, long, n, c.requires)

pub returns-clause-some : goal.returns-clause-some
returns-clause-some c =
    let links = c.self.inside.links in
    let long : length (all_walks links) ≡ length c.args.self.now = ap length c.self.view_is in
    let x = c.args.place in
    let l : Link = c.at-link.result in
    let k = walk_of_seen links x l c.self.invariant (omega (arith, c.if-place-eq0.false)) (omega (arith, long, c.requires)) c.at-link.ensures in
    subst (λ ws. (l.before < x) × (walk_at ws x ≡ walk_at ws l.before ++ l.duty ∷ [])) c.self.view_is k
