use Rattle.std.proofs.Common.{◌≡◌, length, ap, arith, subst, []}
use Rattle.crew_pool.specs.Arena.{walk_at}
use Rattle.crew_pool.specs.Machinery.ArenaLinks.{all_walks}
use Rattle.crew_pool.proofs.ArenaLemmas.{first_walk, length-all_walks}
use Rattle.crew_pool.proofs.arena.Walks.empty_walk.Goals as goal

pub returns-clause-there : goal.returns-clause-there
returns-clause-there c =
    let links = c.self.inside.links in
    let long : length (all_walks links) ≡ length c.args.self.now = ap length c.self.view_is in
    let n = length-all_walks links in
    omega (arith, long, n)

pub returns-clause-empty : goal.returns-clause-empty
returns-clause-empty c = subst (λ ws. walk_at ws 0 ≡ []) c.self.view_is (first_walk c.self.inside.links)
