use Rattle.std.proofs.Common.{◌≡◌, length, ap, arith}
use Rattle.crew_pool.specs.Machinery.ArenaLinks.{all_walks}
use Rattle.crew_pool.proofs.ArenaLemmas.{length-all_walks}
use Rattle.crew_pool.proofs.arena.Walks.count.Goals as goal

pub returns : goal.returns
returns c =
    let links = c.self.inside.links in
    let long : length (all_walks links) ≡ length c.args.self.now = ap length c.self.view_is in
    let n = length-all_walks links in
    omega (arith, long, n)
