use Rattle.std.proofs.Common.{◌∙◌, ap, subst, sym}
use Rattle.crew_pool.specs.Machinery.ArenaLinks.{AreLinked, all_walks}
use Rattle.crew_pool.specs.Renumbered.{walks_under}
use Rattle.crew_pool.proofs.LinkLemmas.{AreLinked-under, all_walks-under}
use Rattle.crew_pool.proofs.arena.Walks.under.Goals as goal

pub invariant_of-result : goal.invariant_of-result
invariant_of-result c =
    let T = c.args.twins.now in
    subst (AreLinked 0) (sym c.in_ok-links.ensures) (AreLinked-under T 0 c.self.inside.links c.self.invariant)

pub returns : goal.returns
returns c =
    let T = c.args.twins.now in
    ap all_walks c.in_ok-links.ensures ∙ (all_walks-under T c.self.inside.links ∙ ap (walks_under T) c.self.view_is)
