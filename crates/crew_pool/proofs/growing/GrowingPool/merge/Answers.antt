use Rattle.std.proofs.Common.{List, sym, subst}
use Rattle.crew_pool.specs.LabelWalks.{AreAlikeWhereSame}
use Rattle.crew_pool.specs.declared.label_walk.LabelWalk.{LabelWalk}
use Rattle.crew_pool.proofs.growing.GrowingPool.merge.Goals as goal

pub merge_labels-requires-clause-between : goal.merge_labels-requires-clause-between
merge_labels-requires-clause-between g c =
    subst (λ (xs : List (g.row.R-Value.Denot × LabelWalk)). AreAlikeWhereSame c.args.walks.now xs c.args.list.now) (sym c.self.view_is) c.requires.between
