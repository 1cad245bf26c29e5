use Rattle.std.proofs.Common.{List, map, sym, ◌∙◌, ap, subst}
use Rattle.crew_resource.specs.Members.{Member}
use Rattle.crew_pool.specs.Apart.{AreApart}
use Rattle.crew_pool.specs.Counted.{boarded_labels}
use Rattle.crew_pool.specs.Machinery.Meets.{vectors_of}
use Rattle.crew_pool.specs.LabelWalks.{shown}
use Rattle.crew_pool.specs.declared.label_walk.LabelWalk.{LabelWalk}
use Rattle.crew_pool.proofs.BoardLemmas.{boarded_apart, is_rank, shown_boarded}
use Rattle.crew_pool.proofs.view.View.new.Goals as goal

pub invariant_of-result : goal.invariant_of-result
invariant_of-result g c =
    let below = g.R.Resource.below in
    let board = λ (v : g.row.R-Value.Denot). g.R.Staged.boards c.args.resource.now v c.args.item.now in
    let law = g.met.R.Staged.shifting c.args.resource.now c.requires.shift in (
      λ l m. c.requires.can l (subst (λ (ls : List (g.row.R-Value.Denot × LabelWalk)). Member ls l) c.as_slice.ensures.all m),
      subst (λ (ls : List (g.row.R-Value.Denot × LabelWalk)). AreApart below (vectors_of (boarded_labels board c.args.duty ls))) (sym c.as_slice.ensures.all)
          (boarded_apart below board c.args.duty (λ a b y z p q t. law.board_reflects a b y z c.args.item.now p q t) c.args.pool.now c.as_slice.ensures.apart),
    )

pub returns-clause-entries : goal.returns-clause-entries
returns-clause-entries g c ws =
    let board = λ (v : g.row.R-Value.Denot). g.R.Staged.boards c.args.resource.now v c.args.item.now in
    ap (λ (ls : List (g.row.R-Value.Denot × LabelWalk)). map (shown ws) (boarded_labels board c.args.duty ls)) c.as_slice.ensures.all
    ∙ shown_boarded ws board c.args.duty (is_rank c.args.duty c.requires.duty) c.args.pool.now c.requires.whole
