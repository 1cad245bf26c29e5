use Rattle.std.proofs.Common.{◌≡◌, ℕ, List, cond, length, sym, ◌∙◌, ap, arith}
use Rattle.std.specs.Prelude.{is_some}
use Rattle.std.proofs.lemmas.List.{take_all}
use Rattle.crew_pool.specs.Counted.{boarded_labels}
use Rattle.crew_pool.specs.declared.label_walk.LabelWalk.{LabelWalk}
use Rattle.crew_pool.proofs.BoardLemmas.{at_most_none, at_most_one, boarded_count_more, counted_none, counted_one}
use Rattle.crew_resource.proofs.Members.{Member-get_or}
use Rattle.crew_pool.proofs.view.count_boarding.Goals.{then-is_some, else-is_some}
use Rattle.crew_pool.proofs.view.count_boarding.Goals as goal

pub board-requires : goal.board-requires
board-requires g c =
    let l = c.label-item.result in
    c.requires l (Member-get_or c.args.labels.now c.loop-label.label-index l c.loop-label-test.true (sym c.label-item.is))

pub loop-label-preserved : goal.loop-label-preserved
loop-label-preserved g c =
    let board = λ (v : g.row.R-Value.Denot). g.R.Staged.boards c.args.resource.now v c.args.item.now in
    let i = c.loop-label.label-index in
    let l = c.label-item.result in
    let more = λ (duty : ℕ). boarded_count_more board duty c.args.labels.now i l c.loop-label-test.true c.label-item.is in
    let is : c.is_some.result ≡ is_some (board l.0) = c.is_some.ensures ∙ ap is_some c.board.ensures in
    let inv = c.loop-label.invariant in
    elim c.if-is_some.branch [
      | then-is_some w ↦
          let one : cond (is_some (board l.0)) 1 0 ≡ 1 = ap (λ b. cond b 1 0) (sym is ∙ w.if-is_some.true) in
          (λ duty. counted_one _ _ _ _ _ w.count-is (inv.0 duty) (more duty) one, at_most_one _ _ _ w.count-is inv.1)
      | else-is_some w ↦
          let none : cond (is_some (board l.0)) 1 0 ≡ 0 = ap (λ b. cond b 1 0) (sym is ∙ w.if-is_some.false) in
          (λ duty. counted_none _ _ _ _ _ w.count-is (inv.0 duty) (more duty) none, at_most_none _ _ _ w.count-is inv.1)
    ]

pub returns : goal.returns
returns g c duty =
    let board = λ (v : g.row.R-Value.Denot). g.R.Staged.boards c.args.resource.now v c.args.item.now in
    c.loop-label.invariant.0 duty ∙ ap (λ (ls : List (g.row.R-Value.Denot × LabelWalk)). length (boarded_labels board duty ls)) (take_all c.loop-label.label-index c.args.labels.now (omega arith))
