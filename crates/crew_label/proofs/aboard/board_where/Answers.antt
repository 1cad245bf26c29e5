use Rattle.std.proofs.Common.{sym}
use Rattle.crew_resource.proofs.Members.{Member-get_or}
use Rattle.crew_label.specs.Machinery.Runs.{boards_where}
use Rattle.crew_label.proofs.Parted.{boarded-next}
use Rattle.crew_label.proofs.aboard.board_where.Goals as goal

pub board_label_where-requires-clause-boards : goal.board_label_where-requires-clause-boards
board_label_where-requires-clause-boards g c =
    c.requires.boards c.index-labels-place.result (Member-get_or c.args.labels.now c.loop-place.place c.index-labels-place.result c.loop-place-test.true (sym c.index-labels-place.is))

pub loop-place-preserved : goal.loop-place-preserved
loop-place-preserved g c =
    let r = c.args.resource.now in
    boarded-next (boards_where c.args.lapsing (λ (v : g.row.R-Value.Denot). g.R.Lapses.lapses r v c.args.item.now) (λ (v : g.row.R-Value.Denot). g.R.Staged.boards r v c.args.item.now)) c.args.duty
    c.args.labels.now c.loop-place.view.items c.board_label_where.new.view.items c.loop-place.place c.index-labels-place.result c.loop-place-test.true c.index-labels-place.is c.loop-place.invariant c.in_ok-board_label_where.ensures
