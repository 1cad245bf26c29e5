use Rattle.std.proofs.Common.{sym}
use Rattle.crew_resource.proofs.Members.{Member-get_or}
use Rattle.crew_label.proofs.Parted.{boarded-next}
use Rattle.crew_pass.proofs.boards.boarded.Goals as goal

pub board_label-requires : goal.board_label-requires
board_label-requires g c =
    c.requires c.index-labels-place.result (Member-get_or c.args.labels.now c.loop-place.place c.index-labels-place.result c.loop-place-test.true (sym c.index-labels-place.is))

pub loop-place-preserved : goal.loop-place-preserved
loop-place-preserved g c =
    boarded-next (λ (v : g.row.R-Value.Denot). g.R.Staged.boards c.args.resource.now v c.args.duty.now) c.args.number
    c.args.labels.now c.loop-place.front.items c.board_label.new.front.items c.loop-place.place c.index-labels-place.result c.loop-place-test.true c.index-labels-place.is c.loop-place.invariant c.in_ok-board_label.ensures
