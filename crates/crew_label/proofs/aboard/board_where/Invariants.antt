use Rattle.std.proofs.Common.{◌≡◌, take}
use Rattle.crew_label.specs.Boarding.{boarded_from}
use Rattle.crew_label.specs.Machinery.Runs.{boards_where}
use Rattle.crew_label.proofs.aboard.board_where.Given as goal

abbrev pub invariant-loop-place : goal.invariant-loop-place
invariant-loop-place g l =
    l.view.items ≡ boarded_from (boards_where l.lapsing (λ v. g.R.Lapses.lapses l.resource v l.item) (λ v. g.R.Staged.boards l.resource v l.item)) l.duty 0 (take l.place l.labels)
