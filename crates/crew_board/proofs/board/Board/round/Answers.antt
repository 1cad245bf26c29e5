use Rattle.std.proofs.Common.{◌∙◌, sym, ap}
use Rattle.std.specs.Option.{option_map}
use Rattle.crew_board.specs.Boards.{ShownBoard}
use Rattle.crew_board.specs.Machinery.Settled.{shown_marked}
use Rattle.crew_job.specs.Grounds.{Ground}
use Rattle.crew_board.proofs.board.Board.round.Goals as goal

pub returns-in-Some : goal.returns-in-Some
returns-in-Some c =
    let m = c.in-Some.round in
    (shown_marked m, sym (ap (λ (z : ShownBoard). z.round) c.self.view_is) ∙ ap (option_map shown_marked) c.in-Some.is, ap (λ (g : Ground). g.entries) (sym c.ground.ensures))
