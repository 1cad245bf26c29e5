use Rattle.std.proofs.Common.{fold, false, ap, ◌∙◌}
use Rattle.std.specs.Arc.{arc_value}
use Rattle.crew_publish.specs.declared.shown.Common.{Common}
use Rattle.crew_publish.proofs.Moves.{opens, common}
use Rattle.crew_publish.proofs.publisher.open.Goals as goal

pub publish_as-pen-requires : goal.publish_as-pen-requires
publish_as-pen-requires g c next is =
    let shown = c.args.pen.desk.shown.value in
    opens _ _ shown next c.requires.held (is ∙ ap (λ ops. fold (λ (s : Common) a. record { version = arc_value a; opening = false }) (common shown) ops) c.requires.idle)
