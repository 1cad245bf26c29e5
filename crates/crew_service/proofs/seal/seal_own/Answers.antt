use Rattle.std.proofs.Common.{subst}
use Rattle.std.specs.Arc.{arc_value}
use Rattle.crew_service.proofs.Seals.{sealed-of}
use Rattle.crew_board.specs.crew_version.Versions.{IsRight}
use Rattle.crew_service.proofs.seal.seal_own.Goals as goal

pub returns-in-Ok-clause-sealed : goal.returns-in-Ok-clause-sealed
returns-in-Ok-clause-sealed c =
    let stands = c.sealed-stands.ensures.stands in
    let right : IsRight (arc_value c.in-Ok.sealed) = subst IsRight c.deref.ensures c.number-right.ensures.right in
    sealed-of c.args.board.now c.seal.new.self stands.0 (arc_value c.in-Ok.sealed) stands.1 (c.in-Ok.ensures.ok stands.0 stands.1) right
