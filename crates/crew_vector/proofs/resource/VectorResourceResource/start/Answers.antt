use Rattle.std.proofs.Common.{pos, ◌+ℤ◌, ◌∙◌, sym, ap, subst, arith}
use Rattle.std.specs.Prelude.{FitsSigned}
use Rattle.std.specs.Int.{w64}
use Rattle.std.specs.Option.{option_map}
use Rattle.std.proofs.lemmas.Int.{ints}
use Rattle.crew_vector.specs.Machinery.Numbers.{named, numbers_of}
use Rattle.crew_vector.specs.Machinery.Sides.{aboard}
use Rattle.crew_vector.specs.Machinery.VectorLaws.{can_board}
use Rattle.crew_vector.proofs.resource.VectorResourceResource.start.Goals as goal

pub board-requires : goal.board-requires
board-requires c =
    let r = c.args.self.now in
    let d = c.args.duty.now in
    let q = c.requires in
    let one : FitsSigned w64 (pos 0 +ℤ pos 1) = grind (arith, ints) in
    subst (λ v. can_board r (numbers_of v) d) (sym c.idle-empty.ensures)
    ((q.0.0.1, (q.0.1.0.1, q.0.1.1.1)), ((q.1.0.0.1, q.1.0.1.1), ((q.0.0.1.0, one), q.1.1.1.1)))

pub returns : goal.returns
returns c =
    let r = c.args.self.now in
    let d = c.args.duty.now in
    c.board.ensures ∙ ap (λ v. option_map named (aboard r (numbers_of v) d)) c.idle-empty.ensures
