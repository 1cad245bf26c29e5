use Rattle.std.proofs.Common.{◌≡◌, pos, ◌+ℤ◌, ◌∙◌, sym, ap, subst, arith, rules}
use Rattle.std.specs.Prelude.{FitsSigned}
use Rattle.std.specs.Int.{w64}
use Rattle.std.specs.Option.{option_map}
use Rattle.std.proofs.lemmas.Int.{ints}
use Rattle.crew_pairing.specs.Events.{arrival_of, departure_of}
use Rattle.crew_vector.specs.Machinery.Numbers.{named, numbers_of}
use Rattle.crew_vector.specs.Machinery.Sides.{aboard, waited}
use Rattle.crew_vector.specs.Machinery.VectorLaws.{can_board, can_wait, vector_staged}
use Rattle.crew_vector.proofs.resource.VectorResourceResource.extend.Goals as goal

pub wait-waited-requires : goal.wait-waited-requires
wait-waited-requires c =
    let r = c.args.self.now in
    let v = c.args.value.now in
    let e = c.args.last.now in
    let q = c.requires in
    subst (λ x. can_wait r (numbers_of v) x c.departure.result) (sym c.arrival.ensures)
    (subst (λ g. can_wait r (numbers_of v) (arrival_of e) g) (sym c.departure.ensures)
    ((q.0.0.0, (q.0.1.0.0, q.0.1.1.0)), ((q.1.0.0.0, q.1.0.1.0), (q.0.0.0.0, q.1.1.1.0))))

pub board-requires : goal.board-requires
board-requires c =
    let r = c.args.self.now in
    let v = c.args.value.now in
    let e = c.args.last.now in
    let d = c.args.next.now in
    let q = c.requires in
    let none : v.duties ≡ v.duties +ℤ pos 0 = omega (arith, ints) in
    let more = subst (λ z. FitsSigned w64 (z +ℤ pos 1)) none q.1.1.0 in
    let is : c.wait-waited.result ≡ named (waited r (numbers_of v) (arrival_of e) (departure_of d)) = search rules in
    subst (λ v. can_board r (numbers_of v) d) (sym is)
    ((q.0.0.1, (q.0.1.0.1, q.0.1.1.1)), ((q.1.0.0.1, q.1.0.1.1), ((q.0.0.1.0, more), q.1.1.1.1)))

pub returns : goal.returns
returns c =
    let r = c.args.self.now in
    let v = c.args.value.now in
    let e = c.args.last.now in
    let d = c.args.next.now in
    let is : c.wait-waited.result ≡ named (waited r (numbers_of v) (arrival_of e) (departure_of d)) = search rules in
    c.board.ensures ∙ (ap (λ v. option_map named (aboard r (numbers_of v) d)) is ∙ sym ((vector_staged r).extension v e d))
