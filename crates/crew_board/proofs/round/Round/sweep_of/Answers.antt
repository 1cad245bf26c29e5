use Rattle.std.proofs.Common.{◌≡◌, Some, length, sym, ap, subst, arith}
use Rattle.std.specs.Arc.{arc_value}
use Rattle.crew_board.proofs.Nothing.{option-at, read-at, some-within}
use Rattle.crew_board.proofs.Inside.{marked_of, shown_of}
use Rattle.crew_board.proofs.Keeping.{swept-there}
use Rattle.crew_board.specs.Machinery.Held.{Marked}
use Rattle.crew_job.specs.crew_plan.Plans.{AreFrontsIn}
use Rattle.crew_board.proofs.round.Round.sweep_of.Goals as goal

pub returns-in_ok-try_clone-in-Some-index : goal.returns-in_ok-try_clone-in-Some-index
returns-in_ok-try_clone-in-Some-index c =
    let r = marked_of c.self.inside in
    let h = c.self.invariant in
    let base = c.args.base in
    let place = c.in-Some.place in
    let swept = c.self.inside.swept.items in
    let prices : length r.ground.plan.prices ≡ length c.args.self.now.ground.plan.prices = ap (λ (z : Marked). length z.ground.plan.prices) c.self.view_is in
    let low = c.requires in
    let many = h.long_swept in
    let noted = read-at swept base (Some place) c.index.result.now (omega (arith, low, many, prices)) c.index.ensures c.in-Some.is in
    let k = h.stand base place noted in
    let within = some-within (λ a. a.value) c.self.inside.shown.items place k.0 k.1 in
    let at = read-at c.self.inside.shown.items place (Some c.in-Some-index.sweep) c.index-2.result.now within c.index-2.ensures c.in-Some-index.is in
    let here = option-at (λ a. a.value) c.self.inside.shown.items place c.in-Some-index.sweep at in
    let swept-in = swept-there r (shown_of c.self.inside) swept h base place (arc_value c.in-Some-index.sweep) noted here in
    let own : AreFrontsIn r.ground.plan base (arc_value c.in_ok-try_clone-in-Some-index.field-0) = subst (AreFrontsIn r.ground.plan base) (sym c.in_ok-try_clone-in-Some-index.ensures) swept-in in
    subst (λ (z : Marked). AreFrontsIn z.ground.plan base (arc_value c.in_ok-try_clone-in-Some-index.field-0)) c.self.view_is own
