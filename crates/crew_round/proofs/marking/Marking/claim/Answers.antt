use Rattle.std.proofs.Common.{Bool, List, arith, false, slice_set, subst, sym}
use Rattle.std.proofs.lemmas.Option.{slice_get_within}
use Rattle.crew_round.proofs.Marked.{claim-held, with_set}
use Rattle.crew_round.specs.Machinery.Held.{AreHeld}
use Rattle.crew_round.specs.Marks.{IsReady, IsReusable, Marks}
use Rattle.crew_round.specs.declared.mark.Mark.{Mark}
use Rattle.crew_round.specs.declared.mark.Mark.TheVariants.{Waiting}
use Rattle.crew_round.proofs.marking.Marking.claim.Goals as goal

pub set-requires-clause-place : goal.set-requires-clause-place
set-requires-clause-place c =
    let i = c.self.inside in
    slice_get_within i.cells c.args.place Waiting (subst (λ (z : Marks). IsReady z c.args.place) (sym c.self.view_is) c.requires.ready).0

pub set-requires-2 : goal.set-requires-2
set-requires-2 c =
    let i = c.self.inside in
    let low = slice_get_within i.cells c.args.place Waiting (subst (λ (z : Marks). IsReady z c.args.place) (sym c.self.view_is) c.requires.ready).0 in
    let a = c.self.invariant.marks.long in
    let b = c.self.invariant.ready_line.long_set in
    omega (arith, low, a, b)

pub set-requires-3 : goal.set-requires-3
set-requires-3 c =
    let i = c.self.inside in
    let low = slice_get_within i.cells c.args.place Waiting (subst (λ (z : Marks). IsReady z c.args.place) (sym c.self.view_is) c.requires.ready).0 in
    let a = c.self.invariant.marks.long in
    let b = c.self.invariant.reusable_line.long_set in
    omega (arith, low, a, b)

pub invariant_of-self : goal.invariant_of-self
invariant_of-self c =
    let i = c.self.inside in
    let m : Marks = record { net = i.net.value; carried = i.carried; marks = i.cells; same = i.same.items } in
    let held = claim-held m i.arrivals.items i.ready i.reusable c.self.invariant c.args.place (subst (λ (z : Marks). IsReady z c.args.place) (sym c.self.view_is) c.requires.ready) (λ r. c.requires.other (subst (λ (z : Marks). IsReusable z c.args.place) c.self.view_is r)) in
    subst (λ (z : List Bool). AreHeld (record { net = i.net.value; carried = i.carried; marks = c.set.new.self; same = i.same.items }) i.arrivals.items (with_set i.ready c.set-2.new.self) (with_set i.reusable z)) (sym c.set-3.ensures)
    (subst (λ (z : List Bool). AreHeld (record { net = i.net.value; carried = i.carried; marks = c.set.new.self; same = i.same.items }) i.arrivals.items (with_set i.ready z) (with_set i.reusable (slice_set i.reusable.set c.args.place false))) (sym c.set-2.ensures)
    (subst (λ (z : List Mark). AreHeld (record { net = i.net.value; carried = i.carried; marks = z; same = i.same.items }) i.arrivals.items (with_set i.ready (slice_set i.ready.set c.args.place false)) (with_set i.reusable (slice_set i.reusable.set c.args.place false))) (sym c.set.ensures) held))
