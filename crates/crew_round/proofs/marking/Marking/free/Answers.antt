use Rattle.std.proofs.Common.{Bool, List, true, slice_set, subst, sym}
use Rattle.crew_round.proofs.Marked.{free-held, with_set}
use Rattle.crew_round.specs.Machinery.Held.{AreHeld}
use Rattle.crew_round.specs.Marks.{IsMarked, Marks}
use Rattle.crew_round.specs.declared.mark.Mark.{Mark}
use Rattle.crew_round.specs.declared.mark.Mark.TheVariants.{Out}
use Rattle.crew_round.proofs.marking.Marking.free.Goals as goal

pub invariant_of-self : goal.invariant_of-self
invariant_of-self c =
    let i = c.self.inside in
    let m : Marks = record { net = i.net.value; carried = i.carried; marks = i.cells; same = i.same.items } in
    let held = free-held m i.arrivals.items i.ready i.reusable c.self.invariant c.args.place (subst (λ (z : Marks). IsMarked z c.args.place Out) (sym c.self.view_is) c.requires) in
    subst (λ (z : List Bool). AreHeld (record { net = i.net.value; carried = i.carried; marks = c.set.new.self; same = i.same.items }) i.arrivals.items (with_set i.ready z) i.reusable) (sym c.set-2.ensures)
    (subst (λ (z : List Mark). AreHeld (record { net = i.net.value; carried = i.carried; marks = z; same = i.same.items }) i.arrivals.items (with_set i.ready (slice_set i.ready.set c.args.place true)) i.reusable) (sym c.set.ensures) held)
