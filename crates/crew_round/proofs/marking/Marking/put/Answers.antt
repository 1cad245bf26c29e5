use Rattle.std.proofs.Common.{ap, subst, sym, true, ℕ, ◌∙◌}
use Rattle.crew_net.specs.Nets.{Net}
use Rattle.crew_round.proofs.Lined.{line-shaped}
use Rattle.crew_round.proofs.Marked.{Passes, flagged-done, flagged-same, put-passed}
use Rattle.crew_round.specs.Machinery.Held.{done_flag, same_flag}
use Rattle.crew_round.specs.Machinery.Lines.{AreCounted, IsShaped}
use Rattle.crew_round.specs.Marks.{AreDoneBefore, IsUndone, Marks}
use Rattle.crew_round.proofs.marking.Marking.put.Goals as goal

pub pass-requires-clause-shape : goal.pass-requires-clause-shape
pass-requires-clause-shape c =
    let i = c.self.inside in
    subst (λ (n : Net). IsShaped n i.ready) (sym c.deref-net.ensures) (line-shaped i.net.value i.carried i.cells (done_flag i.cells) i.ready c.self.invariant.ready_line)

pub pass-requires-clause-counted : goal.pass-requires-clause-counted
pass-requires-clause-counted c =
    let i = c.self.inside in
    let m : Marks = record { net = i.net.value; carried = i.carried; marks = i.cells; same = i.same.items } in
    let undone = subst (λ (z : Marks). IsUndone z c.args.place) (sym c.self.view_is) c.requires.undone in
    let clear = subst (λ (z : Marks). AreDoneBefore z c.args.place) (sym c.self.view_is) c.requires.clear in
    let f = flagged-done m i.arrivals.items i.ready i.reusable c.self.invariant c.args.place c.args.same undone clear in (
      done_flag i.cells,
      subst (λ (n : Net). AreCounted n (done_flag i.cells) i.ready) (sym c.deref-net.ensures) c.self.invariant.ready_line.counted,
      ap (done_flag i.cells) c.spot_at-spot.ensures.place ∙ f.was,
    )

pub pass-requires-2-clause-shape : goal.pass-requires-2-clause-shape
pass-requires-2-clause-shape c =
    let i = c.self.inside in
    subst (λ (n : Net). IsShaped n i.reusable) (sym c.deref-net.ensures) (line-shaped i.net.value i.carried i.cells (same_flag i.same.items) i.reusable c.self.invariant.reusable_line)

pub pass-requires-2-clause-counted : goal.pass-requires-2-clause-counted
pass-requires-2-clause-counted c =
    let i = c.self.inside in
    let m : Marks = record { net = i.net.value; carried = i.carried; marks = i.cells; same = i.same.items } in
    let undone = subst (λ (z : Marks). IsUndone z c.args.place) (sym c.self.view_is) c.requires.undone in
    let clear = subst (λ (z : Marks). AreDoneBefore z c.args.place) (sym c.self.view_is) c.requires.clear in
    let f = flagged-same m i.arrivals.items i.ready i.reusable c.self.invariant c.args.place c.args.same undone clear in (
      same_flag i.same.items,
      subst (λ (n : Net). AreCounted n (same_flag i.same.items) i.reusable) (sym c.deref-net.ensures) c.self.invariant.reusable_line.counted,
      ap (same_flag i.same.items) c.spot_at-spot.ensures.place ∙ f.was,
    )

pub invariant_of-self : goal.invariant_of-self
invariant_of-self c =
    let i = c.self.inside in
    let m : Marks = record { net = i.net.value; carried = i.carried; marks = i.cells; same = i.same.items } in
    let undone = subst (λ (z : Marks). IsUndone z c.args.place) (sym c.self.view_is) c.requires.undone in
    let clear = subst (λ (z : Marks). AreDoneBefore z c.args.place) (sym c.self.view_is) c.requires.clear in
    put-passed m i.arrivals.items i.ready i.reusable c.self.invariant c.args.place c.args.same undone clear c.set.new.self c.pass.new.self c.pass-2.new.self c.set.ensures c.pass.ensures.any c.pass-2.ensures.any
    (subst (λ (p : ℕ). Passes i.net.value i.carried c.set.new.self i.ready c.pass.new.self p true) c.spot_at-spot.ensures.place (subst (λ (n : Net). Passes n i.carried c.set.new.self i.ready c.pass.new.self c.spot_at-spot.result.place true) c.deref-net.ensures c.pass.ensures.line))
    (subst (λ (p : ℕ). Passes i.net.value i.carried c.set.new.self i.reusable c.pass-2.new.self p c.args.same) c.spot_at-spot.ensures.place (subst (λ (n : Net). Passes n i.carried c.set.new.self i.reusable c.pass-2.new.self c.spot_at-spot.result.place c.args.same) c.deref-net.ensures c.pass-2.ensures.line))
