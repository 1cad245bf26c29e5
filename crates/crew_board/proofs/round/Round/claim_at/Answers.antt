use Rattle.std.proofs.Common.{sym, subst}
use Rattle.crew_board.proofs.Inside.{marked_of, shown_of}
use Rattle.crew_board.proofs.Keeping.{held-with}
use Rattle.crew_board.specs.Machinery.Held.{IsHeld, Marked}
use Rattle.crew_board.specs.Machinery.Turns.{with_marks}
use Rattle.crew_round.specs.Marks.{IsReady, Marks}
use Rattle.crew_round.specs.declared.mark.Mark.TheVariants.{Out, Waiting}
use Rattle.crew_board.proofs.round.Round.claim_at.Goals as goal

pub invariant_of-self : goal.invariant_of-self
invariant_of-self c =
    let r = marked_of c.self.inside in
    let h = c.self.invariant in
    let place = c.args.first in
    let ready = subst (λ (z : Marked). IsReady z.marks place) (sym c.self.view_is) c.requires.first.ready in
    let held = held-with r h.marked place Waiting Out ready.0 (λ e. (let q : ⊥ = (cc) in q)) (λ e. (let q : ⊥ = (cc) in q)) (shown_of c.self.inside) c.self.inside.swept.items h in
    subst (λ (m : Marks). IsHeld (with_marks r m) (shown_of c.self.inside) c.self.inside.swept.items) (sym c.claim.ensures) held
