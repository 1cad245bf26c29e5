use Rattle.std.proofs.Common.{sym, subst}
use Rattle.crew_board.proofs.Answered.{told-of-err}
use Rattle.crew_board.proofs.Inside.{marked_of, shown_of}
use Rattle.crew_board.proofs.Keeping.{held-with}
use Rattle.crew_board.specs.Machinery.Held.{IsHeld, Marked}
use Rattle.crew_board.specs.Machinery.Turns.{with_marks}
use Rattle.crew_round.specs.Marks.{IsReady, Marks}
use Rattle.crew_round.specs.declared.mark.Mark.TheVariants.{Out, Waiting}
use Rattle.crew_board.proofs.round.Round.claim.Goals as goal

pub invariant_of-self : goal.invariant_of-self
invariant_of-self c =
    let r = marked_of c.self.inside in
    let h = c.self.invariant in
    let place = c.in-Some.place in
    let held = held-with r h.marked place Waiting Out c.in-Some.ensures.ready.0 (λ e. (let q : ⊥ = (cc) in q)) (λ e. (let q : ⊥ = (cc) in q)) (shown_of c.self.inside) c.self.inside.swept.items h in
    subst (λ (m : Marks). IsHeld (with_marks r m) (shown_of c.self.inside) c.self.inside.swept.items) (sym c.claim.ensures) held

pub returns-in_err-job-clause-some : goal.returns-in_err-job-clause-some
returns-in_err-job-clause-some c =
    let place = c.in-Some.place in
    let ready = subst (λ (z : Marked). IsReady z.marks place) c.self.view_is c.in-Some.ensures.ready in
    told-of-err c.from_residual.result (place, ready)
