use Rattle.std.proofs.Common.{◌≡◌, ◌∙◌, refl, sym, subst}
use Rattle.crew_board.proofs.Inside.{marked_of, shown_of}
use Rattle.crew_board.proofs.Keeping.{held-with}
use Rattle.crew_board.specs.Machinery.Held.{IsHeld, Marked}
use Rattle.crew_board.specs.Machinery.Turns.{with_marks}
use Rattle.crew_round.specs.Marks.{IsMarked, Marks}
use Rattle.crew_round.specs.declared.mark.Mark.TheVariants.{Out, Waiting}
use Rattle.crew_board.proofs.round.Round.take_back.Goals as goal

pub returns-in_default : goal.returns-in_default
returns-in_default c = record { turn = (λ place own out. c.in_default.ensures.own place own, refl); ground = c.own_place.ensures.ground }

pub returns-then-not-out : goal.returns-then-not-out
returns-then-not-out c =
    let r = marked_of c.self.inside in
    let job = c.args.job.now in
    let here = c.in-Some.place in
    record {
      turn = (
        λ place own out. (
            let one : here ≡ place = c.in-Some.ensures.once place own in
            let marked : IsMarked r.marks here Out = subst (λ k. IsMarked r.marks k Out) (sym one) (subst (λ (z : Marked). IsMarked z.marks place Out) (sym c.self.view_is) out) in
            let on = c.is_out-out.ensures.1 (c.mark.ensures ∙ marked) in
            let off = c.if-not-out.true in
            let clash = sym off ∙ on in
            let q : ⊥ = (cc) in q),
        refl,
      );
      ground = c.own_place.ensures.ground;
    }

pub invariant_of-self : goal.invariant_of-self
invariant_of-self c =
    let r = marked_of c.self.inside in
    let h = c.self.invariant in
    let place = c.in-Some.place in
    let at = sym c.mark.ensures ∙ c.is_out-out.ensures.0 c.if-not-out.false in
    let held = held-with r h.marked place Out Waiting at (λ e. (let q : ⊥ = (cc) in q)) (λ e. (let q : ⊥ = (cc) in q)) (shown_of c.self.inside) c.self.inside.swept.items h in
    subst (λ (m : Marks). IsHeld (with_marks r m) (shown_of c.self.inside) c.self.inside.swept.items) (sym c.free.ensures) held
