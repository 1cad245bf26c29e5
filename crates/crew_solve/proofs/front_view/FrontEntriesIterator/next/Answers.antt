use Rattle.std.proofs.Common.{◌≡◌, ◌∙◌, List, [], Option, sym, subst, ap, length, arith}
use Rattle.std.specs.Iterator.{YieldsFirst}
use Rattle.crew_pairing.specs.Legs.{Leg}
use Rattle.crew_pairing.specs.declared.vector.PairingVector.{PairingVector}
use Rattle.crew_solve.proofs.Lent.{after-first, first-none}
use Rattle.crew_solve.specs.Machinery.Lent.{after}
use Rattle.crew_solve.proofs.front_view.FrontEntriesIterator.next.Goals as goal

pub returns-in_err-entry-clause-steps : goal.returns-in_err-entry-clause-steps
returns-in_err-entry-clause-steps c =
    let f = c.self.inside in
    let none : c.args.self.now ≡ [] = sym c.self.view_is ∙ first-none (after f.last f.front.now) (sym c.first_after.ensures.first ∙ c.in_err-entry.was) in
    subst (λ (r : Option (PairingVector × List (List Leg))). YieldsFirst (λ (s : List (PairingVector × List (List Leg))). s) c.args.self.now r c.args.self.now) (sym c.from_residual.ensures) (none, none)

pub returns-clause-steps : goal.returns-clause-steps
returns-clause-steps c =
    let f = c.self.inside in
    sym c.self.view_is ∙ after-first f.last f.front.now c.in_ok-entry.entry c.first_after.ensures.rises (sym c.first_after.ensures.first ∙ c.in_ok-entry.was)

pub returns-clause-goes : goal.returns-clause-goes
returns-clause-goes c =
    let f = c.self.inside in
    let steps = sym c.self.view_is ∙ after-first f.last f.front.now c.in_ok-entry.entry c.first_after.ensures.rises (sym c.first_after.ensures.first ∙ c.in_ok-entry.was) in
    let fewer = ap (λ (l : List (PairingVector × List (List Leg))). length l) steps in
    record { on = λ _. (tt, tt, omega (arith, fewer)); keeps = tt; rests = λ _. tt }
