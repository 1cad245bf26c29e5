use Rattle.std.proofs.Common.{◌≡◌, ◌∙◌, false, sym, true}
use Rattle.crew_solve.proofs.best.floor_below.Goals as goal

pub returns-then-not-may_begin_with-clause-low : goal.returns-then-not-may_begin_with-clause-low
returns-then-not-may_begin_with-clause-low c = λ may.
    let both : true ≡ false = sym may ∙ (sym c.may_begin_with.ensures.may ∙ c.if-not-may_begin_with.true) in
    absurd (let z = both in (cc))
