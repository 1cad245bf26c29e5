use Rattle.std.proofs.Common.{refl}
use Rattle.crew_solve.proofs.Beside.{shown-of, shows}
use Rattle.crew_solve.proofs.same_front.has_entry.Goals as goal

pub returns-then-pass-clause-found : goal.returns-then-pass-clause-found
returns-then-pass-clause-found c = (λ _. c.requires c.args.wanted.now (c.pass.ensures.found.0 c.if-pass.true), λ _. refl)

pub returns-clause-found : goal.returns-clause-found
returns-clause-found c =
    let front = c.args.front.now in
    let wanted = c.args.wanted.now in (
      λ t. shows front c.lookup.result c.lookup.ensures.entries wanted (c.pass-2.ensures.found.0 t),
      λ m. c.pass-2.ensures.found.1 (shown-of front c.lookup.result c.lookup.ensures.entries wanted m),
    )

pub returns-clause-left : goal.returns-clause-left
returns-clause-left c = λ e m. shows c.args.front.now c.lookup.result c.lookup.ensures.entries e (c.pass-2.ensures.left e m)
