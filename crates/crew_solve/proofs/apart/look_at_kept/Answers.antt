use Rattle.std.proofs.Common.{◌≡◌, ◌∙◌, Some, None, ap, arith, length, sym}
use Rattle.crew_solve.specs.Machinery.Takes.{looked_at}
use Rattle.crew_solve.proofs.apart.look_at_kept.Goals as goal

pub unreachable-requires : goal.unreachable-requires
unreachable-requires c = let none : Some c.requires.0 ≡ None = sym c.requires.1 ∙ (sym c.in_ok-beside.ensures.beside ∙ c.in-None.is) in (cc)

pub returns-clause-taken : goal.returns-clause-taken
returns-clause-taken c = λ t is.
    let was : Some c.in-Some.taken ≡ Some t = sym c.in-Some.is ∙ (c.in_ok-beside.ensures.beside ∙ is) in
    let same : c.in-Some.taken ≡ t = (cc) in
    c.in_ok-look_at-in-Some.ensures ∙ (λ i. looked_at (same i) (c.in_ok-beside.ensures.pairings i))

pub returns-clause-found : goal.returns-clause-found
returns-clause-found c = omega (arith, c.len-found.ensures, c.in_ok-beside.pairings.ok.0, ap length c.in_ok-beside.ensures.pairings)
