use Rattle.std.proofs.Common.{◌≡◌, ◌∙◌, Some, ap, sym, subst}
use Rattle.crew_solve.specs.Machinery.Takes.{Taken, gone_past, last_of}
use Rattle.crew_solve.proofs.Taking.{last-there}
use Rattle.crew_solve.proofs.taken.Taken.go_past.Goals as goal
use Rattle.crew_solve.proofs.taken.Taken.go_past.Goals.{in-Some-1, in-None-1}

pub returns-in_ok-last : goal.returns-in_ok-last
returns-in_ok-last c =
    let ps = c.args.pairings.now in
    let inside = c.self.inside in
    let same : last_of inside.last ps ≡ Some c.in_ok-last.last = last-there inside.last ps c.in-Some.last.now (sym c.in-Some.ensures.value) ∙ ap Some (sym c.in_ok-last.ensures) in
    let whole = ap (λ o. let t : Taken = record { share = inside.share; last = o; pairings = inside.pairings.items } in t) (sym same) in
    subst (λ (t : Taken). c.match-self.self ≡ gone_past t ps) c.self.view_is
    (elim c.match-self.branch [ in-Some-1 w ↦ w.self-is ∙ whole | in-None-1 w ↦ w.self-is ∙ whole ])
