use Rattle.std.proofs.Common.{◌∙◌, ap}
use Rattle.crew_fronts.specs.crew_solve.Machinery.Takes.{offered}
use Rattle.crew_fronts.proofs.crew_solve_lemmas.Taking.{offered-more}
use Rattle.crew_plan.proofs.taken.Taken.offer_each.Goals as goal

pub loop-pairing-preserved : goal.loop-pairing-preserved
loop-pairing-preserved c =
    let p = c.in-Some.pairing in
    c.in_ok-offer.ensures ∙ (ap (λ t. offered t p) c.loop-pairing.invariant ∙ offered-more c.args.self.now c.loop-pairing.yielded p)
