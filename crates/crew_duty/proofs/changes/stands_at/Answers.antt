use Rattle.std.proofs.Common.{◌<◌, ◌∙◌, arith, length, subst, sym}
use Rattle.std.proofs.lemmas.Bool.Decides.{nat_tests}
use Rattle.crew_resource.specs.Members.{Member}
use Rattle.crew_duty.proofs.Facts.{equal-flights}
use Rattle.crew_duty.proofs.Kept.{Member-at}
use Rattle.crew_duty.proofs.changes.stands_at.Goals as goal

pub returns-in-Some : goal.returns-in-Some
returns-in-Some c = λ yes.
    let others = c.args.others.now in
    let other = c.in-Some.other.now in
    let same = equal-flights other c.args.flight.now (sym c.eq.ensures ∙ yes) in
    let found = c.in-Some.ensures.lookup in
    let within : c.args.place < length others = grind (arith, nat_tests, found.0) in
    subst (Member others) (sym found.1 ∙ same) (Member-at others c.args.place other within)
