use Rattle.std.proofs.Common.{◌≡◌, ◌<◌, ◌∙◌, Some, ap, arith, length, sym}
use Rattle.std.specs.Prelude.{slice_get}
use Rattle.std.proofs.lemmas.Bool.Decides.{nat_tests}
use Rattle.std.proofs.lemmas.Option.{slice_get-get_or}
use Rattle.crew_duty.proofs.Blocks.{kept-at}
use Rattle.crew_duty.proofs.beside.EarlierDuties.at.Goals as goal

pub returns-in-Some-Some : goal.returns-in-Some-Some
returns-in-Some-Some c = λ s flights are inside.
    let stands = c.args.self.now.stands.now in
    let found = c.in-Some-Some.ensures.lookup in
    let within : c.args.place < length stands = grind (arith, nat_tests, found.0) in
    let at : slice_get stands c.args.place ≡ Some (Some c.in-Some-Some.block) = slice_get-get_or stands c.args.place c.in-Some-Some.field-0.now within ∙ ap Some (sym found.1 ∙ c.in-Some-Some.field-0-is) in
    kept-at s flights c.args.self.now.duties.now stands c.args.place c.in-Some-Some.block are inside at
