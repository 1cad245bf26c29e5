use Rattle.std.proofs.Common.{refl, rules, subst, sym, w64}
use Rattle.std.proofs.lemmas.Int.{to_z-of_z}
use Rattle.crew_answers.specs.Schedules.{IsDated}
use Rattle.crew_answers.specs.Shown.{long_resource}
use Rattle.crew_flights.specs.Timetable.{IsSound, Timetable}
use Rattle.crew_pairing.specs.Duties.{AreDuties}
use Rattle.crew_pass.specs.Passes as Passes
use Rattle.crew_fronts.specs.Fronts.{ShowsFronts}
use Rattle.crew_fronts.specs.Machinery.Kept.{AreListed, AreValued, IsPassed, IsPassedBy, fronts_of_pass}
use Rattle.crew_fronts.proofs.Passed.{pass-right}
use Rattle.crew_fronts.proofs.Remembered.{valued}
use Rattle.crew_fronts.proofs.passed_fronts.PassedFronts.of.Goals as goal

-- what the pass has left
made : (c : goal.After-list) → IsPassed c.args.base c.args.price c.args.passed.pass
made c =
    let p = c.args.passed.pass in
    let net = p.net in
    let s = net.settings in
    let ground = c.requires.ground in
    let r = long_resource s c.args.price in
    let covered = c.requires.covered r refl in
    let values : AreValued p = valued net c.args.base c.args.price p _ _ refl covered in
    let listed = subst AreListed c.fronts.ensures.shows c.list.ensures in
    let shows : (t : Timetable) → IsSound t → IsDated t → AreDuties s t net.duties → Passes.ShowsFronts s t c.args.base c.args.price p = λ t sound dated are.
    c.long_passes_show_the_fronts.ensures.fronts s t c.args.base c.args.price r net p refl refl ground.checked sound dated are refl covered in
    record {
      long = ground.long;
      sound = ground.sound;
      valued = values;
      listed = listed;
      right = λ t sound dated are. pass-right c.args.base c.args.price p t are.rising values listed (shows t sound dated are);
    }

pub invariant_of-result : goal.invariant_of-result
invariant_of-result c =
    subst (λ z. IsPassedBy c.args.base z c.args.passed) (sym (to_z-of_z w64 c.args.price (search rules))) (record { passed = made c; resource = c.requires.resource })

pub returns-clause-right : goal.returns-clause-right
returns-clause-right c t sound dated are =
    subst (λ z. ShowsFronts t (fronts_of_pass c.args.base z c.args.passed.pass)) (sym (to_z-of_z w64 c.args.price (search rules))) ((made c).right t sound dated are)
