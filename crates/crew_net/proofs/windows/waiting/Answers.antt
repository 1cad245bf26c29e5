use Rattle.std.proofs.Common.{◌≡◌, ◌∙◌, ◌-ℤ◌, ℤ, pos, ap, arith, of_z, to_z, w64, subst}
use Rattle.std.proofs.lemmas.Int.{ints}
use Rattle.crew_net.specs.Machinery.Moments.{moment}
use Rattle.crew_net.specs.Machinery.Timelines.{IsWithin}
use Rattle.crew_net.proofs.windows.waiting.Goals as goal

pub returns-clause-window : goal.returns-clause-window
returns-clause-window c =
    let s = c.args.settings.now in
    let report = c.args.event.now.report in
    let ms = c.args.moments.now in
    let few = c.requires.checked.max_rest_most in
    let a = c.requires.minute.least in
    let b = c.requires.minute.most in
    let rest = c.from.ensures in
    let first = c.moment-earliest.ensures in
    let last = c.moment-latest.ensures in
    let early : to_z w64 (of_z w64 c.moment-earliest.result) ≡ moment c.args.event.now.airport (report -ℤ pos s.max_rest) =
    (omega (arith, ints, first.bound.least, first.bound.most)) ∙ (first.value ∙ ap (moment c.args.event.now.airport) {y = report -ℤ pos s.max_rest} (omega (arith, ints, few, a, b, rest))) in
    let late : to_z w64 (of_z w64 c.moment-latest.result) ≡ moment c.args.event.now.airport (report -ℤ pos 600) =
    (omega (arith, ints, last.bound.least, last.bound.most)) ∙ (last.value ∙ ap (moment c.args.event.now.airport) {y = report -ℤ pos 600} (omega (arith, ints, a, b))) in
    subst (λ (x : ℤ). IsWithin ms x (moment c.args.event.now.airport (report -ℤ pos 600)) c.window_between.result) early
    (subst (λ (x : ℤ). IsWithin ms (to_z w64 (of_z w64 c.moment-earliest.result)) x c.window_between.result) late c.window_between.ensures)
