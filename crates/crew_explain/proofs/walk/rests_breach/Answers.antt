use Rattle.std.proofs.Common.{◌≡◌, ◌∙◌, ◌+◌, List, drop, subst, sym}
use Rattle.crew_pairing.specs.declared.duty.Duty.{Duty}
use Rattle.crew_explain.specs.Rules.{between, first_of, rests}
use Rattle.crew_explain.proofs.Asking.{drop-next, hit-append}
use Rattle.crew_explain.proofs.walk.rests_breach.Goals as goal

pub returns-in-Some : goal.returns-in-Some
returns-in-Some c =
    let s = c.args.settings.now in
    let place = c.loop-next.place in
    let last = c.loop-next.last.now in
    let next = c.next-item.result in
    let i = c.loop-next.next-index in
    let others = c.args.others.now in
    let there = subst (λ (ds : List Duty). first_of (rests s place last ds) ≡ first_of (rests s 2 c.args.first.now others)) (drop-next others i next c.loop-next-test.true c.next-item.is) c.loop-next.invariant.rest in
    hit-append (between s place last next) (rests s (place + 1) next (drop (i + 1) others)) c.in-Some.breach (sym c.in-Some.is ∙ c.between_breach.ensures) ∙ there
