use Rattle.std.proofs.Common.{◌≡◌, ◌∙◌, ◌+ℤ◌, ℤ, pos, ap, filter, arith, of_z, to_z, w64}
use Rattle.std.proofs.lemmas.Int.{ints}
use Rattle.crew_duty.specs.Machinery.Slots.{earlier, is_between, moment}
use Rattle.crew_duty.proofs.Slots.{earlier-least, earlier-most}
use Rattle.crew_duty.proofs.departures.slots_after.Goals as goal

pub moment-requires-clause-least : goal.moment-requires-clause-least
moment-requires-clause-least c =
    let least = c.earlier_of-last.ensures.least (pos 0) (omega (arith, ints, c.get-arrival.ensures, c.from-2.ensures)) (omega (arith, ints, c.requires.least, c.requires.most)) in
    omega (arith, ints, least, c.earlier_of-last.ensures.most, c.requires.most)

pub returns-clause-slots : goal.returns-clause-slots
returns-clause-slots c =
    let s = c.args.settings.now in
    let before = c.args.before.now in
    let low = moment before.to (before.arr +ℤ pos c.args.gap) in
    let high = moment before.to (earlier (before.arr +ℤ pos s.sit) c.args.latest) in
    let early = c.moment-earliest.ensures.value ∙ ap (λ (m : ℤ). moment before.to m) {y = before.arr +ℤ pos c.args.gap} (omega (arith, ints, c.get-arrival.ensures.value, c.from.ensures)) in
    let sat : to_z w64 (of_z w64 (to_z w64 (of_z w64 c.get-arrival.result) +ℤ to_z w64 (of_z w64 c.from-2.result))) ≡ before.arr +ℤ pos s.sit = omega (arith, ints, c.get-arrival.ensures, c.from-2.ensures) in
    let same : to_z w64 (of_z w64 c.args.latest) ≡ c.args.latest = omega (arith, ints, c.requires.least, c.requires.most) in
    let last : c.earlier_of-last.result ≡ earlier (before.arr +ℤ pos s.sit) c.args.latest = c.earlier_of-last.ensures.value ∙ (λ i. earlier (sat i) (same i)) in
    let stays : to_z w64 (of_z w64 c.earlier_of-last.result) ≡ c.earlier_of-last.result =
    omega (arith, ints, last, earlier-most (before.arr +ℤ pos s.sit) c.args.latest, earlier-least (before.arr +ℤ pos s.sit) c.args.latest (pos 0) (omega (arith, ints, c.get-arrival.ensures.range.from, c.get-arrival.ensures.value)) c.requires.least, c.requires.most) in
    let late = c.moment.ensures.value ∙ ap (λ (m : ℤ). moment before.to m) (stays ∙ last) in
    let early-is : to_z w64 (of_z w64 c.moment-earliest.result) ≡ low = omega (arith, ints, early) in
    let late-is : to_z w64 (of_z w64 c.moment.result) ≡ high = omega (arith, ints, late) in
    c.slots_between.ensures ∙ (λ i. filter (is_between (early-is i) (late-is i)) c.args.slots.now)
