use Rattle.std.proofs.Common.{◌≡◌, ◌∙◌, ◌-ℤ◌, ◌∷◌, [], ap, arith, of_z, pos, to_z, w64}
use Rattle.std.proofs.lemmas.Int.{ints}
use Rattle.std.specs.FinMap as map
use Rattle.crew_explain.specs.Rules.{at_least, first_of, least_gap, same}
use Rattle.crew_explain.specs.declared.breach.Rule.TheVariants as The
use Rattle.crew_explain.proofs.Asking.{asked}
use Rattle.crew_explain.proofs.connections.connection_breach.Goals as goal

pub returns : goal.returns
returns c =
    let s = c.args.settings.now in
    let before = c.args.before.now in
    let next = c.args.next.now in
    let k = c.requires in
    let asks = least_gap s (map.get c.args.timetable.now.turns (before.id, next.id)) in
    let told : c.least_gap-rule.result ≡ asks = c.least_gap-rule.ensures.value ∙ ap (least_gap s) c.turn.ensures.held in
    let gap : to_z w64 (of_z w64 (to_z w64 (of_z w64 c.get.result) -ℤ to_z w64 (of_z w64 c.get-2.result))) ≡ next.dep -ℤ before.arr = omega (arith, ints, c.get.ensures.value, c.get-2.ensures.value, c.get.ensures.range, c.get-2.ensures.range) in
    let one : (c.eq.result, c.of.result) ≡ same The.Airport c.args.duty c.args.leg before.to next.from = λ i. (c.eq.ensures i, c.of.ensures i) in
    let least : to_z w64 (of_z w64 c.least_gap-rule.result.1) ≡ asks.1 = (let fits : to_z w64 (of_z w64 c.least_gap-rule.result.1) ≡ c.least_gap-rule.result.1 = omega (arith, ints, c.least_gap-rule.ensures.range) in fits) ∙ ap (λ a. a.1) told in
    let two = c.at_least.ensures ∙ (λ i. at_least (told i).0 c.args.duty c.args.leg (gap i) (least i)) in
    let three = c.at_most.ensures ∙ asked The.Sit c.args.duty c.args.leg _ _ (next.dep -ℤ before.arr) (pos s.sit) gap (omega (arith, ints, c.from-most.ensures, k.sit_most)) in
    c.first_broken.ensures ∙ (λ i. first_of (one i ∷ two i ∷ three i ∷ []))
