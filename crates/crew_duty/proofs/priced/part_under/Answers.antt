use Rattle.std.proofs.Common.{◌≡◌, ◌∷◌, ◌++◌, [], ◌∙◌, List, ap, arith, map, sym}
use Rattle.std.proofs.lemmas.List.{map-append}
use Rattle.crew_pairing.specs.Machinery.Blocks.{part_of}
use Rattle.crew_pairing.specs.declared.duty.Duty.{Duty}
use Rattle.crew_pairing.proofs.Blocks.{part-more}
use Rattle.crew_duty.specs.Machinery.Prices.{under_prices}
use Rattle.crew_duty.proofs.priced.part_under.Goals as goal

pub loop-place-preserved : goal.loop-place-preserved
loop-place-preserved c =
    let u = under_prices c.args.prices.now in
    let duties = c.args.duties.now in
    let from = c.args.from in
    let place = c.loop-place.place in
    let duty = c.at.result.now in
    let so_far = part_of duties from place in
    let more = part-more duties from place duty (omega (arith, c.loop-place.auto.place)) c.at.ensures in
    let one : c.duty_under.result ≡ u duty = c.duty_under.ensures in
    c.in_ok-push.ensures.items ∙ (ap (λ (ds : List Duty). ds ++ c.duty_under.result ∷ []) c.loop-place.invariant
    ∙ (ap (λ (d : Duty). map u so_far ++ d ∷ []) one ∙ (sym (map-append u so_far (duty ∷ [])) ∙ ap (map u) more)))
