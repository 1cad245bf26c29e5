use Rattle.std.proofs.Common.{◌≡◌, [], ◌∷◌, ◌++◌, ◌∙◌, ap, ◌+◌, arith, of_z, refl, sym, take, to_z, w64}
use Rattle.std.proofs.lemmas.Int.{ints}
use Rattle.std.proofs.lemmas.List.{take_more}
use Rattle.crew_audit.specs.declared.partial.Partial.{Partial}
use Rattle.crew_audit.proofs.Counts.{least-more}
use Rattle.crew_audit.proofs.tally.Tally.of.Goals as goal

pub loop-partial-preserved : goal.loop-partial-preserved
loop-partial-preserved c =
    let ps = c.args.partials.now in
    let i = c.loop-partial.partial-index in
    let p = c.partial-item.result in
    let grown : take (i + 1) ps ≡ take i ps ++ p ∷ [] = take_more ps i p c.loop-partial-test.true ∙ ap (λ (x : Partial). take i ps ++ x ∷ []) (sym c.partial-item.is) in
    let read : to_z w64 (of_z w64 c.cost.result) ≡ c.cost.result = omega (arith, ints, c.cost.type_inv) in
    let least = c.least-cost.ensures p refl (sym (read ∙ c.cost.ensures)) in
    rw (grown, least) (least-more (take i ps) p c.loop-partial.cost c.loop-partial.invariant)
