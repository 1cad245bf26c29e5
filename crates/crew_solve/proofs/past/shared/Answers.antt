use Rattle.std.proofs.Common.{◌≡◌, ◌∙◌, ◌+◌, ◌++◌, ◌∷◌, [], ap, get_or, map, sym, take}
use Rattle.std.specs.Arc.{arc_value}
use Rattle.std.proofs.lemmas.List.{map-append}
use Rattle.crew_solve.proofs.Listed.{take-more}
use Rattle.crew_sweep.specs.Sweeps.{BaseSweep}
use Rattle.crew_solve.proofs.past.shared.Goals as goal

pub loop-base-preserved : goal.loop-base-preserved
loop-base-preserved c =
    let arcs = c.args.fronts.now in
    let i = c.loop-base.base-index in
    let a = c.base-item.result in
    let one = get_or arcs i a in
    let more : map arc_value (take (i + 1) arcs) ≡ map arc_value (take i arcs) ++ arc_value {X = BaseSweep} one ∷ [] = ap (map arc_value) (take-more arcs i a c.loop-base-test.true) ∙ map-append arc_value (take i arcs) (one ∷ []) in
    c.in_ok-push_shared.ensures ∙ ((λ k. c.loop-base.invariant k ++ arc_value {X = BaseSweep} (c.base-item.is k) ∷ []) ∙ sym more)
