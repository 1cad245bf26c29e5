use Rattle.std.proofs.Common.{◌∙◌, ap, map, sym, subst}
use Rattle.std.specs.Arc.{arc_value}
use Rattle.std.specs.List.{flat_map}
use Rattle.crew_solve.proofs.Cheapest.{are-cheapest}
use Rattle.crew_solve.specs.Cheapest.{AreCheapest}
use Rattle.crew_solve.specs.Machinery.Homes.{home_of}
use Rattle.crew_solve.specs.Machinery.Keeps.{CheapestSoFar, keep_all}
use Rattle.crew_solve.specs.Solutions.{HasNetOf, Solution, front_of}
use Rattle.crew_sweep.specs.Sweeps.{BaseSweep}
use Rattle.crew_vector.specs.Bests.{AreFronts}
use Rattle.crew_solve.proofs.solution.Solution.cheapest.Goals as goal

pub returns : goal.returns
returns c = λ s t checked sound.
    let net = c.self.inside.net.value in
    let sweeps = map arc_value c.self.inside.fronts.items in
    let n = c.args.limit in
    let all = c.in_ok-keep_of_bases.ensures ∙ (ap (λ l. keep_all c.new-kept.result (flat_map home_of (map (arc_value {X = BaseSweep}) l))) c.deref-2.ensures.value ∙ ap (λ k. keep_all k (flat_map home_of sweeps)) c.new-kept.ensures) in
    let kept = c.in_ok-into_vec.ensures ∙ ap (λ (k : CheapestSoFar). k.pairings) all in
    subst (λ (x : Solution). HasNetOf s t x → AreFronts s t (front_of x) → AreCheapest s t n c.in_ok-into_vec.field-0.items) c.self.view_is
    (λ has fronts. subst (AreCheapest s t n) (sym kept) (are-cheapest s t checked sound has.0 net sweeps c.self.invariant has.1 has.2 fronts n))
