use Rattle.std.proofs.Common.{◌≡◌, ◌∙◌, ◌+◌, ◌++◌, ◌∷◌, [], None, ap, refl, subst, sym, map, get_or, take}
use Rattle.std.specs.Arc.{arc_value}
use Rattle.std.proofs.lemmas.List.{map-append, take_all}
use Rattle.crew_solve.specs.Machinery.Floors.{AreKnown, IsKnown}
use Rattle.crew_solve.proofs.Flooring.{known-more, known-stays}
use Rattle.crew_solve.proofs.Listed.{take-more}
use Rattle.crew_sweep.specs.Sweeps.{BaseSweep}
use Rattle.crew_solve.proofs.floors.known.Goals as goal

pub loop-base-preserved : goal.loop-base-preserved
loop-base-preserved c =
    let arcs = c.args.fronts.now in
    let i = c.loop-base.base-index in
    let a = c.base-item.result in
    let b : BaseSweep = arc_value (get_or arcs i a) in
    let is = c.deref-in-loop-base.ensures ∙ ap (arc_value {X = BaseSweep}) c.base-item.is in
    let one : IsKnown None b c.in_ok-one.one = subst (λ (s : BaseSweep). IsKnown None s c.in_ok-one.one) is c.in_ok-one.ensures in
    let more : map arc_value (take (i + 1) arcs) ≡ map arc_value (take i arcs) ++ b ∷ [] = ap (map arc_value) (take-more arcs i a c.loop-base-test.true) ∙ map-append arc_value (take i arcs) (get_or arcs i a ∷ []) in
    let all = known-more None (map arc_value (take i arcs)) c.loop-base.known.items b c.in_ok-one.one c.loop-base.invariant one in
    subst (λ ss. AreKnown None ss c.push.new.self.items) (sym more) (subst (AreKnown None (map arc_value (take i arcs) ++ b ∷ [])) (sym c.in_ok-push.ensures.items) all)

pub returns : goal.returns
returns c = λ beside.
    known-stays None beside (map arc_value c.args.fronts.now) c.loop-base.known.items (λ p e. refl) (λ w e. absurd (let z = e in (cc)))
    (subst (λ l. AreKnown None (map arc_value l) c.loop-base.known.items) (take_all c.loop-base.base-index c.args.fronts.now c.loop-base-test.false) c.loop-base.invariant)
