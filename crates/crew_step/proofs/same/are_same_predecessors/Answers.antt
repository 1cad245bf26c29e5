use Rattle.std.proofs.Common.{◌∙◌, List, ap, arith, subst, IsTrue}
use Rattle.crew_pairing.specs.Legs.{Leg}
use Rattle.crew_pairing.specs.declared.duty.Duty.{Duty}
use Rattle.crew_pairing.specs.declared.vector.PairingVector.{PairingVector}
use Rattle.crew_step.specs.Machinery.Feeds.{fed}
use Rattle.crew_step.proofs.Loops.{item-at}
use Rattle.crew_step.proofs.Sames.{same-at, same-more}
use Rattle.crew_step.proofs.same.are_same_predecessors.Goals as goal

pub returns-then-not-is_same_predecessor : goal.returns-then-not-is_same_predecessor
returns-then-not-is_same_predecessor c =
    let a = c.args.a.now in
    let b = c.args.b.now in
    let i = c.loop-place.place in
    let x = c.index-a-place.result in
    let y = c.index-b-place.result in (
      λ t. absurd (let q : ⊥ = (cc) in q),
      λ e.
          let s = same-at fed a b i x y (item-at a i x (omega arith) c.index-a-place.is) (item-at b i y (omega arith) c.index-b-place.is) e in
          subst IsTrue c.if-not-is_same_predecessor.true (c.is_same_predecessor.ensures.1 (ap (λ z. z.0) s, ap (λ z. z.1) s)),
    )

pub loop-place-preserved : goal.loop-place-preserved
loop-place-preserved c =
    let Fed = Duty × List (PairingVector × List (List Leg)) in
    let a = c.args.a.now in
    let b = c.args.b.now in
    let i = c.loop-place.place in
    let x = c.index-a-place.result in
    let y = c.index-b-place.result in
    let k = c.is_same_predecessor.ensures.0 c.if-not-is_same_predecessor.false in
    let s = ap (λ z. let p : Fed = (z, x.front.value) in p) k.0 ∙ ap (λ z. let p : Fed = (y.duty, z) in p) k.1 in
    same-more fed a b i x y (item-at a i x (omega arith) c.index-a-place.is) (item-at b i y (omega arith) c.index-b-place.is) c.loop-place.invariant s
