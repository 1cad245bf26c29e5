use Rattle.std.proofs.Common.{◌<◌, ◌+◌, List, false, length, refl, subst, sym, arith, ⊎_elim}
use Rattle.crew_net.proofs.Slices.{item-in}
use Rattle.crew_pairing.specs.declared.vector.PairingVector.{PairingVector}
use Rattle.crew_pool.specs.Apart.{AreApart}
use Rattle.crew_pool.specs.Counted.{AreCounted, IsCounted}
use Rattle.crew_pool.specs.Machinery.Meets.{vectors_of}
use Rattle.crew_pool.specs.declared.label_walk.LabelWalk.{LabelWalk}
use Rattle.crew_pool.proofs.BoardLemmas.{counted_alike}
use Rattle.crew_resource.proofs.Members.{Member-get_or}
use Rattle.crew_vector.specs.Dominance.{is_at_most}
use Rattle.crew_sweep.specs.Machinery.Parts.{IsPart}
use Rattle.crew_sweep.proofs.Parts.{part-after, part-one}
use Rattle.crew_sweep.proofs.slide.Slide.go_on.Goals as goal

pub merge-requires-clause-apart : goal.merge-requires-clause-apart
merge-requires-clause-apart c =
    subst (λ (ls : List (PairingVector × LabelWalk)). AreApart is_at_most (vectors_of ls)) (sym c.as_slice.ensures.all) c.as_slice.ensures.apart

pub merge-requires-clause-between : goal.merge-requires-clause-between
merge-requires-clause-between c a b m n e =
    let held = c.args.held.now in
    let within : c.loop-place.place < length held = omega (arith, c.loop-place-test.true, c.requires.within) in
    let known = Member-get_or held c.loop-place.place c.index-held-place.result within (sym c.index-held-place.is) in
    let count = λ (v : PairingVector). v.duties in
    let counts = subst (λ (ls : List (PairingVector × LabelWalk)). AreCounted count c.args.walks.now false ls) (sym c.as_slice.ensures.all) (c.requires.held.pending c.index-held-place.result known) in
    counted_alike count c.args.walks.now false a b (c.loop-place.invariant.0.counts a m) (counts b n) e

pub merge-requires-clause-within : goal.merge-requires-clause-within
merge-requires-clause-within c a b m n e =
    let held = c.args.held.now in
    let within : c.loop-place.place < length held = omega (arith, c.loop-place-test.true, c.requires.within) in
    let known = Member-get_or held c.loop-place.place c.index-held-place.result within (sym c.index-held-place.is) in
    let count = λ (v : PairingVector). v.duties in
    let counts = subst (λ (ls : List (PairingVector × LabelWalk)). AreCounted count c.args.walks.now false ls) (sym c.as_slice.ensures.all) (c.requires.held.pending c.index-held-place.result known) in
    counted_alike count c.args.walks.now false a b (counts a m) (counts b n) e

pub loop-place-preserved : goal.loop-place-preserved
loop-place-preserved c =
    let held = c.args.held.now in
    let walks = c.args.walks.now in
    let middle = c.args.self.now.middle in
    let place = c.loop-place.place in
    let item = c.index-held-place.result in
    let labels = c.as_slice.result.now in
    let inv = c.loop-place.invariant in
    let within : place < length held = omega (arith, c.loop-place-test.true, c.requires.within) in
    let at = item-in held held place item within refl c.index-held-place.is in
    let one = part-one walks held c.requires.held place item at in
    let own = subst (λ (ls : List (PairingVector × LabelWalk)). IsPart walks held place (place + 1) ls) (sym c.as_slice.ensures.all) one in
    let counted = IsCounted (λ (v : PairingVector). v.duties) walks false in (
      part-after walks held middle place (place + 1) c.loop-place.self.after labels c.merge.new.self (let x = inv.1 in omega (arith, x, c.requires.middle)) (omega arith) inv.0
          own c.in_ok-merge.ensures.local
          (λ l m. ⊎_elim {C = counted l} (inv.0.counts l) (own.counts l) (c.in_ok-merge.ensures.from l m)),
      (let x = inv.1 in omega (arith, x)),
      inv.2,
      inv.3,
    )
