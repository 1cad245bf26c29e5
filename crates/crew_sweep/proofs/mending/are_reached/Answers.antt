use Rattle.std.proofs.Common.{List, subst, sym}
use Rattle.crew_pairing.specs.declared.vector.PairingVector.{PairingVector}
use Rattle.crew_pool.specs.declared.label_walk.LabelWalk.{LabelWalk}
use Rattle.crew_resource.specs.Members.{Member}
use Rattle.crew_resource.proofs.Members.{Member-get_or}
use Rattle.crew_sweep.proofs.mending.are_reached.Goals as goal

abbrev Labels : Type 0
Labels = List (PairingVector × LabelWalk)

pub ends_unchanged-ends-requires-clause-there : goal.ends_unchanged-ends-requires-clause-there
ends_unchanged-ends-requires-clause-there c =
    let own = Member-get_or c.as_slice-label-items.result.now c.loop-label.label-index c.label-item.result c.loop-label-test.true (sym c.label-item.is) in
    c.requires.there c.label-item.result (subst (λ (ls : Labels). Member ls c.label-item.result) c.as_slice-label-items.ensures.all own)

pub ends_unchanged-ends-requires-clause-ranks : goal.ends_unchanged-ends-requires-clause-ranks
ends_unchanged-ends-requires-clause-ranks c =
    let own = Member-get_or c.as_slice-label-items.result.now c.loop-label.label-index c.label-item.result c.loop-label-test.true (sym c.label-item.is) in
    c.requires.ranks c.label-item.result (subst (λ (ls : Labels). Member ls c.label-item.result) c.as_slice-label-items.ensures.all own)
