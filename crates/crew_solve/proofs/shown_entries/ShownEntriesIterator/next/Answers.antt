use Rattle.std.proofs.Common.{List, inl, refl, subst, sym}
use Rattle.crew_pairing.specs.declared.vector.PairingVector.{PairingVector}
use Rattle.crew_pool.specs.declared.label_walk.LabelWalk.{LabelWalk}
use Rattle.crew_resource.specs.Members.{Member}
use Rattle.crew_solve.proofs.Entered.{lent-rest}
use Rattle.crew_solve.proofs.shown_entries.ShownEntriesIterator.next.Goals as goal

pub entry_of-requires-clause-room : goal.entry_of-requires-clause-room
entry_of-requires-clause-room c within =
    let label : PairingVector × LabelWalk = (c.in_ok-value.value, c.in_ok-value.label) in
    c.self.invariant.room within label (subst (λ (ls : List (PairingVector × LabelWalk)). Member ls label) (sym c.in_ok-value.ensures.steps) (inl refl))

pub entry_of-requires-clause-there : goal.entry_of-requires-clause-there
entry_of-requires-clause-there c =
    let label : PairingVector × LabelWalk = (c.in_ok-value.value, c.in_ok-value.label) in
    (c.self.invariant.walks label (subst (λ (ls : List (PairingVector × LabelWalk)). Member ls label) (sym c.in_ok-value.ensures.steps) (inl refl))).0

pub entry_of-requires-clause-ranked : goal.entry_of-requires-clause-ranked
entry_of-requires-clause-ranked c =
    let label : PairingVector × LabelWalk = (c.in_ok-value.value, c.in_ok-value.label) in
    (c.self.invariant.walks label (subst (λ (ls : List (PairingVector × LabelWalk)). Member ls label) (sym c.in_ok-value.ensures.steps) (inl refl))).1

pub invariant_of-self-2 : goal.invariant_of-self-2
invariant_of-self-2 c =
    let i = c.self.inside in
    lent-rest i.sweep.now i.duty.now i.labels (c.in_ok-value.value, c.in_ok-value.label) c.next.new.self c.in_ok-value.ensures.steps c.self.invariant
