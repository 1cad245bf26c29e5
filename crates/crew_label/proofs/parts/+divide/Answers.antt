use Rattle.std.proofs.Common.{◌⊎◌, ⊎_elim}
use Rattle.crew_resource.specs.Members.{Member}
use Rattle.crew_label.specs.Machinery.Indexes.{is_low}
use Rattle.crew_label.proofs.Held.{on_a_side}
use Rattle.crew_label.proofs.parts.+divide.Goals as goal

pub returns-clause-placed : goal.returns-clause-placed
returns-clause-placed g t c k m =
    let side : Member c.in_ok-low.low.items k ⊎ Member c.in_ok-low.high.items k =
    on_a_side (is_low c.args.list.now c.cut_of-cut.result) c.args.places.items c.deref-2.result.now c.in_ok-low.low.items c.in_ok-low.high.items k
    c.deref-2.ensures.value c.in_ok-low.ensures.low c.in_ok-low.ensures.high m in
    ⊎_elim (λ h. c.in_ok-divide-2.ensures.stays k (c.in_ok-divide.ensures.placed k h)) (λ h. c.in_ok-divide-2.ensures.placed k h) side

pub returns-clause-stays : goal.returns-clause-stays
returns-clause-stays g t c k h = c.in_ok-divide-2.ensures.stays k (c.in_ok-divide.ensures.stays k h)
