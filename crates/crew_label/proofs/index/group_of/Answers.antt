use Rattle.std.proofs.Common.{ℕ, List, Vec, Global, sym, subst}
use Rattle.crew_resource.specs.Members.{Member}
use Rattle.crew_label.specs.Machinery.Indexes.{IsPlaced}
use Rattle.crew_label.specs.declared.blocks.Block.{Block}
use Rattle.crew_label.proofs.index.group_of.Goals as goal

pub returns-clause-least : goal.returns-clause-least
returns-clause-least g c b m =
    c.least_of_blocks-least.ensures b (subst (λ (bs : List Block). Member bs b) (sym c.deref-3.ensures.value) m)

pub returns-clause-held : goal.returns-clause-held
returns-clause-held g c e m h =
    c.in_ok-blocks.ensures e m (subst (λ (ps : List (Vec ℕ Global)). IsPlaced ps e.place) (sym c.deref-2.ensures.value) (c.in_ok-divide.ensures.placed e.place h))
