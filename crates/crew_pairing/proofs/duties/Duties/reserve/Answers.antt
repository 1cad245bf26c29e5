use Rattle.std.proofs.Common.{sym, subst, List}
use Rattle.crew_pairing.specs.declared.duties.Block.{Block}
use Rattle.crew_pairing.specs.Machinery.Blocks.{AreLaid}
use Rattle.crew_pairing.proofs.duties.Duties.reserve.Goals as goal

pub invariant_of-self : goal.invariant_of-self
invariant_of-self c = subst (λ (bs : List Block). AreLaid bs c.self.inside.places.items) (sym c.reserve.ensures.items) c.self.invariant

pub invariant_of-self-in_err-reserve-2 : goal.invariant_of-self-in_err-reserve-2
invariant_of-self-in_err-reserve-2 c =
    subst (AreLaid c.reserve.new.self.items) (sym c.reserve-2.ensures.items) (subst (λ (bs : List Block). AreLaid bs c.self.inside.places.items) (sym c.reserve.ensures.items) c.self.invariant)

pub invariant_of-self-2 : goal.invariant_of-self-2
invariant_of-self-2 c =
    subst (AreLaid c.reserve.new.self.items) (sym c.reserve-2.ensures.items) (subst (λ (bs : List Block). AreLaid bs c.self.inside.places.items) (sym c.reserve.ensures.items) c.self.invariant)
