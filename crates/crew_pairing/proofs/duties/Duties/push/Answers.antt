use Rattle.std.proofs.Common.{rules, ◌≡◌, ◌<◌, ◌∙◌, ◌++◌, sym, subst, ap, ℕ, List, length, replicate}
use Rattle.std.specs.Arc.{arc_value}
use Rattle.crew_pairing.specs.declared.duties.Block.{Block}
use Rattle.crew_pairing.specs.Machinery.Blocks.{AreLaid, block_duties}
use Rattle.crew_pairing.proofs.Blocks.{laid-more}
use Rattle.crew_pairing.proofs.duties.Duties.push.Goals as goal

pub invariant_of-self : goal.invariant_of-self
invariant_of-self c = subst (λ (bs : List Block). AreLaid bs c.self.inside.places.items) (sym c.reserve.ensures.items) c.self.invariant

pub invariant_of-self-in_err-reserve-2 : goal.invariant_of-self-in_err-reserve-2
invariant_of-self-in_err-reserve-2 c =
    subst (AreLaid c.reserve.new.self.items) (sym c.reserve-2.ensures.items) (subst (λ (bs : List Block). AreLaid bs c.self.inside.places.items) (sym c.reserve.ensures.items) c.self.invariant)

pub invariant_of-self-2 : goal.invariant_of-self-2
invariant_of-self-2 c =
    let laid = subst (AreLaid c.reserve.new.self.items) (sym c.reserve-2.ensures.items) (subst (λ (bs : List Block). AreLaid bs c.self.inside.places.items) (sym c.reserve.ensures.items) c.self.invariant) in
    let b : Block = record { start = c.len-start.result; duties = c.args.duties } in
    let count : c.len-3.result ≡ length (arc_value c.args.duties).items = search rules in
    let any : 0 < length (block_duties b) = search rules in
    let start : c.len-start.result ≡ length c.reserve-2.new.self.items = search rules in
    let place : c.len-2.result ≡ length c.reserve.new.self.items = search rules in
    let more = laid-more c.reserve.new.self.items c.reserve-2.new.self.items b laid start any in
    let named : c.name.new.places.items ≡ c.reserve-2.new.self.items ++ replicate (length (block_duties b)) (length c.reserve.new.self.items) =
    c.name.ensures ∙ (ap (λ (n : ℕ). c.reserve-2.new.self.items ++ replicate n c.len-2.result) count ∙ ap (λ (k : ℕ). c.reserve-2.new.self.items ++ replicate (length (block_duties b)) k) place) in
    subst (AreLaid c.push_reserved.new.self.items) (sym named) (subst (λ (bs : List Block). AreLaid bs (c.reserve-2.new.self.items ++ replicate (length (block_duties b)) (length c.reserve.new.self.items))) (sym c.push_reserved.ensures.items) more)
