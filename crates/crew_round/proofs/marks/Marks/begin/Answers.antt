use Rattle.std.proofs.Common.{subst, sym}
use Rattle.crew_dirty.specs.Carried.{Carried, IsCarriedOver}
use Rattle.crew_net.specs.Nets.{Net}
use Rattle.crew_round.proofs.Begun.{none-begun}
use Rattle.crew_round.proofs.marks.Marks.begin.Goals as goal

pub invariant_of-result : goal.invariant_of-result
invariant_of-result c =
    let m = c.in_ok-marking.marking in
    let t = c.requires.0 in
    let u = c.requires.1 in
    let old = c.requires.2 in
    none-begun t u old m
    (subst (λ (k : Carried). IsCarriedOver t u old m.net k) (sym c.in_ok-marking.ensures.carried) (subst (λ (n : Net). IsCarriedOver t u old n c.args.carried) (sym c.in_ok-marking.ensures.net) c.requires.3))
    c.in_ok-marking.ensures.marks
