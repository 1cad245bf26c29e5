use Rattle.std.proofs.Common.{arith, map, ap, ◌∙◌}
use Rattle.std.proofs.lemmas.Grind.{common_steps}
use Rattle.std.proofs.lemmas.List.{take_all}
use Rattle.crew_pairing.specs.declared.duty.Duty.{Duty}
use Rattle.crew_audit.proofs.chain.walk_of.Goals as goal

pub returns : goal.returns
returns c =
    c.new.ensures ∙ (c.loop-duty.invariant ∙ ap (map (λ (d : Duty). d.key)) (take_all c.loop-duty.duty-index c.args.duties.now c.loop-duty-test.false))

pub loop-duty-preserved : goal.loop-duty-preserved
loop-duty-preserved c = grind (arith, common_steps)
