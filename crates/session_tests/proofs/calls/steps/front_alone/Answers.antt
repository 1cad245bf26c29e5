use Rattle.std.proofs.Common.{◌∙◌, List, pos, subst}
use Rattle.crew_pairing.specs.Legs.{Leg}
use Rattle.crew_pairing.specs.declared.duty.Duty.{Duty}
use Rattle.crew_pairing.specs.declared.vector.PairingVector.{PairingVector}
use Rattle.crew_resource.specs.Members.{Member}
use Rattle.crew_rules.specs.Settings.{standard}
use Rattle.crew_step.specs.Jobs.{IsValueAt}
use Rattle.session_tests.proofs.calls.steps.front_alone.Goals as goal

pub returns : goal.returns
returns c = λ v w m.
    let same = c.in-Ok.ensures.ok ∙ c.into_parts-front.ensures.same.1 in
    subst (λ (d : Duty). IsValueAt standard (pos 0) d v w) c.copy.ensures
    (c.in_ok-alone.ensures v w (subst (λ (es : List (PairingVector × List (List Leg))). Member es (v, w)) same m))
