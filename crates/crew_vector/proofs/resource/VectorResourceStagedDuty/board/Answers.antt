use Rattle.std.proofs.Common.{◌≡◌, pos, ◌+ℤ◌, ◌-ℤ◌, ◌∙◌, rules}
use Rattle.crew_vector.specs.Machinery.Amounts.{guarantee_own, pay_own, rig_own}
use Rattle.crew_vector.specs.Machinery.Numbers.{Numbers, named}
use Rattle.crew_vector.specs.Machinery.VectorResources.{within_caps}
use Rattle.crew_vector.proofs.Capped.{capped-parts}
use Rattle.crew_vector.proofs.resource.VectorResourceStagedDuty.board.Goals as goal

pub returns : goal.returns
returns c =
    let r = c.args.self.now in
    let v = c.args.value.now in
    let d = c.args.duty.now in
    let n : Numbers = (
      (v.duty_pay +ℤ pay_own d, (v.trip_rig +ℤ rig_own r.trip_rig d, v.guarantee +ℤ guarantee_own r.guarantee d)),
      ((v.fdp +ℤ d.fdp, v.fly +ℤ d.fly), (v.duties +ℤ pos 1, v.away +ℤ (d.release -ℤ d.report))),
    ) in
    let is : c.within.result ≡ within_caps r (named n) = search rules in
    is ∙ capped-parts r n
