use Rattle.std.proofs.Common.{arith}
use Rattle.std.proofs.lemmas.Int.{ints}
use Rattle.crew_net.proofs.Forward.{ends-no-earlier}
use Rattle.crew_net.proofs.Geometry.{rests-parts}
use Rattle.crew_net.proofs.laws.arcs_rise_in_report.Goals as goal

pub returns : goal.returns
returns c = λ s t duties before next checked sound are m may.
    let later = ends-no-earlier s t duties sound are before m in
    let rest = (rests-parts s.max_rest before.to next.from before.release next.report may).1 in
    omega (arith, ints, later, rest)
